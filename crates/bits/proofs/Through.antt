-- A part of a row of bits read and replaced through the few bytes in which it lies, taken as one word.
-- Assumes nothing.
use Prim.Native.Nat.{ℕ, ◌+◌, ◌-◌, ◌*◌, ◌/◌, ◌%◌, ◌^◌, ◌<◌, ◌≤◌}
use native.Mathlib.Nat.{mod-eq_of_lt}
use native.Mathlib.Omega.{arith}
use mathlib.Core.List.{List, ◌++◌, append_assoc}
use mathlib.Core.Path.{◌≡◌, refl, sym, ap, ap₂, ◌∙◌}
use lib.ListN.{length, take, drop, length-append, length-drop}
use lib.Pow.{pow-add, high, low}
use lib.Seq.{take_at, drop_at, length-take-le}
use Rattle.bits.specs.Row.{digits, number, bits, packed, part_at, with_part}
use Rattle.bits.specs.Bytes.{Bytes}
use Rattle.bits.proofs.Digits.{Binary, binary_append, binary_parts, binary_digits_lem, length_digits, number_append, number_lt, number_digits, digits_number, number_between}
use Rattle.bits.proofs.Rows.{bytes_take, bytes_drop, binary_bits, length_bits, bits_append, packed_append, packed_bits}
use Rattle.bits.proofs.Parts.{in_three, middle}
use Rattle.bits.proofs.Words.{word_of, stored}

-- the part's bits lie in the `count` bytes from `first` on, and `after` bits of these come after it
pub record Spans (from width first count after : ℕ) : Type 0 where
  pub ends : (first + count) * 8 ≡ from + width + after
  pub starts : first * 8 ≤ from

-- the word with a value in the place of the part's bits
abbrev pub patched : ℕ → ℕ → ℕ → ℕ → ℕ
patched word width after value = (word / 2 ^ (width + after) * 2 ^ width + value) * 2 ^ after + word % 2 ^ after

-- Bytes before the word, the word's, and those behind it; the word's bits are those left of the part, its own, and those right of it.
module _ (before word behind left own right : List ℕ) (row : bits word ≡ left ++ (own ++ right)) where
  abbrev all : List ℕ
  all = before ++ (word ++ behind)

  bits_all : bits all ≡ (bits before ++ left) ++ (own ++ (right ++ bits behind))
  bits_all = simp (bits_append, row, append_assoc)

  binary_right_of : Binary left × Binary (own ++ right)
  binary_right_of = binary_parts left (own ++ right) (rw row at (binary_bits word))

  binary_own : Binary own × Binary right
  binary_own = binary_parts own right binary_right_of.1

  part_read : part_at (length (bits before ++ left)) (length own) all ≡ number (bits word) / 2 ^ length right % 2 ^ length own
  part_read =
      rw (bits_all, middle (bits before ++ left) own (right ++ bits behind) (length (bits before ++ left)) (length own) refl refl, row)
      (sym (number_between left own right binary_own.0 binary_own.1))

  module _ (value : ℕ) (fits : value < 2 ^ length own) where
    new : List ℕ
    new = left ++ (digits (length own) value ++ right)

    left_is : number (bits word) / 2 ^ (length own + length right) ≡ number left
    left_is =
        rw (row, number_append left (own ++ right), sym (length-append own right))
        (high (number left) (length (own ++ right)) (number_lt (own ++ right) binary_right_of.1))

    right_is : number (bits word) % 2 ^ length right ≡ number right
    right_is =
        rw (row, sym (append_assoc left own right), number_append (left ++ own) right)
        (low (number (left ++ own)) (length right) (number_lt right binary_own.1))

    number_new : number new ≡ patched (number (bits word)) (length own) (length right) value
    unfolding new
    number_new =
        rw (
          left_is,
          right_is,
          number_append left (digits (length own) value ++ right),
          number_append (digits (length own) value) right,
          length-append (digits (length own) value) right,
          length_digits (length own) value,
          number_digits (length own) value,
          mod-eq_of_lt fits,
          pow-add 2 (length own) (length right),
        )
        (omega arith)

    length_new : length new ≡ length word * 8
    unfolding new
    length_new =
        rw (length-append left (digits (length own) value ++ right), length-append (digits (length own) value) right, length_digits (length own) value)
        (omega (arith, simp length-append at (ap length row), length_bits word))

    new_is : new ≡ digits (length word * 8) (patched (number (bits word)) (length own) (length right) value)
    unfolding new
    new_is =
        sym
        (digits_number (length word * 8) new length_new
        (binary_append left (digits (length own) value ++ right) binary_right_of.0
        (binary_append (digits (length own) value) right (binary_digits_lem (length own) value) binary_own.1)))
        ∙ ap (digits (length word * 8)) number_new

    part_written : Bytes before → Bytes behind
        → with_part (length (bits before ++ left)) (length own) value all
        ≡ before ++ (packed (length word) (digits (length word * 8) (patched (number (bits word)) (length own) (length right) value)) ++ behind)
    unfolding new
    part_written hb hd =
        rw (
          sym new_is,
          bits_all,
          take_at (bits before ++ left) (own ++ (right ++ bits behind)) (length (bits before ++ left)) refl,
          sym (append_assoc (bits before ++ left) own (right ++ bits behind)),
          drop_at (bits before ++ left ++ own) (right ++ bits behind) (length (bits before ++ left) + length own) (length-append (bits before ++ left) own),
          length-append before (word ++ behind),
          length-append word behind,
        )
        (ap (packed (length before + (length word + length behind))) regroup
        ∙ packed_append (length before) (length word + length behind) (bits before) (new ++ bits behind) (length_bits before)
        ∙ ap₂ ◌++◌ (packed_bits before hb)
        (packed_append (length word) (length behind) new (bits behind) length_new ∙ ap (λ (l : List ℕ). packed (length word) new ++ l) (packed_bits behind hd)))
      where
        regroup : bits before ++ left ++ digits (length own) value ++ (right ++ bits behind) ≡ bits before ++ (left ++ (digits (length own) value ++ right) ++ bits behind)
        regroup = simp append_assoc

module _ (from width first count after : ℕ) (lies : Spans from width first count after)
    (bytes : List ℕ) (room : first + count ≤ length bytes) where
  abbrev word : List ℕ
  word = take count (drop first bytes)

  abbrev start : ℕ
  start = from - first * 8

  length_word : length word ≡ count
  length_word = length-take-le count (drop first bytes) (rw (length-drop first bytes) (omega arith))

  length_row : length (bits word) ≡ start + width + after
  length_row = length_bits word ∙ rw length_word (omega (arith, lies.ends, lies.starts))

  length_to : length (bits (take first bytes) ++ take start (bits word)) ≡ from
  length_to =
      rw (
        length-append (bits (take first bytes)) (take start (bits word)),
        length_bits (take first bytes),
        length-take-le first bytes (omega arith),
        length-take-le start (bits word) (rw length_row (omega arith)),
      )
      (omega (arith, lies.starts))

  length_own : length (take width (drop start (bits word))) ≡ width
  length_own = length-take-le width (drop start (bits word)) (rw (length-drop start (bits word), length_row) (omega arith))

  length_right : length (drop width (drop start (bits word))) ≡ after
  length_right = rw (length-drop width (drop start (bits word)), length-drop start (bits word), length_row) (omega arith)

  -- the part's number is in the word, `after` bits from its end
  pub read_word : part_at from width bytes ≡ word_of bytes first count / 2 ^ after % 2 ^ width
  read_word =
      rw (length_to, length_own, length_right, sym (in_three first count bytes)) at
      (part_read (take first bytes) word (drop count (drop first bytes)) (take start (bits word)) (take width (drop start (bits word)))
      (drop width (drop start (bits word))) (in_three start width (bits word)))

  -- with a value in the part's place, the word with the value in it goes into the part's bytes, and all others stay
  pub write_word : Bytes bytes → (value : ℕ) → value < 2 ^ width
      → with_part from width value bytes ≡ stored bytes first (patched (word_of bytes first count) width after value) count
  write_word whole value fits =
      rw (length_to, length_own, length_right, length_word, sym (in_three first count bytes)) at
      (part_written (take first bytes) word (drop count (drop first bytes)) (take start (bits word)) (take width (drop start (bits word)))
      (drop width (drop start (bits word))) (in_three start width (bits word)) value (rw length_own fits)
      (bytes_take first bytes whole) (bytes_drop count (drop first bytes) (bytes_drop first bytes whole)))
