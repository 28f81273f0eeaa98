-- A coarser book beside the old one and the tally: its carry, phase, kept and head follow from theirs. An item leaves them so: while the block of the
-- old book is open the tally takes nothing, and where it closes the tally takes its quotient, and the coarser ring and row are the tally's.
-- Assumes nothing.
use Prim.Native.Nat.{ℕ, ◌+◌, ◌-◌, ◌*◌, ◌/◌, ◌≤◌, ◌<◌, min}
use native.Mathlib.Nat.{div-div-eq-div-mul, add-mul-div_left, div-mul-le_self, mul_comm, mul-le-mul_right, add_comm}
use native.Mathlib.Decide.{ℕ_discrete}
use native.Mathlib.Omega.{arith}
use mathlib.Core.List.{List}
use mathlib.Core.Logic.{◌⊎◌, inl, inr}
use mathlib.Core.Path.{◌≡◌, refl, sym, ap, ap₂, subst, ◌∙◌}
use Rattle.ring.specs.Slot.{written, field}
use Rattle.book.specs.declared.Book.{Book}
use Rattle.book.specs.Derived.{slot_count, field_width}
use Rattle.book.specs.Record.{block_of, slots_of, width_of, record_with, opened}
use Rattle.book.specs.Sound.{Ranges}
use Rattle.book.specs.Adding.{quotient_of, slot_after, kept_more, added_closed, added, added_ring}
use Rattle.book.proofs.Promises.{adding_cases, SameNumbers, block_low, le_or_lt}
use Rattle.sums.specs.Row.{stored, added_row}
use Rattle.sums.proofs.Promises.{row_stored, row_stays}
use Rattle.coarse.specs.Coarsens.{Coarsens}
use Rattle.coarse.specs.Coarser.{fresh_tally}
use Rattle.coarse.proofs.ByTheCount.{block_same}
use Rattle.coarse.proofs.ItemByItem.{added_open_lem, added_closed_lem}
use Rattle.coarse.proofs.CoarserNumbers.{tally_block, new_block, new_slots, new_width}

-- THE RING with one item: where its block closes the quotient goes in, and otherwise it stays
module _ (book : Book) (ring : List ℕ) (item : ℕ) where
  ring_closed : book.phase + 1 ≡ block_of book → added_ring book ring item ≡ written (width_of book) ring book.head (quotient_of book item)
  ring_closed closes =
      adding_cases (λ b r. r ≡ written (width_of book) ring book.head (quotient_of book item)) book ring item
      (λ full. refl) (λ more. absurd (more closes))

  ring_open : (book.phase + 1 ≡ block_of book → ⊥) → added_ring book ring item ≡ ring
  ring_open more = adding_cases (λ b r. r ≡ ring) book ring item (λ closes. absurd (more closes)) (λ still. refl)

-- NUMBERS. How often m·D goes into a carry, by how often D does
quotient_of_quotients : (a k d m : ℕ) → 0 < d → (a + d * k) / (m * d) ≡ (k + a / d) / m
quotient_of_quotients a k d m some =
    ap (λ (t : ℕ). (a + d * k) / t) (mul_comm m d)
    ∙ sym (div-div-eq-div-mul (a + d * k) d m)
    ∙ ap (λ (t : ℕ). t / m) (add-mul-div_left a k some ∙ add_comm (a / d) k)

-- what is left of it
rest_of_rests : (a k d m q g : ℕ) → q * d ≤ a → g * m ≤ k + q → (a + d * k) - g * (m * d) ≡ (a - q * d) + d * ((k + q) - g * m)
rest_of_rests a k d m q g within under =
    let t : ℕ = (k + q) - g * m in
    let whole : k + q ≡ g * m + t = omega arith in
    let parts : d * (k + q) ≡ d * (g * m + t) = ap (λ (u : ℕ). d * u) whole in
    omega (arith, parts, within)

-- a multiple of c is m·c only where it is the m-th
same_multiple : (c j m : ℕ) → 1 ≤ c → j * c ≡ m * c → j ≡ m
same_multiple c j m some same = by (le_or_lt j m) (le_or_lt m j)
  where
    by : (j ≤ m) ⊎ (m < j) → (m ≤ j) ⊎ (j < m) → j ≡ m
    by (inl a) (inl b) = omega arith
    by (inr a) other = absurd (omega (arith, mul-le-mul_right c a))
    by (inl a) (inr b) = absurd (omega (arith, mul-le-mul_right c b))

-- the block of m·c is full only where the one of c is
not_full : (p j c m : ℕ) → p < c → (p + 1 ≡ c → ⊥) → p + j * c + 1 ≡ m * c → ⊥
not_full p j c m low more full = by (le_or_lt m j)
  where
    by : (m ≤ j) ⊎ (j < m) → ⊥
    by (inl h) = omega (arith, mul-le-mul_right c h)
    by (inr h) = omega (arith, more, mul-le-mul_right c h)

-- THE COARSER BOOK that goes with the old book and the tally as they are
abbrev pub together : Book → ℕ → Book → Book → Book
together book times fine tally =
    record_with (opened book.bound book.length (times * book.tolerance)) (fine.carry + book.tolerance * tally.carry)
    (fine.phase + tally.phase * block_of book) fine.kept tally.head

-- the two have their numbers, and the old book's block is open
pub record InStep (book : Book) (times : ℕ) (fine tally : Book) : Type 0 where
  pub fine_numbers : SameNumbers book fine
  pub tally_numbers : SameNumbers (fresh_tally book times) tally
  pub phase_lt : fine.phase < block_of book

module _ (book : Book) (ranges : Ranges book.bound book.length book.tolerance) (times : ℕ) (can : Coarsens book times)
    (fine tally : Book) (step : InStep book times fine tally) (ring row : List ℕ) (item : ℕ) where
  abbrev coarse : Book
  coarse = together book times fine tally

  -- c, n and D of the old book, m, s and b of the tally
  fine_block : block_of fine ≡ block_of book
  fine_block = block_same step.fine_numbers

  its_block : block_of tally ≡ times
  its_block = block_same step.tally_numbers ∙ tally_block book ranges times can

  its_slots : slots_of tally ≡ slots_of coarse
  its_slots =
      (λ i. slot_count (step.tally_numbers.bound_same i) (step.tally_numbers.length_same i) (step.tally_numbers.tolerance_same i))
      ∙ sym (new_slots book ranges times can)

  its_width : width_of tally ≡ width_of coarse
  its_width =
      ap₂ (λ (l d : ℕ). field_width l d) step.tally_numbers.bound_same step.tally_numbers.tolerance_same
      ∙ sym (new_width book ranges times can)

  -- kept grows alike
  kept_alike : kept_more coarse ≡ kept_more fine
  kept_alike = ap (λ (n : ℕ). min n (fine.kept + 1)) (sym step.fine_numbers.length_same)

  -- THE BLOCK STAYS OPEN: so does the coarser one, and the tally takes nothing
  module _ (more : fine.phase + 1 ≡ block_of fine → ⊥) where
    still_open : coarse.phase + 1 ≡ block_of coarse → ⊥
    still_open full =
        not_full fine.phase tally.phase (block_of book) times step.phase_lt (λ e. more (e ∙ sym fine_block))
        (full ∙ new_block book ranges times can)

    pub open_together : added coarse item ≡ together book times (added fine item) tally
    open_together =
        added_open_lem coarse item still_open
        ∙ (λ i. record_with coarse (sums i) (phases i) (kept_alike i) tally.head)
        ∙ ap (λ (b : Book). together book times b tally) (sym (added_open_lem fine item more))
      where
        sums : fine.carry + book.tolerance * tally.carry + item ≡ fine.carry + item + book.tolerance * tally.carry
        sums = omega arith

        phases : fine.phase + tally.phase * block_of book + 1 ≡ fine.phase + 1 + tally.phase * block_of book
        phases = omega arith

    pub open_ring : added_ring coarse ring item ≡ ring
    open_ring = ring_open coarse ring item still_open

    pub open_row : added_row coarse ring row item ≡ row
    open_row = sym (row_stays coarse item ring row still_open)

  -- THE BLOCK CLOSES: the tally takes the quotient, and its block and the coarser one close together
  module _ (closes : fine.phase + 1 ≡ block_of fine) where
    abbrev q : ℕ
    q = quotient_of fine item

    in_groups : coarse.phase + 1 ≡ (tally.phase + 1) * block_of book
    in_groups = omega (arith, closes, fine_block)

    both_close : tally.phase + 1 ≡ block_of tally → coarse.phase + 1 ≡ block_of coarse
    both_close full =
        in_groups ∙ ap (λ (t : ℕ). t * block_of book) (full ∙ its_block) ∙ sym (new_block book ranges times can)

    both_stay : (tally.phase + 1 ≡ block_of tally → ⊥) → coarse.phase + 1 ≡ block_of coarse → ⊥
    both_stay ne full =
        ne (same_multiple (block_of book) (tally.phase + 1) times (block_low book.bound book.tolerance)
        (sym in_groups ∙ full ∙ new_block book ranges times can) ∙ sym its_block)

    abbrev carried : ℕ
    carried = fine.carry + item

    apart : coarse.carry + item ≡ carried + book.tolerance * tally.carry
    apart = omega arith

    -- with one quotient
    same_quotient : quotient_of coarse item ≡ quotient_of tally q
    same_quotient =
        ap (λ (r : ℕ). r / (times * book.tolerance)) apart
        ∙ quotient_of_quotients carried tally.carry book.tolerance times ranges.tolerance_low
        ∙ (λ i. (tally.carry + carried / sym step.fine_numbers.tolerance_same i) / sym step.tally_numbers.tolerance_same i)

    within : q * book.tolerance ≤ carried
    within = subst (λ (d : ℕ). q * d ≤ carried) step.fine_numbers.tolerance_same (div-mul-le_self carried fine.tolerance)

    pub closed_together : added coarse item ≡ together book times (added fine item) (added tally q)
    closed_together =
        by (ℕ_discrete (tally.phase + 1) (block_of tally))
        ∙ ap (λ (b : Book). together book times b (added tally q)) (sym (added_closed_lem fine item closes))
      where
        by : Dec (tally.phase + 1 ≡ block_of tally) → added coarse item ≡ together book times (added_closed fine item) (added tally q)
        by (yes full) =
            added_closed_lem coarse item (both_close full)
            ∙ (λ i. record_with coarse (rests i) (begins i) (kept_alike i) (slot_after (sym its_slots i) tally.head))
            ∙ ap (λ (b : Book). together book times (added_closed fine item) b) (sym (added_closed_lem tally q full))
          where
            begins : 0 ≡ 0 + 0 * block_of book
            begins = omega arith

            under : quotient_of coarse item * times ≤ tally.carry + q
            under =
                rw (same_quotient, sym step.tally_numbers.tolerance_same) (div-mul-le_self (tally.carry + q) tally.tolerance)

            rests : coarse.carry + item - quotient_of coarse item * (times * book.tolerance)
                ≡ carried - q * fine.tolerance + book.tolerance * (tally.carry + q - quotient_of tally q * tally.tolerance)
            rests =
                ap (λ (r : ℕ). r - quotient_of coarse item * (times * book.tolerance)) apart
                ∙ rest_of_rests carried tally.carry book.tolerance times q (quotient_of coarse item) within under
                ∙ (λ i. carried - q * sym step.fine_numbers.tolerance_same i
                + book.tolerance * (tally.carry + q - same_quotient i * sym step.tally_numbers.tolerance_same i))
        by (no ne) =
            added_open_lem coarse item (both_stay ne)
            ∙ (λ i. record_with coarse (sums i) (phases i) (kept_alike i) tally.head)
            ∙ ap (λ (b : Book). together book times (added_closed fine item) b) (sym (added_open_lem tally q ne))
          where
            phases : coarse.phase + 1 ≡ 0 + (tally.phase + 1) * block_of book
            phases = omega (arith, in_groups)

            sums : coarse.carry + item ≡ carried - q * fine.tolerance + book.tolerance * (tally.carry + q)
            sums =
                let one : coarse.carry + item ≡ carried - q * book.tolerance + book.tolerance * (tally.carry + q) = omega (arith, within) in
                one ∙ ap (λ (d : ℕ). carried - q * d + book.tolerance * (tally.carry + q)) (sym step.fine_numbers.tolerance_same)

    pub closed_ring_lem : added_ring coarse ring item ≡ added_ring tally ring q
    closed_ring_lem = by (ℕ_discrete (tally.phase + 1) (block_of tally))
      where
        by : Dec (tally.phase + 1 ≡ block_of tally) → added_ring coarse ring item ≡ added_ring tally ring q
        by (yes full) =
            ring_closed coarse ring item (both_close full)
            ∙ (λ i. written (sym its_width i) ring tally.head (same_quotient i))
            ∙ sym (ring_closed tally ring q full)
        by (no ne) = ring_open coarse ring item (both_stay ne) ∙ sym (ring_open tally ring q ne)

    pub closed_row : added_row coarse ring row item ≡ added_row tally ring row q
    closed_row = by (ℕ_discrete (tally.phase + 1) (block_of tally))
      where
        by : Dec (tally.phase + 1 ≡ block_of tally) → added_row coarse ring row item ≡ added_row tally ring row q
        by (yes full) =
            sym (row_stored coarse item ring row (both_close full))
            ∙ (λ i. stored (sym its_slots i) (field (sym its_width i) (closed_ring_lem i)) row tally.head)
            ∙ row_stored tally q ring row full
        by (no ne) = sym (row_stays coarse item ring row (both_stay ne)) ∙ row_stays tally q ring row ne
