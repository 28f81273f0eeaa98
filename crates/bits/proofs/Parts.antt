-- Parts of lists: a list cut in three, a part that lies in the middle, and a middle that is replaced.
-- Assumes nothing.
use Prim.Native.Nat.{ℕ, ◌+◌, ◌-◌, ◌<◌, ◌≤◌}
use native.Mathlib.Omega.{arith}
use mathlib.Core.List.{List, ◌++◌, append_assoc}
use mathlib.Core.Logic.{◌⊎◌, inl, inr}
use mathlib.Core.Path.{◌≡◌, sym, ap, ◌∙◌}
use lib.ListN.{length, get_or, take, drop, length-append, length-take, length-drop, take-append-drop, get_or-append}
use Rattle.std.proofs.lemmas.Bool.{cases_lt}
use lib.Seq.{take_at, drop_at, length-take-le, get_or-append-add, get_or-take, get_or-drop, ext_get_or}

-- the library's cases_lt, with its two numbers and its two cases the other way round
pub le_or_lt : (a b : ℕ) → (a ≤ b) ⊎ (b < a)
le_or_lt a b = elim (cases_lt b a) [ inl less ↦ inr less | inr not ↦ inl not ]

-- a list is its first a entries, the n after them, and the rest
pub in_three : (a n : ℕ) (l : List ℕ) → l ≡ take a l ++ (take n (drop a l) ++ drop n (drop a l))
in_three a n l = sym (ap (λ (r : List ℕ). take a l ++ r) (take-append-drop n (drop a l)) ∙ take-append-drop a l)

-- the part in the middle, by the lengths of what stands before it and of itself
pub middle : (before row after : List ℕ) (a n : ℕ) → length before ≡ a → length row ≡ n → take n (drop a (before ++ (row ++ after))) ≡ row
middle before row after a n ea en = rw (drop_at before (row ++ after) a ea) (take_at row after n en)

-- two lists of one length have the same part where they have the same entries there
pub same_part : (n a : ℕ) (l l' : List ℕ) → length l ≡ length l'
    → ((i : ℕ) → i < n → get_or l (a + i) 0 ≡ get_or l' (a + i) 0) → take n (drop a l) ≡ take n (drop a l')
same_part n a l l' e same =
    ext_get_or 0 (take n (drop a l)) (take n (drop a l'))
    (simp (length-take, length-drop, e))
    (λ i h.
    let below : i < n = omega (arith, simp (length-take, length-drop) at h) in
    get_or-take n (drop a l) i 0 below ∙ get_or-drop a l i 0 ∙ same i below ∙ sym (get_or-take n (drop a l') i 0 below ∙ get_or-drop a l' i 0))

-- the list with `row` in the place of the n entries from a on
abbrev pub replaced : ℕ → ℕ → List ℕ → List ℕ → List ℕ
replaced a n row l = take a l ++ row ++ drop (a + n) l

module _ (a n : ℕ) (row l : List ℕ) (own : length row ≡ n) (fits : a + n ≤ length l) where
  length_before : length (take a l) ≡ a
  length_before = length-take-le a l (omega arith)

  length_to_end : length (take a l ++ row) ≡ a + n
  length_to_end = rw (length-append (take a l) row, length_before, own)

  pub length_replaced : length (replaced a n row l) ≡ length l
  length_replaced =
      rw (length-append (take a l ++ row) (drop (a + n) l), length_to_end, length-drop (a + n) l) (omega arith)

  -- the new row stands there
  pub replaced_inside : take n (drop a (replaced a n row l)) ≡ row
  replaced_inside = rw (append_assoc (take a l) row (drop (a + n) l)) (middle (take a l) row (drop (a + n) l) a n length_before own)

  -- an entry before it stays
  pub replaced_before : (i : ℕ) → i < a → get_or (replaced a n row l) i 0 ≡ get_or l i 0
  replaced_before i h =
      get_or-append (take a l ++ row) (drop (a + n) l) 0 i (rw length_to_end (omega arith))
      ∙ get_or-append (take a l) row 0 i (rw length_before h)
      ∙ get_or-take a l i 0 h

  -- an entry after it stays
  pub replaced_after : (i : ℕ) → a + n ≤ i → get_or (replaced a n row l) i 0 ≡ get_or l i 0
  replaced_after i h =
      let k : ℕ = i - (a + n) in
      let e : i ≡ length (take a l ++ row) + k = rw length_to_end (omega arith) in
      let e' : a + n + k ≡ i = omega arith in
      ap (λ (j : ℕ). get_or (replaced a n row l) j 0) e
      ∙ get_or-append-add (take a l ++ row) (drop (a + n) l) k 0
      ∙ get_or-drop (a + n) l k 0
      ∙ ap (λ (j : ℕ). get_or l j 0) e'
