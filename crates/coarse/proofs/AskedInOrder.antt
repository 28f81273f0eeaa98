-- How the code asks, one question after the other: 8 and 4, 19, 3, 4 for the second ring, 18. Each answer is the first fault that holds.
-- Assumes nothing.
use Prim.Native.Nat.{ℕ, ◌*◌, ◌%◌, ◌≤◌}
use native.Mathlib.Nat.{mul-le-mul_right}
use native.Mathlib.Omega.{arith}
use mathlib.Core.List.{List, [], ◌∷◌, ◌++◌}
use mathlib.Core.Path.{◌≡◌, refl, sym, ap, ◌∙◌}
use borrow.Author.Tests.{le-ltb, eq-eqb}
use Rattle.refusals.specs.First.{Fault, first_of}
use Rattle.std.proofs.Common.{Ok, Err}
use Rattle.refusals.specs.declared.Refusal.{Refusal}
use Rattle.refusals.specs.Call.{result_of}
use Rattle.refusals.specs.Refused.{number_of}
use Rattle.refusals.proofs.Numbers.{number_not_0}
use Rattle.book.specs.Told.{as_shaped}
use Rattle.refusals.proofs.Laws.{first_stops, first_goes_on, not_outside}
use Rattle.refusals.proofs.Calls.{none_refuses}
use Rattle.book.specs.declared.Book.{Book}
use Rattle.book.specs.declared.shape.Shape.{Shape}
use Rattle.book.specs.Limits.{largest_bound, largest_length}
use Rattle.book.specs.Shape.{number_faults, shape_of, shape_call}
use Rattle.book.specs.Sound.{Ranges, Usable}
use Rattle.book.specs.Calls.{book_faults, room_fault}
use Rattle.book.proofs.Promises.{usable_passes, shape_refusal, shape_known}
use Rattle.sums.specs.Row.{entries_for}
use Rattle.sums.specs.Calls.{row_fault}
use Rattle.coarse.specs.Calls.{coarser_bytes, coarser_entries, tolerance_fault}
use Rattle.coarse.specs.Steps.{row_faults}
use Rattle.coarse.proofs.WhenTaken.{own_faults}

module _ (book : Book) (lent times second row : ℕ) where
  abbrev first : ℕ
  first = first_of (row_faults book lent times second row)

  -- 8 and 4 come first
  pub book_first : {number : ℕ} → number ≡ first_of (book_faults book lent) → (number ≡ 0 → ⊥) → number ≡ first
  book_first {number} found some =
      first_stops (book_faults book lent) (own_faults book times second ++ row_fault (coarser_entries book times) row ∷ []) number found some

  -- what comes behind 19
  abbrev later : List Fault
  later = tolerance_fault book times ∷ room_fault (coarser_bytes book times) second ∷ row_fault (coarser_entries book times) row ∷ []

  -- 8, 4 and 19 are passed by a book with its ring, whose D is a multiple of L, for an m from 2 to 16
  module _ (in_use : Usable book lent) (whole : book.tolerance % book.bound ≡ 0) (low : 2 ≤ times) (high : times ≤ 16) where
    past_19 : first ≡ first_of later
    past_19 =
        first_goes_on (book_faults book lent) (own_faults book times second ++ row_fault (coarser_entries book times) row ∷ [])
        (none_refuses (book_faults book lent) (usable_passes book lent [] in_use tt))
        ∙ rw (eq-eqb (book.tolerance % book.bound) 0 whole, le-ltb times 2 low, le-ltb 16 times high)

    -- 3: of the numbers of the coarser book only its tolerance can be out of range
    tolerance_alone : first_of (number_faults book.bound book.length (times * book.tolerance)) ≡ first_of (tolerance_fault book times ∷ [])
    tolerance_alone =
        let r = in_use.sound.ranges in
        let some : 1 ≤ times * book.tolerance =
        omega (arith, r.tolerance_low, mul-le-mul_right book.tolerance low) in
        rw (
          not_outside 1 largest_bound book.bound r.bound_low r.bound_high,
          not_outside 1 largest_length book.length r.length_low r.length_high,
          le-ltb (times * book.tolerance) 1 some,
        )

    pub too_large : (refusal : Refusal) → as_shaped (Err refusal) ≡ result_of (shape_call book.bound book.length (times * book.tolerance))
        → number_of refusal ≡ first
    too_large refusal told =
        first_stops (tolerance_fault book times ∷ [])
        (room_fault (coarser_bytes book times) second ∷ row_fault (coarser_entries book times) row ∷ []) (number_of refusal)
        (shape_refusal book.bound book.length (times * book.tolerance) told ∙ tolerance_alone) (number_not_0 refusal)
        ∙ sym past_19

    module _ {shape : Shape} (told : as_shaped (Ok shape) ≡ result_of (shape_call book.bound book.length (times * book.tolerance))) where
      known : Ranges book.bound book.length (times * book.tolerance) × (shape ≡ shape_of book.bound book.length (times * book.tolerance))
      known = shape_known book.bound book.length (times * book.tolerance) told refl

      past_3 : first ≡ first_of (room_fault (coarser_bytes book times) second ∷ row_fault (coarser_entries book times) row ∷ [])
      past_3 = past_19 ∙ rw (le-ltb (book.length * book.bound) (times * book.tolerance) known.0.tolerance_high)

      pub bytes_is : shape.bytes ≡ coarser_bytes book times
      bytes_is = ap (λ (s : Shape). s.bytes) known.1

      ring_asked : first_of (room_fault shape.bytes second ∷ []) ≡ first_of (room_fault (coarser_bytes book times) second ∷ [])
      ring_asked = ap (λ (s : Shape). first_of (room_fault s.bytes second ∷ [])) known.1

      row_asked : first_of (row_fault (entries_for shape.slots) row ∷ []) ≡ first_of (row_fault (coarser_entries book times) row ∷ [])
      row_asked = ap (λ (s : Shape). first_of (row_fault (entries_for s.slots) row ∷ [])) known.1

      -- 4: the second ring
      pub short_ring : {number : ℕ} → number ≡ first_of (room_fault shape.bytes second ∷ []) → (number ≡ 0 → ⊥) → number ≡ first
      short_ring {number} found some =
          first_stops (room_fault (coarser_bytes book times) second ∷ []) (row_fault (coarser_entries book times) row ∷ []) number
          (found ∙ ring_asked) some
          ∙ sym past_3

      -- 18, and nothing
      pub row_decides : 0 ≡ first_of (room_fault shape.bytes second ∷ []) → first_of (row_fault (entries_for shape.slots) row ∷ []) ≡ first
      row_decides room =
          row_asked
          ∙ sym
          (past_3
          ∙ first_goes_on (room_fault (coarser_bytes book times) second ∷ []) (row_fault (coarser_entries book times) row ∷ [])
          (sym (room ∙ ring_asked)))
