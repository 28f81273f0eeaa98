-- When a book is made coarser: exactly where the record is a book with its ring, D is a multiple of L, m is 2 to 16, m·D is at most n·L and the
-- second ring has room; and what the call then gives and leaves. With a row it is the same call with the row beside it.
-- Assumes nothing.
use Prim.Native.Nat.{ℕ, ◌*◌, ◌%◌, ◌≤◌, ◌<◌}
use native.Mathlib.Omega.{arith}
use mathlib.Core.Bool.{Bool, true, false, not, ◌||◌}
use mathlib.Core.List.{List, [], ◌∷◌}
use mathlib.Core.Path.{◌≡◌, refl, sym, ◌∙◌}
use borrow.Author.Tests.{le-ltb, lt-ltb, ltb-false, eqb-true, eq-eqb, ne_eqb}
use lib.Dec.{eqb}
use lib.ListN.{length, drop}
use Rattle.refusals.specs.Numbers.{cannot_coarsen}
use Rattle.refusals.specs.First.{Fault, first_of, outside}
use Rattle.refusals.specs.Call.{Call, refusal_of, result_of, left_of}
use Rattle.refusals.specs.Demand1.{NoneHolds}
use Rattle.refusals.proofs.Laws.{first_goes_on, in_range, not_outside}
use Rattle.refusals.proofs.Calls.{nothing_holds, none_refuses, written_out, result_taken, left_taken}
use Rattle.book.specs.declared.Book.{Book}
use Rattle.book.specs.Sound.{Usable}
use Rattle.book.specs.Calls.{room_fault, book_faults}
use Rattle.book.proofs.Promises.{usable_known, usable_passes}
use Rattle.sums.specs.Beside.{BesideTheBook}
use Rattle.sums.proofs.Promises.{beside_the_book}
use Rattle.coarse.specs.Coarsens.{fewest_times, most_times, Coarsens}
use Rattle.coarse.specs.Coarser.{coarsened, coarsened_ring, coarsened_row}
use Rattle.coarse.specs.Calls.{coarser_bytes, coarser_entries, times_fault, tolerance_fault, coarse_faults, coarsen_call, coarsen_row_call}

-- 19 is the refusal where it stands first: D is no multiple of L, or it is and m is below 2, or above 16
module _ (book : Book) (times : ℕ) (later : List Fault) where
  pub not_whole_first : (book.tolerance % book.bound ≡ 0 → ⊥) → first_of (times_fault book times ∷ later) ≡ cannot_coarsen
  not_whole_first rest = rw (ne_eqb (book.tolerance % book.bound) 0 rest)

  pub few_times_first : book.tolerance % book.bound ≡ 0 → times < fewest_times → first_of (times_fault book times ∷ later) ≡ cannot_coarsen
  few_times_first whole few = rw (eq-eqb (book.tolerance % book.bound) 0 whole, lt-ltb times fewest_times few)

  pub many_times_first : book.tolerance % book.bound ≡ 0 → most_times < times → first_of (times_fault book times ∷ later) ≡ cannot_coarsen
  many_times_first whole many =
      rw (eq-eqb (book.tolerance % book.bound) 0 whole, le-ltb times fewest_times (omega arith), lt-ltb most_times times many)

-- what a call asks behind the nine tests of 8 and 4. (It is taken from the row and not written out, so that what comes first is the row's own word.)
abbrev later_faults : {Result : Type 0} → Call Result (List ℕ) → List Fault
later_faults call = drop 9 call.faults

-- SO IT IS once 8 and 4 are passed, whatever the second ring has
module _ (book : Book) (ring : List ℕ) (times : ℕ) (second : List ℕ) (passed : first_of (book_faults book (length ring)) ≡ 0) where
  behind_4 : refusal_of (coarsen_call book ring times second) ≡ first_of (later_faults (coarsen_call book ring times second))
  unfolding coarsen_call
  behind_4 = first_goes_on (book_faults book (length ring)) (later_faults (coarsen_call book ring times second)) passed

  pub not_whole_19 : (book.tolerance % book.bound ≡ 0 → ⊥) → refusal_of (coarsen_call book ring times second) ≡ cannot_coarsen
  unfolding coarsen_call
  not_whole_19 rest = behind_4 ∙ not_whole_first book times (drop 1 (later_faults (coarsen_call book ring times second))) rest

  pub few_times_19 : book.tolerance % book.bound ≡ 0 → times < fewest_times → refusal_of (coarsen_call book ring times second) ≡ cannot_coarsen
  unfolding coarsen_call
  few_times_19 whole few = behind_4 ∙ few_times_first book times (drop 1 (later_faults (coarsen_call book ring times second))) whole few

  pub many_times_19 : book.tolerance % book.bound ≡ 0 → most_times < times → refusal_of (coarsen_call book ring times second) ≡ cannot_coarsen
  unfolding coarsen_call
  many_times_19 whole many = behind_4 ∙ many_times_first book times (drop 1 (later_faults (coarsen_call book ring times second))) whole many

-- what 19 asks, in its two parts
whole_and_few : (whole few : Bool) → (not whole || few) ≡ false → (whole ≡ true) × (few ≡ false)
whole_and_few true few e = (refl, e)
whole_and_few false few e = absurd (let z : ◌≡◌ {A = ℕ} 0 1 = cc in omega arith)

-- THE FAULTS behind 8 and 4
abbrev pub own_faults : Book → ℕ → ℕ → List Fault
own_faults book times second = times_fault book times ∷ tolerance_fault book times ∷ room_fault (coarser_bytes book times) second ∷ []

module _ (book : Book) (times second : ℕ) where
  pub own_known : NoneHolds (own_faults book times second) → Coarsens book times × (coarser_bytes book times ≤ second)
  own_known h =
      let parts = whole_and_few (eqb (book.tolerance % book.bound) 0) (outside fewest_times most_times times) h.0 in
      let range = in_range fewest_times most_times times parts.1 in (
        record {
          whole = eqb-true (book.tolerance % book.bound) 0 parts.0;
          times_low = range.0;
          times_high = range.1;
          tolerance_high = ltb-false (book.length * book.bound) (times * book.tolerance) h.1.0;
        },
        ltb-false second (coarser_bytes book times) h.1.1.0,
      )

  pub own_passes : Coarsens book times → coarser_bytes book times ≤ second → NoneHolds (own_faults book times second)
  own_passes can room = (
    rw (eq-eqb (book.tolerance % book.bound) 0 can.whole) (not_outside fewest_times most_times times can.times_low can.times_high),
    (
      le-ltb (book.length * book.bound) (times * book.tolerance) can.tolerance_high,
      (le-ltb second (coarser_bytes book times) room, tt),
    ),
  )

module _ (book : Book) (ring : List ℕ) (times : ℕ) (second : List ℕ) where
  pub coarsen_refusal : refusal_of (coarsen_call book ring times second) ≡ first_of (coarse_faults book (length ring) times (length second))
  unfolding coarsen_call
  coarsen_refusal = refl

  -- taken exactly then
  pub coarsen_known : refusal_of (coarsen_call book ring times second) ≡ 0
      → Usable book (length ring) × Coarsens book times × (coarser_bytes book times ≤ length second)
  coarsen_known e =
      let own = own_faults book times (length second) in
      let faults = coarse_faults book (length ring) times (length second) in
      let known = usable_known book (length ring) own (nothing_holds faults (written_out faults tt) (sym coarsen_refusal ∙ e)) in
      let k = own_known book times (length second) known.1 in
      (known.0, k.0, k.1)

  pub coarsen_taken : Usable book (length ring) → Coarsens book times → coarser_bytes book times ≤ length second
      → refusal_of (coarsen_call book ring times second) ≡ 0
  coarsen_taken usable can room =
      let own = own_faults book times (length second) in
      coarsen_refusal
      ∙ none_refuses (coarse_faults book (length ring) times (length second))
      (usable_passes book (length ring) own usable (own_passes book times (length second) can room))

  -- what it then gives and leaves
  pub coarsen_gives : refusal_of (coarsen_call book ring times second) ≡ 0
      → (result_of (coarsen_call book ring times second) ≡ record { refusal = 0; bytes = coarser_bytes book times; book = coarsened book ring times })
      × (left_of (coarsen_call book ring times second) ≡ coarsened_ring book ring times second)
  unfolding coarsen_call
  coarsen_gives e =
      let call = coarsen_call book ring times second in
      (sym (result_taken call (sym e) refl), sym (left_taken call (sym e) refl))

  -- a refusal hands the record back as it came, with 0 bytes, and the second ring as it was lent
  pub coarsen_back : ((number : ℕ) → (coarsen_call book ring times second).back number ≡ record { refusal = number; bytes = 0; book = book })
      × ((coarsen_call book ring times second).lent ≡ second)
  unfolding coarsen_call
  coarsen_back = (λ number. refl, refl)

  -- WITH A ROW
  pub coarsen_beside : (row : List ℕ)
      → BesideTheBook (coarsen_call book ring times second) (coarse_faults book (length ring) times (length second)) (coarser_entries book times) row
      (coarsened_row book ring times second row) (coarsen_row_call book ring times second row)
  unfolding coarsen_row_call
  coarsen_beside row =
      beside_the_book (coarsen_call book ring times second) (coarse_faults book (length ring) times (length second)) [] coarsen_refusal
      (coarser_entries book times) row _
