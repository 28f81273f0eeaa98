-- OPENING, ADDING AND A RUN AS THE CODE ASKS, refusal by refusal: each one found is the call's own, and it hands all back.
-- Assumes nothing.
use Rattle.std.proofs.Common.{◌≡◌, ◌⊎◌, inl, inr, ℕ, ◌-◌, ◌≤◌, ◌<◌, List, [], ◌∷◌, ◌++◌, length, false, Ok, Err, refl, sym, ap, ◌∙◌, arith, ne_eqb}
use Rattle.refusals.specs.Numbers.{item_too_large, book_rests}
use Rattle.refusals.specs.declared.Refusal.{Refusal}
use Rattle.refusals.specs.First.{Fault, first_of}
use Rattle.refusals.specs.Call.{Call, refusal_of, result_of, left_of}
use Rattle.refusals.specs.Refused.{number_of}
use Rattle.refusals.proofs.Numbers.{number_not_0}
use Rattle.refusals.proofs.Laws.{first_goes_on, first_stops, first_avoids}
use Rattle.book.specs.declared.Book.{Book}
use Rattle.book.specs.declared.RunRefusal.{RunRefusal}
use Rattle.book.specs.declared.RunRefusal.TheVariants.{Refused, CountTooLarge}
use Rattle.book.specs.declared.shape.Shape.{Shape}
use Rattle.book.specs.declared.told.Updated.{Updated}
use Rattle.book.specs.declared.told.Ran.{Ran}
use Rattle.book.specs.Derived.{slot_count, bytes_needed}
use Rattle.book.specs.Shape.{shape_of, number_faults, shape_call}
use Rattle.book.specs.Record.{no_book_at_all}
use Rattle.book.specs.Sound.{Ranges, Usable}
use Rattle.book.specs.Resting.{awake}
use Rattle.book.specs.RunOfCounts.{any_above, FirstAbove, added_all, added_all_ring}
use Rattle.book.specs.Told.{as_ran, as_shaped}
use Rattle.book.specs.Calls.{room_fault, book_faults, rest_fault, item_fault, counts_fault, open_call}
use Rattle.book.proofs.Promises.{open_refusal, open_back, shape_refusal, shape_known, add_hands_back, add_back, run_hands_back, run_back, run_number, run_taken, run_gives, run_at_rest, run_above, run_7, le_or_lt}
use Rattle.sums.specs.Row.{entries_for, entries_of, cleared_row, added_all_row}
use Rattle.sums.specs.RunParts.{RefusedFor}
use Rattle.sums.specs.Calls.{RingAndRow, row_fault, open_row_call, add_row_call, run_row_call}
use Rattle.sums.proofs.BesideTheBook.{handed_back, answers, refuses}
use Rattle.sums.proofs.Taken.{open_beside, add_beside, run_beside}
use Rattle.sums.proofs.Judging.{row_next, row_roomy, use_passes}
use Rattle.sums.proofs.RunTurns.{one_above}

-- OPENING
module _ (bound n tolerance : ℕ) (ring row : List ℕ) where
  abbrev opening : Call Updated RingAndRow
  opening = open_row_call bound n tolerance ring row

  abbrev numbers : List Fault
  numbers = number_faults bound n tolerance

  abbrev short : List Fault
  short = room_fault (bytes_needed bound n tolerance) (length ring) ∷ []

  pub open_refused : {number : ℕ} → number ≡ refusal_of opening → (number ≡ 0 → ⊥)
      → (record { refusal = number; book = no_book_at_all } ≡ result_of opening) × (ring ≡ (left_of opening).ring) × (row ≡ (left_of opening).row)
  open_refused {number} found some =
      let back = open_back bound n tolerance ring in
      let h = handed_back (open_beside bound n tolerance ring row) found some in
      (sym (back.0 number) ∙ h.0, sym back.1 ∙ h.1, h.2)

  -- 1, 2 and 3
  pub no_numbers : (refusal : Refusal) → as_shaped (Err refusal) ≡ result_of (shape_call bound n tolerance) → number_of refusal ≡ refusal_of opening
  unfolding open_row_call
  no_numbers refusal told =
      first_stops numbers (short ++ row_fault (entries_for (slot_count bound n tolerance)) (length row) ∷ []) (number_of refusal)
      (shape_refusal bound n tolerance told) (number_not_0 refusal)

  module _ {shape : Shape} (told : as_shaped (Ok shape) ≡ result_of (shape_call bound n tolerance)) where
    pub opened_shape : Ranges bound n tolerance × (shape ≡ shape_of bound n tolerance)
    opened_shape = shape_known bound n tolerance told refl

    ring_decides : first_of (room_fault shape.bytes (length ring) ∷ []) ≡ first_of (numbers ++ short)
    ring_decides =
        ap (λ (s : Shape). first_of (room_fault s.bytes (length ring) ∷ [])) opened_shape.1
        ∙ sym (first_goes_on numbers short (sym (shape_refusal bound n tolerance told)))

    -- 4
    pub no_ring : {number : ℕ} → number ≡ first_of (room_fault shape.bytes (length ring) ∷ []) → (number ≡ 0 → ⊥) → number ≡ refusal_of opening
    unfolding open_row_call
    no_ring {number} found some =
        first_stops (numbers ++ short) (row_fault (entries_for (slot_count bound n tolerance)) (length row) ∷ []) number (found ∙ ring_decides) some

    module _ (fits : 0 ≡ first_of (room_fault shape.bytes (length ring) ∷ [])) where
      passed : first_of (numbers ++ short) ≡ 0
      passed = sym (fits ∙ ring_decides)

      -- 18
      pub no_row : {number : ℕ} → number ≡ first_of (row_fault (entries_for shape.slots) (length row) ∷ []) → (number ≡ 0 → ⊥)
          → number ≡ refusal_of opening
      unfolding open_row_call
      no_row found some =
          row_next (numbers ++ short) [] (entries_for (slot_count bound n tolerance)) (length row) passed
          (found ∙ ap (λ (s : Shape). first_of (row_fault (entries_for s.slots) (length row) ∷ [])) opened_shape.1) some

      -- and then the book's own opening is taken
      pub own_opens : refusal_of (open_call bound n tolerance ring) ≡ 0
      own_opens = open_refusal bound n tolerance ring ∙ passed

      pub open_done : 0 ≡ first_of (row_fault (entries_for shape.slots) (length row) ∷ []) → {updated : Updated} {ring' row' : List ℕ}
          → updated ≡ result_of (open_call bound n tolerance ring) → ring' ≡ left_of (open_call bound n tolerance ring)
          → row' ≡ cleared_row shape.slots row
          → (updated ≡ result_of opening) × (ring' ≡ (left_of opening).ring) × (row' ≡ (left_of opening).row)
      open_done roomy updated_is ring_is row_is =
          let room = row_roomy (entries_for shape.slots) (length row) roomy in
          let entries = ap (λ (s : Shape). entries_for s.slots) opened_shape.1 in
          answers (open_beside bound n tolerance ring row) (omega (arith, room, entries)) own_opens updated_is ring_is
          (row_is ∙ ap (λ (s : Shape). cleared_row s.slots row) opened_shape.1)

-- ADDING: 8, 4 and 18
module _ (book : Book) (ring row : List ℕ) (item : ℕ) where
  pub add_refused : {number : ℕ} → number ≡ first_of (book_faults book (length ring) ++ row_fault (entries_of book) (length row) ∷ [])
      → (number ≡ 0 → ⊥)
      → (record { refusal = number; book = book } ≡ result_of (add_row_call book ring row item))
      × (ring ≡ (left_of (add_row_call book ring row item)).ring) × (row ≡ (left_of (add_row_call book ring row item)).row)
  unfolding add_row_call
  add_refused {number} found some =
      let asked = book_faults book (length ring) ++ row_fault (entries_of book) (length row) ∷ [] in
      let later = rest_fault book ∷ item_fault book item ∷ [] in
      let h = handed_back (add_beside book ring row item) (first_stops asked later number found some) some in
      (sym (add_hands_back book ring item number) ∙ h.0, sym (add_back book ring item).1 ∙ h.1, h.2)

-- A RUN. Two first counts above L stand at one place
not_before : {bound : ℕ} {counts : List ℕ} {one other : ℕ} → FirstAbove bound counts one → FirstAbove bound counts other → one ≤ other
not_before {bound} {counts} {one} {other} f g = by (le_or_lt one other)
  where
    by : (one ≤ other) ⊎ (other < one) → one ≤ other
    by (inl le) = le
    by (inr lt) = absurd (omega (arith, f.earlier other g.low lt, g.above))

first_once : {bound : ℕ} {counts : List ℕ} {one other : ℕ} → FirstAbove bound counts one → FirstAbove bound counts other → one ≡ other
first_once f g = omega (arith, not_before f g, not_before g f)

module _ (book : Book) (ring row counts : List ℕ) where
  abbrev running : Call Ran RingAndRow
  running = run_row_call book ring row counts

  abbrev up_to4 : List Fault
  up_to4 = book_faults book (length ring)

  abbrev behind : List Fault
  behind = rest_fault book ∷ counts_fault book counts ∷ []

  run_refused : {number : ℕ} → number ≡ refusal_of running → (number ≡ 0 → ⊥) → (number ≡ item_too_large → ⊥)
      → (record { refusal = number; place = 0; book = book } ≡ result_of running) × (ring ≡ (left_of running).ring) × (row ≡ (left_of running).row)
  run_refused {number} found some other =
      let h = handed_back (run_beside book ring row counts) found some in (
        sym (run_hands_back book ring counts number ∙ rw (ne_eqb number item_too_large other)) ∙ h.0,
        sym (run_back book ring counts).1 ∙ h.1,
        h.2,
      )

  -- 8 and 4
  pub run_no_book : {number : ℕ} → number ≡ first_of up_to4 → (number ≡ 0 → ⊥)
      → (record { refusal = number; place = 0; book = book } ≡ result_of running) × (ring ≡ (left_of running).ring) × (row ≡ (left_of running).row)
  unfolding run_row_call
  run_no_book {number} found some =
      run_refused (first_stops up_to4 (row_fault (entries_of book) (length row) ∷ behind) number found some) some
      (λ seven. first_avoids 6 up_to4 tt (sym found ∙ seven))

  module _ (usable : Usable book (length ring)) where
    -- 18
    pub run_no_row : {number : ℕ} → number ≡ first_of (row_fault (entries_of book) (length row) ∷ []) → (number ≡ 0 → ⊥)
        → (record { refusal = number; place = 0; book = book } ≡ result_of running) × (ring ≡ (left_of running).ring) × (row ≡ (left_of running).row)
    unfolding run_row_call
    run_no_row {number} found some =
        run_refused (row_next up_to4 behind (entries_of book) (length row) (use_passes book (length ring) usable) found some) some
        (λ seven. first_avoids 6 (row_fault (entries_of book) (length row) ∷ []) tt (sym found ∙ seven))

    module _ (room : entries_of book ≤ length row) where
      -- 17 and 7
      pub run_not_taken : (refusal : RunRefusal) → RefusedFor book counts refusal
          → (as_ran book (Err refusal) ≡ result_of running) × (ring ≡ (left_of running).ring) × (row ≡ (left_of running).row)
      run_not_taken (Refused refusal) down =
          let own = run_at_rest book ring usable down.0 counts in
          refuses (run_beside book ring row counts) room
          (λ e. (let z : book_rests ≡ 0 = sym (ap (λ (r : Ran). r.refusal) own.0) ∙ run_number book ring counts ∙ e in omega arith))
          (ap (λ (number : ℕ). record { refusal = number; place = 0; book = book }) down.1 ∙ sym own.0) (sym own.1)
      run_not_taken (CountTooLarge place) up =
          let above = sym (one_above book.bound counts (place - 1) up.1.above) in
          let seven = run_above book ring counts usable up.0 above in
          let own = run_7 book ring counts seven in
          refuses (run_beside book ring row counts) room (λ e. (let z : item_too_large ≡ 0 = sym seven ∙ e in omega arith))
          (ap (λ (at : ℕ). record { refusal = item_too_large; place = at; book = book }) (first_once up.1 own.0) ∙ sym own.1) (sym own.2)

      -- and where it is taken, all counts are added
      pub run_done : any_above book.bound counts ≡ false → book.resting ≡ awake → {next : Book} {ring' row' : List ℕ}
          → next ≡ added_all book counts → ring' ≡ added_all_ring book ring counts → row' ≡ added_all_row book ring row counts
          → (record { refusal = 0; place = 0; book = next } ≡ result_of running) × (ring' ≡ (left_of running).ring) × (row' ≡ (left_of running).row)
      run_done small up next_is ring_is row_is =
          let taken = run_taken book ring counts usable small up in
          let gives = run_gives book ring counts taken in
          answers (run_beside book ring row counts) room taken
          (ap (λ (b : Book). record { refusal = 0; place = 0; book = b }) next_is ∙ sym gives.0) (ring_is ∙ sym gives.1) row_is
