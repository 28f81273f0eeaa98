-- When a call of the book is taken: exactly where the record is a book, its ring, if the call has one, is lent whole, and the call's own
-- conditions hold; and what it then gives and leaves.
-- Assumes nothing.
use Rattle.std.proofs.Common.{◌≡◌, ℕ, ◌+◌, ◌-◌, ◌*◌, ◌<◌, ◌≤◌, Bool, true, false, T, eqb, List, [], ◌∷◌, ◌++◌, length, drop, sym, refl, ap, ◌∙◌, arith, ltb-false, le-ltb, lt-ltb, ne_eqb, leb-false}
use borrow.Author.Tests.{lt-leb, eqb-false}
use Rattle.refusals.specs.Numbers.{bad_bound, bad_length, bad_tolerance, no_book, ring_too_short, window_too_long, book_rests}
use Rattle.refusals.specs.First.{Fault, ◌gives◌, first_of, outside}
use Rattle.refusals.specs.Call.{Call, refusal_of, result_of, left_of}
use Rattle.refusals.specs.Demand1.{NoneHolds}
use Rattle.refusals.proofs.Laws.{first_stops, first_goes_on, in_range, not_outside}
use Rattle.refusals.proofs.Calls.{nothing_holds, none_refuses, none_is0, written_out, tells, result_number, result_taken, result_refused, left_taken}
use Rattle.book.specs.declared.Book.{Book}
use Rattle.book.specs.Limits.{largest_bound, largest_length}
use Rattle.book.specs.Answers.{Told, Refused}
use Rattle.ring.specs.Slot.{cleared}
use Rattle.book.specs.Derived.{slot_count, field_width, bytes_needed}
use Rattle.book.specs.declared.shape.Shaped.{Shaped}
use Rattle.book.specs.Shape.{number_faults, shape_of, shape_call}
use Rattle.book.specs.Record.{block_of, slots_of, bytes_of, opened}
use Rattle.book.specs.Adding.{added, added_ring}
use Rattle.book.specs.RunOfCounts.{any_above, added_all, added_all_ring}
use Rattle.book.specs.Figure.{figure}
use Rattle.book.specs.Verdict.{verdict_now}
use Rattle.book.specs.Resting.{awake, marked}
use Rattle.book.specs.Sound.{Ranges, Sound, Usable}
use Rattle.book.specs.HowFar.{how_far_back}
use Rattle.book.specs.Calls.{range_faults, state_faults, record_faults, room_fault, book_faults, rest_fault, item_fault, counts_fault, window_fault, zero_fault, reach_fault, open_call, add_call, run_call, mark_call, total_call, how_far_call, verdict_call}
use Rattle.book.proofs.AwakeOrAtRest.{awake_known, awake_passes, rest_holds}

-- L, n and D are in their ranges exactly where none of their faults holds
pub ranges_known : (bound n tolerance : ℕ) (later : List Fault) → NoneHolds (number_faults bound n tolerance ++ later)
    → Ranges bound n tolerance × NoneHolds later
ranges_known bound n tolerance later h =
    let l = in_range 1 largest_bound bound h.0 in
    let k = in_range 1 largest_length n h.1.0 in
    let d = in_range 1 (n * bound) tolerance h.1.1.0 in (
      record {
        bound_low = l.0;
        bound_high = l.1;
        length_low = k.0;
        length_high = k.1;
        tolerance_low = d.0;
        tolerance_high = d.1;
      },
      h.1.1.1,
    )

pub ranges_pass : (bound n tolerance : ℕ) (later : List Fault) → Ranges bound n tolerance → NoneHolds later
    → NoneHolds (number_faults bound n tolerance ++ later)
ranges_pass bound n tolerance later r h = (
  not_outside 1 largest_bound bound r.bound_low r.bound_high,
  (
    not_outside 1 largest_length n r.length_low r.length_high,
    (not_outside 1 (n * bound) tolerance r.tolerance_low r.tolerance_high, h),
  ),
)

-- what the call that derives the numbers tells: its refusal is that of L, n and D, and without one the numbers are there
module _ (bound n tolerance : ℕ) {shaped : Shaped} (told : shaped ≡ result_of (shape_call bound n tolerance)) where
  pub shape_refusal : shaped.refusal ≡ first_of (number_faults bound n tolerance)
  unfolding shape_call
  shape_refusal =
      ap (λ (s : Shaped). s.refusal) told
      ∙ result_number (λ (s : Shaped). s.refusal) (shape_call bound n tolerance) (tells tt refl (λ number. refl))

  pub shape_known : shaped.refusal ≡ 0 → Ranges bound n tolerance × (shaped.shape ≡ shape_of bound n tolerance)
  unfolding shape_call
  shape_known none =
      let passed : first_of (number_faults bound n tolerance) ≡ 0 = sym shape_refusal ∙ none in
      let faults = number_faults bound n tolerance in (
        (ranges_known bound n tolerance [] (nothing_holds faults (written_out faults tt) passed)).0,
        ap (λ (s : Shaped). s.shape) (told ∙ sym (result_taken (shape_call bound n tolerance) (sym passed) refl)),
      )

-- a record is a book exactly where none of the faults holds that give 8 …
pub sound_known : (book : Book) (later : List Fault) → NoneHolds (record_faults book ++ later) → Sound book × NoneHolds later
sound_known book later h =
    let r = ranges_known book.bound book.length book.tolerance (state_faults book ++ later) h in
    let s = r.1 in (
      record {
        ranges = r.0;
        kept_high = ltb-false book.length book.kept s.0;
        kept_low = ltb-false book.kept book.phase s.1.0;
        phase_high = leb-false (block_of book) book.phase s.1.1.0;
        head_high = leb-false (slots_of book) book.head s.1.1.1.0;
        carry_high = ltb-false (book.tolerance - 1 + book.phase * book.bound) book.carry s.1.1.1.1.0;
      },
      s.1.1.1.1.1,
    )

pub sound_passes : (book : Book) (later : List Fault) → Sound book → NoneHolds later → NoneHolds (record_faults book ++ later)
sound_passes book later s h =
    ranges_pass book.bound book.length book.tolerance (state_faults book ++ later) s.ranges (
      le-ltb book.length book.kept s.kept_high,
      (
        le-ltb book.kept book.phase s.kept_low,
        (
          lt-leb (block_of book) book.phase s.phase_high,
          (
            lt-leb (slots_of book) book.head s.head_high,
            (le-ltb (book.tolerance - 1 + book.phase * book.bound) book.carry s.carry_high, h),
          ),
        ),
      ),
    )

-- … and its ring is lent whole exactly where 4 is not given either
pub usable_known : (book : Book) (lent : ℕ) (own : List Fault) → NoneHolds (book_faults book lent ++ own) → Usable book lent × NoneHolds own
usable_known book lent own h =
    let k = sound_known book (room_fault (bytes_of book) lent ∷ own) h in
    (record { sound = k.0; room = ltb-false lent (bytes_of book) k.1.0 }, k.1.1)

pub usable_passes : (book : Book) (lent : ℕ) (own : List Fault) → Usable book lent → NoneHolds own → NoneHolds (book_faults book lent ++ own)
usable_passes book lent own u h =
    sound_passes book (room_fault (bytes_of book) lent ∷ own) u.sound (le-ltb lent (bytes_of book) u.room, h)

-- AS THE CODE JUDGES: L, n and D first, then the rest of the record, then the room
module _ (book : Book) where
  -- the three tests that give 1, 2 and 3 at opening give 8 where they are asked of a record
  pub no_ranges : {n : ℕ} → n ≡ first_of (number_faults book.bound book.length book.tolerance) → (n ≡ 0 → ⊥)
      → no_book ≡ first_of (record_faults book)
  no_ranges en ne =
      first_stops (range_faults book) (state_faults book) no_book
      (by (outside 1 largest_bound book.bound) (outside 1 largest_length book.length) (outside 1 (book.length * book.bound) book.tolerance)
      (λ e. ne (en ∙ e)))
      (λ e. omega arith)
    where
      by : (a b c : Bool) → (first_of ((a gives bad_bound) ∷ (b gives bad_length) ∷ (c gives bad_tolerance) ∷ []) ≡ 0 → ⊥)
          → no_book ≡ first_of ((a gives no_book) ∷ (b gives no_book) ∷ (c gives no_book) ∷ [])
      by true b c h = refl
      by false true c h = refl
      by false false true h = refl
      by false false false h = absurd (h refl)

  -- with L, n and D in their ranges the rest of the record decides
  pub state_decides : Ranges book.bound book.length book.tolerance → first_of (state_faults book) ≡ first_of (record_faults book)
  state_decides ranges =
      sym
      (first_goes_on (range_faults book) (state_faults book)
      (none_refuses (range_faults book) (ranges_pass book.bound book.length book.tolerance [] ranges tt)))

  module _ (lent : ℕ) where
    pub no_record : {n : ℕ} → n ≡ first_of (record_faults book) → (n ≡ 0 → ⊥) → n ≡ first_of (book_faults book lent)
    no_record {n} en ne = first_stops (record_faults book) (room_fault (bytes_of book) lent ∷ []) n en ne

    module _ (passed : first_of (record_faults book) ≡ 0) where
      room_decides : first_of (book_faults book lent) ≡ first_of (room_fault (bytes_of book) lent ∷ [])
      room_decides = first_goes_on (record_faults book) (room_fault (bytes_of book) lent ∷ []) passed

      pub no_room : lent < bytes_of book → ring_too_short ≡ first_of (book_faults book lent)
      no_room short = sym (room_decides ∙ rw (lt-ltb lent (bytes_of book) short))

      pub book_passes : bytes_of book ≤ lent → 0 ≡ first_of (book_faults book lent)
      book_passes room = sym (room_decides ∙ rw (le-ltb lent (bytes_of book) room))

-- OPENING is taken exactly where L, n and D are in their ranges and the ring has room
module _ (bound n tolerance : ℕ) (ring : List ℕ) where
  pub open_known : refusal_of (open_call bound n tolerance ring) ≡ 0 → Ranges bound n tolerance × (bytes_needed bound n tolerance ≤ length ring)
  unfolding open_call
  open_known e =
      let room = room_fault (bytes_needed bound n tolerance) (length ring) ∷ [] in
      let faults = number_faults bound n tolerance ++ room in
      let k = ranges_known bound n tolerance room (nothing_holds faults (written_out faults tt) e) in
      (k.0, ltb-false (length ring) (bytes_needed bound n tolerance) k.1.0)

  pub open_taken : Ranges bound n tolerance → bytes_needed bound n tolerance ≤ length ring → refusal_of (open_call bound n tolerance ring) ≡ 0
  unfolding open_call
  open_taken ranges room =
      let short = room_fault (bytes_needed bound n tolerance) (length ring) ∷ [] in
      none_refuses (number_faults bound n tolerance ++ short)
      (ranges_pass bound n tolerance short ranges (le-ltb (length ring) (bytes_needed bound n tolerance) room, tt))

positive : (n : ℕ) → eqb n 0 ≡ false → 0 < n
positive n e = let ne : n ≡ 0 → ⊥ = eqb-false n 0 e in omega (arith, ne)

not_zero : (n : ℕ) → 0 < n → eqb n 0 ≡ false
not_zero n h = ne_eqb n 0 (λ e. omega arith)

-- RESTING AND WAKING: where the record is a book
module _ (book : Book) (mark : ℕ) where
  pub mark_known : refusal_of (mark_call book mark) ≡ 0 → Sound book
  unfolding mark_call
  mark_known e = (sound_known book [] (nothing_holds (record_faults book) (written_out (record_faults book) tt) e)).0

  pub mark_taken : Sound book → refusal_of (mark_call book mark) ≡ 0
  unfolding mark_call
  mark_taken sound = none_refuses (record_faults book) (sound_passes book [] sound tt)

-- what a call asks behind the nine tests of 8 and 4. (It is taken from the row and not written out, so that which of 17 and 7 comes first is the
-- row's own word.)
abbrev later_faults : {Result : Type 0} → Call Result (List ℕ) → List Fault
later_faults call = drop 9 call.faults

-- once 8 and 4 are passed, a book that rests refuses with 17: every item and every run, whether or not a count is above L
module _ (book : Book) (ring : List ℕ) (passed : first_of (book_faults book (length ring)) ≡ 0) (down : book.resting ≡ awake → ⊥) where
  pub item_17 : (item : ℕ) → refusal_of (add_call book ring item) ≡ book_rests
  unfolding add_call
  item_17 item = first_goes_on (book_faults book (length ring)) (later_faults (add_call book ring item)) passed ∙ simp (rest_holds book down)

  pub run_17 : (counts : List ℕ) → refusal_of (run_call book ring counts) ≡ book_rests
  unfolding run_call
  run_17 counts = first_goes_on (book_faults book (length ring)) (later_faults (run_call book ring counts)) passed ∙ simp (rest_holds book down)

module _ (book : Book) (ring : List ℕ) where
  -- every call with a book and its ring judges them first, and then its own faults
  known : (own : List Fault) → T (none_is0 own) → first_of (book_faults book (length ring) ++ own) ≡ 0 → Usable book (length ring) × NoneHolds own
  known own numbered e =
      let faults = book_faults book (length ring) ++ own in
      usable_known book (length ring) own (nothing_holds faults (written_out faults numbered) e)

  taken : (own : List Fault) → Usable book (length ring) → NoneHolds own → first_of (book_faults book (length ring) ++ own) ≡ 0
  taken own u h = none_refuses (book_faults book (length ring) ++ own) (usable_passes book (length ring) own u h)

  -- ADDING: where the book is awake and the item is at most L
  pub add_known : (item : ℕ) → refusal_of (add_call book ring item) ≡ 0
      → Usable book (length ring) × (item ≤ book.bound) × (book.resting ≡ awake)
  unfolding add_call
  add_known item e =
      let k = known (rest_fault book ∷ item_fault book item ∷ []) tt e in
      (k.0, ltb-false book.bound item k.1.1.0, awake_known book k.1.0)

  pub add_taken : (item : ℕ) → Usable book (length ring) → item ≤ book.bound → book.resting ≡ awake
      → refusal_of (add_call book ring item) ≡ 0
  unfolding add_call
  add_taken item u h up =
      taken (rest_fault book ∷ item_fault book item ∷ []) u (awake_passes book up, (le-ltb book.bound item h, tt))

  -- a TOTAL: where the window is at most kept
  pub total_known : (window : ℕ) → refusal_of (total_call book ring window) ≡ 0 → Usable book (length ring) × (window ≤ book.kept)
  unfolding total_call
  total_known window e =
      let k = known (window_fault book window ∷ []) tt e in
      (k.0, ltb-false book.kept window k.1.0)

  pub total_taken : (window : ℕ) → Usable book (length ring) → window ≤ book.kept → refusal_of (total_call book ring window) ≡ 0
  unfolding total_call
  total_taken window u h = taken (window_fault book window ∷ []) u (le-ltb book.kept window h, tt)

  -- a RUN: where the book is awake and none of its counts is above L
  pub run_known : (counts : List ℕ) → refusal_of (run_call book ring counts) ≡ 0
      → Usable book (length ring) × (any_above book.bound counts ≡ false) × (book.resting ≡ awake)
  unfolding run_call
  run_known counts e =
      let k = known (rest_fault book ∷ counts_fault book counts ∷ []) tt e in
      (k.0, k.1.1.0, awake_known book k.1.0)

  pub run_taken : (counts : List ℕ) → Usable book (length ring) → any_above book.bound counts ≡ false → book.resting ≡ awake
      → refusal_of (run_call book ring counts) ≡ 0
  unfolding run_call
  run_taken counts u none up = taken (rest_fault book ∷ counts_fault book counts ∷ []) u (awake_passes book up, (none, tt))

  -- HOW FAR BACK: where the amount is not 0 and a window reaches it
  pub far_known : (amount : ℕ) → refusal_of (how_far_call book ring amount) ≡ 0
      → Usable book (length ring) × (0 < amount) × (0 < how_far_back book ring amount)
  unfolding how_far_call
  far_known amount e =
      let k = known (zero_fault amount ∷ reach_fault (how_far_back book ring amount) ∷ []) tt e in
      (k.0, positive amount k.1.0, positive (how_far_back book ring amount) k.1.1.0)

  pub far_taken : (amount : ℕ) → Usable book (length ring) → 0 < amount → 0 < how_far_back book ring amount
      → refusal_of (how_far_call book ring amount) ≡ 0
  unfolding how_far_call
  far_taken amount u asked some =
      taken (zero_fault amount ∷ reach_fault (how_far_back book ring amount) ∷ []) u
      (not_zero amount asked, (not_zero (how_far_back book ring amount) some, tt))

  -- a VERDICT: where amount and window are not 0 and the window is at most kept
  pub verdict_known : (window amount : ℕ) → refusal_of (verdict_call book ring window amount) ≡ 0
      → Usable book (length ring) × (0 < amount) × (0 < window) × (window ≤ book.kept)
  unfolding verdict_call
  verdict_known window amount e =
      let k = known (zero_fault amount ∷ zero_fault window ∷ window_fault book window ∷ []) tt e in
      (k.0, positive amount k.1.0, positive window k.1.1.0, ltb-false book.kept window k.1.1.1.0)

  pub verdict_taken : (window amount : ℕ) → Usable book (length ring) → 0 < amount → 0 < window → window ≤ book.kept
      → refusal_of (verdict_call book ring window amount) ≡ 0
  unfolding verdict_call
  verdict_taken window amount u asked some kept =
      taken (zero_fault amount ∷ zero_fault window ∷ window_fault book window ∷ []) u
      (not_zero amount asked, (not_zero window some, (le-ltb book.kept window kept, tt)))

-- WHAT A CALL GIVES AND LEAVES where it is taken
pub open_gives : (bound n tolerance : ℕ) (ring : List ℕ) → refusal_of (open_call bound n tolerance ring) ≡ 0
    → (result_of (open_call bound n tolerance ring) ≡ record { refusal = 0; book = opened bound n tolerance })
    × (left_of (open_call bound n tolerance ring) ≡ cleared (field_width bound tolerance) (slot_count bound n tolerance) ring)
unfolding open_call
open_gives bound n tolerance ring e =
    let call = open_call bound n tolerance ring in
    (sym (result_taken call (sym e) refl), sym (left_taken call (sym e) refl))

pub mark_gives : (book : Book) (mark : ℕ) → refusal_of (mark_call book mark) ≡ 0
    → result_of (mark_call book mark) ≡ record { refusal = 0; book = marked book mark }
unfolding mark_call
mark_gives book mark e = sym (result_taken (mark_call book mark) (sym e) refl)

module _ (book : Book) (ring : List ℕ) where
  pub add_gives : (item : ℕ) → refusal_of (add_call book ring item) ≡ 0
      → (result_of (add_call book ring item) ≡ record { refusal = 0; book = added book item })
      × (left_of (add_call book ring item) ≡ added_ring book ring item)
  unfolding add_call
  add_gives item e =
      let call = add_call book ring item in
      (sym (result_taken call (sym e) refl), sym (left_taken call (sym e) refl))

  pub run_gives : (counts : List ℕ) → refusal_of (run_call book ring counts) ≡ 0
      → (result_of (run_call book ring counts) ≡ record { refusal = 0; place = 0; book = added_all book counts })
      × (left_of (run_call book ring counts) ≡ added_all_ring book ring counts)
  unfolding run_call
  run_gives counts e =
      let call = run_call book ring counts in
      (sym (result_taken call (sym e) refl), sym (left_taken call (sym e) refl))

  pub total_gives : (window : ℕ) → refusal_of (total_call book ring window) ≡ 0
      → result_of (total_call book ring window) ≡ record { refusal = 0; figure = figure book ring window }
  unfolding total_call
  total_gives window e = sym (result_taken (total_call book ring window) (sym e) refl)

  pub verdict_gives : (window amount : ℕ) → refusal_of (verdict_call book ring window amount) ≡ 0
      → result_of (verdict_call book ring window amount)
      ≡ Told (record { window = window; verdict = verdict_now book amount (figure book ring window) })
  unfolding verdict_call
  verdict_gives window amount e = sym (result_taken (verdict_call book ring window amount) (sym e) refl)

  -- a verdict that is refused only for its window is refused with 5
  pub verdict_long : (window amount : ℕ) → Usable book (length ring) → 0 < amount → 0 < window → book.kept < window
      → result_of (verdict_call book ring window amount) ≡ Refused window_too_long
  unfolding verdict_call
  verdict_long window amount u asked some long =
      let own = zero_fault amount ∷ zero_fault window ∷ window_fault book window ∷ [] in
      let five : first_of own ≡ window_too_long = rw (not_zero amount asked, not_zero window some, lt-ltb book.kept window long) in
      let passed = none_refuses (book_faults book (length ring)) (usable_passes book (length ring) [] u tt) in
      let found : window_too_long ≡ refusal_of (verdict_call book ring window amount) =
      sym (first_goes_on (book_faults book (length ring)) own passed ∙ five) in
      sym (result_refused (verdict_call book ring window amount) found (λ e. omega arith))
