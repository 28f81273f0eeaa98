-- A run from an opening (promises 2.4, B.3): an opening begins one, and items that are accepted, resting and waking, and calls that are refused
-- or only ask, go on with it; it is a good book; and each number of its record but the mark, and each byte of its ring, is known.
-- Assumes nothing.
use Prim.Native.Nat.{ℕ, suc, ◌+◌, ◌*◌, ◌%◌, ◌≤◌, ◌<◌, ◌^◌, min}
use mathlib.Core.List.{List, [], ◌∷◌}
use mathlib.Core.Logic.{◌⊎◌, inl, inr}
use mathlib.Core.Path.{◌≡◌, refl, sym, ap, ap₂, subst, ◌∙◌}
use lib.ListN.{length, get_or, drop}
use Rattle.bits.specs.Row.{bits}
use Rattle.bits.specs.Bytes.{Bytes}
use Rattle.refusals.specs.Call.{Call, refusal_of, result_of, left_of}
use Rattle.ring.specs.Slot.{cleared}
use Rattle.ring.proofs.Promises.{cleared_rest, cleared_tail, bytes_cleared, tail_stays, rest_stays_drop, bytes_written}
use Rattle.book.specs.declared.Book.{Book}
use Rattle.book.specs.declared.told.Updated.{Updated}
use Rattle.book.specs.Derived.{field_width, slot_count}
use Rattle.book.specs.Resting.{awake, at_rest, marked}
use Rattle.book.specs.Record.{block_of, slots_of, width_of, bytes_of, opened}
use Rattle.book.specs.Sound.{Ranges, Usable}
use Rattle.book.specs.Adding.{quotient_of, added, added_ring}
use Rattle.book.specs.Calls.{open_call, add_call, mark_call, rest_call, wake_call}
use Rattle.book.proofs.Promises.{book_lent, bytes_needed_lem, open_known, open_gives, add_known, add_taken, add_gives, mark_taken, mark_gives, add_leaves_mark, adding_cases, SameNumbers, added_same, added_mark, quotient_in, in_blocks, Counted, counted_fresh, counted_more}
use Rattle.demands.specs.History.{Upon, OnlyAsks, Good, start, adding, resting}
use Rattle.demands.specs.RunFromOpening.{replayed, replayed_ring, UpTo, FromOpening, RecordFollows, RingFollows}
use Rattle.demands.proofs.BeforeIsOlder.{ByItems, fresh_by_items, more_by_items}
use Rattle.demands.proofs.GoodInduction.{nothing_changes}
use Rattle.demands.proofs.GoodUsable.{good_usable}

module _ (bound n tolerance : ℕ) (lent : List ℕ) where
  -- RUNS. An opening that is taken begins one
  pub opening_begins : refusal_of (open_call bound n tolerance lent) ≡ 0
      → FromOpening bound n tolerance lent (result_of (open_call bound n tolerance lent)).book (left_of (open_call bound n tolerance lent)) []
  unfolding replayed replayed_ring
  opening_begins e =
      let gives = open_gives bound n tolerance lent e in
      record {
        opening_taken = e;
        items_small = tt;
        mark_set = inl (ap (λ (r : Updated). r.book.resting) gives.0);
        record_is = ap (λ (r : Updated). marked r.book awake) gives.0;
        ring_is = gives.1;
      }

  replayed_same : (items : List ℕ) → SameNumbers (opened bound n tolerance) (replayed bound n tolerance items)
  unfolding replayed
  replayed_same [] = record { bound_same = refl; length_same = refl; tolerance_same = refl }
  replayed_same (item ∷ items) =
      let s = added_same (replayed bound n tolerance items) item in
      let r = replayed_same items in
      record {
        bound_same = s.bound_same ∙ r.bound_same;
        length_same = s.length_same ∙ r.length_same;
        tolerance_same = s.tolerance_same ∙ r.tolerance_same;
      }

  -- a replay is awake
  replayed_awake : (items : List ℕ) → (replayed bound n tolerance items).resting ≡ awake
  unfolding replayed
  replayed_awake [] = refl
  replayed_awake (item ∷ items) = added_mark (replayed bound n tolerance items) item ∙ replayed_awake items

  -- so that what is a replay is one with its mark cleared too
  replay_cleared : (items : List ℕ) {book : Book} → book ≡ replayed bound n tolerance items → marked book awake ≡ replayed bound n tolerance items
  replay_cleared items {book} same = ap (λ (mark : ℕ). marked book mark) (sym (ap (λ (b : Book). b.resting) same ∙ replayed_awake items)) ∙ same

  module _ (book : Book) (ring items : List ℕ) (run : FromOpening bound n tolerance lent book ring items) where
    -- the record of a run that is awake
    when_awake : book.resting ≡ awake → book ≡ replayed bound n tolerance items
    when_awake up = ap (λ (mark : ℕ). marked book mark) up ∙ run.record_is

    -- an item that is accepted goes on with it
    pub adding_goes_on : (item : ℕ) → refusal_of (add_call book ring item) ≡ 0
        → FromOpening bound n tolerance lent (result_of (add_call book ring item)).book (left_of (add_call book ring item)) (item ∷ items)
    unfolding replayed replayed_ring
    adding_goes_on item e =
        let gives = add_gives book ring item e in
        let known = add_known book ring item e in
        let plain = when_awake known.2 in
        let small : item ≤ bound =
        subst (λ b. item ≤ b) (ap (λ (b : Book). b.bound) plain ∙ (replayed_same items).bound_same) known.1 in
        record {
          opening_taken = run.opening_taken;
          items_small = (small, run.items_small);
          mark_set = inl (add_leaves_mark book ring item ∙ known.2);
          record_is = replay_cleared (item ∷ items) (ap (λ (r : Updated). r.book) gives.0 ∙ ap (λ (b : Book). added b item) plain);
          ring_is = gives.1 ∙ ap₂ (λ (b : Book) (r : List ℕ). added_ring b r item) plain run.ring_is;
        }

    -- so do resting and waking …
    marking_goes_on : (mark : ℕ) → (mark ≡ awake) ⊎ (mark ≡ at_rest) → refusal_of (mark_call book mark) ≡ 0
        → FromOpening bound n tolerance lent (result_of (mark_call book mark)).book ring items
    marking_goes_on mark set e =
        record {
          opening_taken = run.opening_taken;
          items_small = run.items_small;
          mark_set = rw (ap (λ (r : Updated). r.book.resting) (mark_gives book mark e)) set;
          record_is = ap (λ (r : Updated). marked r.book awake) (mark_gives book mark e) ∙ run.record_is;
          ring_is = run.ring_is;
        }

    pub resting_goes_on : refusal_of (rest_call book) ≡ 0 → FromOpening bound n tolerance lent (result_of (rest_call book)).book ring items
    resting_goes_on = marking_goes_on at_rest (inr refl)

    pub waking_goes_on : refusal_of (wake_call book) ≡ 0 → FromOpening bound n tolerance lent (result_of (wake_call book)).book ring items
    waking_goes_on = marking_goes_on awake (inl refl)

    -- … and a call that is refused or only asks
    pub otherwise_goes_on : (call : Call Book (List ℕ)) → Upon book ring call → (refusal_of call ≡ 0 → ⊥) ⊎ OnlyAsks book ring call
        → FromOpening bound n tolerance lent (result_of call) (left_of call) items
    otherwise_goes_on call upon idle =
        let same = nothing_changes book ring call upon idle in
        rw (same.0, same.1) run

  -- REPLAYS. Every step of a replay is one that a good book takes
  module _ (opens : refusal_of (open_call bound n tolerance lent) ≡ 0) where
    replay_good : (items : List ℕ) → UpTo bound items → Good (replayed bound n tolerance items) (replayed_ring bound n tolerance lent items) items
    unfolding replayed replayed_ring
    replay_good [] small =
        let gives = open_gives bound n tolerance lent opens in
        rw (ap (λ (r : Updated). r.book) gives.0, gives.1) at (start bound n tolerance lent opens)
    replay_good (item ∷ items) small =
        let book = replayed bound n tolerance items in
        let ring = replayed_ring bound n tolerance lent items in
        let good = replay_good items small.1 in
        let taken = add_taken book ring item (good_usable book ring items good) (fits items item small.0) (replayed_awake items) in
        let gives = add_gives book ring item taken in
        rw (ap (λ (r : Updated). r.book) gives.0, gives.1) at (adding book ring items good item taken)
      where
        fits : (items : List ℕ) (item : ℕ) → item ≤ bound → item ≤ (replayed bound n tolerance items).bound
        fits items item h = subst (λ b. item ≤ b) (sym (replayed_same items).bound_same) h

    -- so that what a fresh book has, and an accepted item keeps, every replay has
    replay_induction : (P : Book → List ℕ → List ℕ → Type 0)
        → P (opened bound n tolerance) (cleared (field_width bound tolerance) (slot_count bound n tolerance) lent) []
        → ((book : Book) (ring items : List ℕ) (item : ℕ) → P book ring items → Usable book (length ring) → item ≤ book.bound
        → P (added book item) (added_ring book ring item) (item ∷ items))
        → (items : List ℕ) → UpTo bound items → P (replayed bound n tolerance items) (replayed_ring bound n tolerance lent items) items
    unfolding replayed replayed_ring
    replay_induction P fresh more [] small = fresh
    replay_induction P fresh more (item ∷ items) small =
        let book = replayed bound n tolerance items in
        let ring = replayed_ring bound n tolerance lent items in
        more book ring items item (replay_induction P fresh more items small.1)
        (good_usable book ring items (replay_good items small.1))
        (subst (λ b. item ≤ b) (sym (replayed_same items).bound_same) small.0)

-- THE RING behind its slots: the bits after the last one, and the bytes from B on
record Behind (lent : List ℕ) (book : Book) (ring : List ℕ) : Type 0 where
  bytes : Bytes ring
  tail : (i : ℕ) → slots_of book * width_of book ≤ i → i < bytes_of book * 8 → get_or (bits ring) i 0 ≡ 0
  rest : drop (bytes_of book) ring ≡ drop (bytes_of book) lent

behind_more : (lent : List ℕ) (book : Book) (ring : List ℕ) (item : ℕ) → Usable book (length ring) → item ≤ book.bound → Behind lent book ring
    → Behind lent (added book item) (added_ring book ring item)
behind_more lent book ring item usable small h =
    adding_cases (λ b r. Behind lent b r) book ring item
    (λ closes. (let fits : quotient_of book item < 2 ^ width_of book = quotient_in book usable.sound item small closes in
    let whole = book_lent book.bound book.length book.tolerance (length ring) usable.sound.ranges usable.room in
    let head = usable.sound.head_high in
    let q = quotient_of book item in
    record {
      bytes = bytes_written (width_of book) (slots_of book) ring whole book.head head q fits h.bytes;
      tail = λ i low high. tail_stays (width_of book) (slots_of book) ring whole book.head head q fits i low ∙ h.tail i low high;
      rest = rw (bytes_needed_lem book.bound book.length book.tolerance)
          (rest_stays_drop (width_of book) (slots_of book) ring whole book.head head q fits h.bytes
          ∙ rw (bytes_needed_lem book.bound book.length book.tolerance) at h.rest);
    }))
    (λ more. record { bytes = h.bytes; tail = h.tail; rest = h.rest })

-- a run whose record is the replay itself: what follows is said of such a run first, and with any mark then
record Replay (bound n tolerance : ℕ) (lent : List ℕ) (book : Book) (ring items : List ℕ) : Type 0 where
  opening_taken : refusal_of (open_call bound n tolerance lent) ≡ 0
  items_small : UpTo bound items
  record_is : book ≡ replayed bound n tolerance items
  ring_is : ring ≡ replayed_ring bound n tolerance lent items

module _ (bound n tolerance : ℕ) (lent : List ℕ) (book : Book) (ring items : List ℕ) (run : Replay bound n tolerance lent book ring items) where
  ranges : Ranges bound n tolerance
  ranges = (open_known bound n tolerance lent run.opening_taken).0

  follow : (P : Book → List ℕ → List ℕ → Type 0)
      → P (opened bound n tolerance) (cleared (field_width bound tolerance) (slot_count bound n tolerance) lent) []
      → ((book : Book) (ring items : List ℕ) (item : ℕ) → P book ring items → Usable book (length ring) → item ≤ book.bound
      → P (added book item) (added_ring book ring item) (item ∷ items))
      → P book ring items
  follow P fresh more =
      rw (run.record_is, run.ring_is)
      (replay_induction bound n tolerance lent run.opening_taken P fresh more items run.items_small)

  same : SameNumbers (opened bound n tolerance) book
  same = rw run.record_is (replayed_same bound n tolerance lent items)

  counted : Counted book (length items)
  counted =
      follow (λ b r l. Counted b (length l)) (counted_fresh bound n tolerance)
      (λ b r l item h usable small. counted_more b (length l) item usable.sound.ranges h)

  moved : ByItems book ring items
  moved = follow ByItems (fresh_by_items bound n tolerance _ ranges) more_by_items

  -- its record …
  replay_follows : RecordFollows bound n tolerance book items
  replay_follows =
      let k = counted in
      let inv = moved.inv in
      record {
        bound_is = same.bound_same;
        length_is = same.length_same;
        tolerance_is = same.tolerance_same;
        kept_is = k.kept_is ∙ ap (λ (m : ℕ). min m (length items)) same.length_same;
        phase_is = (in_blocks k.count_is k.phase_lt).0;
        head_is = k.head_is ∙ ap (λ (m : ℕ). m % slots_of book) (in_blocks k.count_is k.phase_lt).1;
        carry_is =
            rw (sym same.tolerance_same, sym (moved.before_is book.phase), sym (moved.before_is 0)) inv.carried;
      }

  -- … and its ring, which was lent as bytes
  replay_ring_follows : Bytes lent → RingFollows bound n tolerance lent book ring items
  replay_ring_follows bytes =
      let whole = book_lent bound n tolerance (length lent) ranges (open_known bound n tolerance lent run.opening_taken).1 in
      let b = field_width bound tolerance in
      let s = slot_count bound n tolerance in
      let behind : Behind lent book ring =
      follow (λ b r l. Behind lent b r)
      (record {
        bytes = bytes_cleared b s lent whole bytes;
        tail = λ i low high. cleared_tail b s lent whole i low (rw (bytes_needed_lem bound n tolerance) at high);
        rest = rw (bytes_needed_lem bound n tolerance) (cleared_rest b s lent whole);
      })
      (λ b r l item h usable small. behind_more lent b r item usable small h) in
      record {
        block_in_its_slot = λ j h.
            rw (sym same.tolerance_same, sym (moved.before_is (book.phase + suc j * block_of book)), sym (moved.before_is (book.phase + j * block_of book)))
            (moved.inv.blocks j h);
        tail_0 = rw (sym same.bound_same, sym same.length_same, sym same.tolerance_same) behind.tail;
        rest_as_lent = rw (sym same.bound_same, sym same.length_same, sym same.tolerance_same) behind.rest;
      }

module _ (bound n tolerance : ℕ) (lent : List ℕ) (book : Book) (ring items : List ℕ) (run : FromOpening bound n tolerance lent book ring items) where
  -- the record with the mark cleared
  abbrev plain : Book
  plain = marked book awake

  replays : Replay bound n tolerance lent plain ring items
  replays = record { opening_taken = run.opening_taken; items_small = run.items_small; record_is = run.record_is; ring_is = run.ring_is }

  -- a run is a good book, so that demands 2 and 3 hold of it
  pub run_good : Good book ring items
  run_good = by run.mark_set
    where
      good : Good plain ring items
      good = rw (run.record_is, run.ring_is) (replay_good bound n tolerance lent run.opening_taken items run.items_small)

      by : (book.resting ≡ awake) ⊎ (book.resting ≡ at_rest) → Good book ring items
      by (inl up) = subst (λ mark. Good (marked book mark) ring items) (sym up) good
      by (inr down) =
          let taken = mark_taken plain at_rest (good_usable plain ring items good).sound in
          let rested = rw (ap (λ (r : Updated). r.book) (mark_gives plain at_rest taken)) at (resting plain ring items good taken) in
          subst (λ mark. Good (marked book mark) ring items) (sym down) rested

  -- promises 2.4, B.3: the record …
  pub record_follows : RecordFollows bound n tolerance book items
  record_follows =
      let f = replay_follows bound n tolerance lent plain ring items replays in
      record {
        bound_is = f.bound_is;
        length_is = f.length_is;
        tolerance_is = f.tolerance_is;
        kept_is = f.kept_is;
        phase_is = f.phase_is;
        head_is = f.head_is;
        carry_is = f.carry_is;
      }

  -- … and the ring, which was lent as bytes
  pub ring_follows : Bytes lent → RingFollows bound n tolerance lent book ring items
  ring_follows bytes =
      let f = replay_ring_follows bound n tolerance lent plain ring items replays bytes in
      record { block_in_its_slot = f.block_in_its_slot; tail_0 = f.tail_0; rest_as_lent = f.rest_as_lent }
