-- The call with a row, step by step as the code takes it: refused, it hands all back; taken, it opens the tally, lets it take the old quotients, and
-- makes the record of both.
-- Assumes nothing.
use Prim.Native.Nat.{ℕ, ◌+◌, ◌-◌, ◌*◌, ◌/◌, ◌≤◌}
use native.Mathlib.Omega.{arith}
use mathlib.Core.List.{List}
use mathlib.Core.Path.{◌≡◌, refl, sym, ap, ap₂, ◌∙◌}
use lib.ListN.{length}
use Rattle.refusals.specs.First.{first_of}
use Rattle.refusals.specs.Call.{Call, refusal_of, result_of, left_of}
use Rattle.refusals.proofs.Calls.{result_refused, left_refused}
use Rattle.book.specs.declared.Book.{Book}
use Rattle.book.specs.declared.shape.Shape.{Shape}
use Rattle.book.specs.Calls.{open_call}
use Rattle.book.specs.Record.{slots_of, shape_for}
use Rattle.book.specs.Sound.{Ranges, Usable}
use Rattle.book.specs.RunOfCounts.{added_all, added_all_ring}
use Rattle.book.proofs.Promises.{open_taken, open_gives}
use Rattle.sums.specs.Row.{entries_for, added_all_row}
use Rattle.sums.specs.Calls.{RingAndRow, open_row_call}
use Rattle.sums.specs.Beside.{SameAs, BesideTheBook}
use Rattle.sums.proofs.Promises.{open_beside, open_leaves_rest}
use Rattle.coarse.specs.declared.judge.Judged.{Judged}
use Rattle.coarse.specs.declared.told.Coarser.{Coarser}
use Rattle.coarse.specs.Quotients.{blocks_kept, quotients}
use Rattle.coarse.specs.Coarsens.{Coarsens}
use Rattle.coarse.specs.Coarser.{fresh_tally, fresh_ring, fresh_row, tally, coarsened, coarsened_ring, coarsened_row}
use Rattle.coarse.specs.Calls.{coarser_bytes, coarser_entries, coarse_faults, coarsen_call, coarsen_row_call}
use Rattle.coarse.specs.Steps.{row_faults, Passed, Takes}
use Rattle.coarse.proofs.WhenTaken.{coarsen_known, coarsen_gives, coarsen_beside}
use Rattle.coarse.proofs.CoarserNumbers.{old_width, new_slots}
use Rattle.coarse.proofs.CoarserIsABook.{blocks_have_slots, fresh_ranges, fresh_room, fresh_usable, tally_stays, tally_phase}

module _ (book : Book) (ring : List ℕ) (times : ℕ) (second row : List ℕ) where
  abbrev call : Call Coarser RingAndRow
  call = coarsen_row_call book ring times second row

  -- what is asked first is all that it is refused with
  pub asked_first : refusal_of call ≡ first_of (row_faults book (length ring) times (length second) (length row))
  unfolding coarsen_row_call
  asked_first = refl

  -- REFUSED
  pub handed_back : {number : ℕ} → number ≡ refusal_of call → (number ≡ 0 → ⊥)
      → (record { refusal = number; bytes = 0; book = book } ≡ result_of call) × (second ≡ (left_of call).ring) × (row ≡ (left_of call).row)
  unfolding coarsen_row_call coarsen_call
  handed_back found some = (
    result_refused call found some,
    ap (λ (l : RingAndRow). l.ring) (left_refused call found some),
    ap (λ (l : RingAndRow). l.row) (left_refused call found some),
  )

  -- TAKEN
  module _ {judged : Judged} (passed : Passed book (length ring) times (length second) (length row) judged) where
    taken : refusal_of call ≡ 0
    taken = asked_first ∙ sym passed.nothing

    beside : BesideTheBook (coarsen_call book ring times second) (coarse_faults book (length ring) times (length second)) (coarser_entries book times)
        row (coarsened_row book ring times second row) call
    beside = coarsen_beside book ring times second row

    room : coarser_entries book times ≤ length row
    room = beside.had_room taken

    same : SameAs (coarsen_call book ring times second) call
    same = beside.with_room room

    own : refusal_of (coarsen_call book ring times second) ≡ 0
    own = sym same.same_refusal ∙ taken

    usable : Usable book (length ring)
    usable = (coarsen_known book ring times second own).0

    can : Coarsens book times
    can = (coarsen_known book ring times second own).1

    bytes_room : coarser_bytes book times ≤ length second
    bytes_room = (coarsen_known book ring times second own).2

    ranges : Ranges book.bound book.length book.tolerance
    ranges = usable.sound.ranges

    -- THE OLD BOOK'S NUMBERS are those that were derived
    abbrev shape : Shape
    shape = judged.known.shape

    shape_is : shape ≡ shape_for book
    shape_is = judged.known.derived ∙ ap shape_for passed.same

    slots_are : shape.slots ≡ slots_of book
    slots_are = ap (λ (s : Shape). s.slots) shape_is

    pub thin : shape.width ≡ 1
    thin = ap (λ (s : Shape). s.width) shape_is ∙ old_width book ranges times can

    abbrev blocks : ℕ
    blocks = (book.kept - book.phase) / shape.block

    blocks_are : blocks ≡ blocks_kept book
    blocks_are = ap (λ (s : Shape). (book.kept - book.phase) / s.block) shape_is

    pub blocks_fit : blocks ≤ shape.slots
    blocks_fit = omega (arith, blocks_are, slots_are, blocks_have_slots book ring times usable can)

    -- the tally is opened
    opening : refusal_of (open_row_call 1 (slots_of book) times second row) ≡ 0
    opening =
        let entries = ap entries_for (new_slots book ranges times can) in
        ((open_beside 1 (slots_of book) times second row).with_room (omega (arith, entries, room))).same_refusal
        ∙ open_taken 1 (slots_of book) times second (fresh_ranges book ring times usable can)
        (fresh_room book ring times usable can second bytes_room)

    own_opening : SameAs (open_call 1 (slots_of book) times second) (open_row_call 1 (slots_of book) times second row)
    own_opening = let b = open_beside 1 (slots_of book) times second row in b.with_room (b.had_room opening)

    pub opens : result_of (open_row_call 1 shape.slots times second row) ≡ record { refusal = 0; book = fresh_tally book times }
    opens =
        ap (λ (n : ℕ). result_of (open_row_call 1 n times second row)) slots_are ∙ own_opening.same_result
        ∙ (open_gives 1 (slots_of book) times second (sym own_opening.same_refusal ∙ opening)).0

    module _ {opened : Book} {second' row' : List ℕ} (opened_is : opened ≡ fresh_tally book times)
        (ring_left_lem : second' ≡ (left_of (open_row_call 1 shape.slots times second row)).ring)
        (row_left_lem : row' ≡ (left_of (open_row_call 1 shape.slots times second row)).row) where
      -- it is fresh, and so are its ring and its row
      record Fresh : Type 0 where
        book_is : opened ≡ fresh_tally book times
        ring_is : second' ≡ fresh_ring book times second
        row_is : row' ≡ fresh_row book times row
        row_long : length row' ≡ length row

      fresh : Fresh
      fresh =
          record {
            book_is = opened_is;
            ring_is =
                ring_left_lem ∙ ap (λ (n : ℕ). (left_of (open_row_call 1 n times second row)).ring) slots_are ∙ own_opening.same_ring
                ∙ (open_gives 1 (slots_of book) times second (sym own_opening.same_refusal ∙ opening)).1;
            row_is =
                row_left_lem ∙ ap (λ (n : ℕ). (left_of (open_row_call 1 n times second row)).row) slots_are
                ∙ (open_beside 1 (slots_of book) times second row).row_after opening;
            row_long = ap length row_left_lem ∙ (open_leaves_rest 1 shape.slots times second row).same_length;
          }

      pub takes : Takes opened (length second') (length row')
      takes =
          let entries = ap entries_for (new_slots book ranges times can) in
          rw (fresh.book_is, fresh.ring_is)
          (record {
            usable = fresh_usable book ring times usable can second bytes_room;
            room = omega (arith, entries, room, fresh.row_long);
            up = refl;
            units = refl;
          })

      -- it takes the old quotients
      module _ {all : Book} {second'' row'' : List ℕ} (all_is : all ≡ added_all opened (quotients judged.known.book ring blocks))
          (ring_is : second'' ≡ added_all_ring opened second' (quotients judged.known.book ring blocks))
          (row_is : row'' ≡ added_all_row opened second' row' (quotients judged.known.book ring blocks)) where
        tallied : all ≡ tally book ring times
        unfolding tally
        tallied = all_is ∙ (λ i. added_all (fresh.book_is i) (quotients (passed.same i) ring (blocks_are i)))

        -- and what it counts is small
        pub small : (times ≤ 16) × (blocks ≤ shape.slots) × (all.carry ≤ 65536) × (all.phase ≤ 4096)
        small =
            let t = tally book ring times in
            let stays = tally_stays book ring times usable can second bytes_room in
            let phase = (tally_phase book ring times usable can second bytes_room).0 in
            let carry : t.carry ≤ times - 1 + t.phase * 1 =
            rw (stays.bound_same, stays.tolerance_same) at stays.usable.sound.carry_high in
            let most = can.times_high in
            (most, blocks_fit, rw tallied (omega (arith, carry, phase, most)), rw tallied (omega (arith, phase, most)))

        -- and the record is made of both
        pub done : {next : Book} {bytes : ℕ}
            → next ≡ record {
              bound = judged.known.book.bound;
              length = judged.known.book.length;
              tolerance = times * judged.known.book.tolerance;
              carry = judged.known.book.carry + judged.known.book.tolerance * all.carry;
              phase = judged.known.book.phase + all.phase * shape.block;
              kept = judged.known.book.phase + blocks * shape.block;
              head = all.head;
              resting = judged.known.book.resting;
            }
            → bytes ≡ coarser_bytes book times
            → (record { refusal = 0; bytes = bytes; book = next } ≡ result_of call) × (second'' ≡ (left_of call).ring) × (row'' ≡ (left_of call).row)
        unfolding coarsened coarsened_ring coarsened_row
        done {next} {bytes} next_is bytes_are =
            let gives = coarsen_gives book ring times second own in
            let record_is : next ≡ coarsened book ring times =
            next_is ∙ (λ i. record {
              bound = (passed.same i).bound;
              length = (passed.same i).length;
              tolerance = times * (passed.same i).tolerance;
              carry = (passed.same i).carry + (passed.same i).tolerance * (tallied i).carry;
              phase = (passed.same i).phase + (tallied i).phase * (shape_is i).block;
              kept = (passed.same i).phase + blocks_are i * (shape_is i).block;
              head = (tallied i).head;
              resting = (passed.same i).resting;
            }) in (
              ap₂ (λ (n : ℕ) (b : Book). record { refusal = 0; bytes = n; book = b }) bytes_are record_is
                  ∙ sym (same.same_result ∙ gives.0),
              ring_is ∙ (λ i. added_all_ring (fresh.book_is i) (fresh.ring_is i) (quotients (passed.same i) ring (blocks_are i)))
                  ∙ sym (same.same_ring ∙ gives.1),
              row_is ∙ (λ i. added_all_row (fresh.book_is i) (fresh.ring_is i) (fresh.row_is i) (quotients (passed.same i) ring (blocks_are i)))
                  ∙ sym (beside.row_after taken),
            )
