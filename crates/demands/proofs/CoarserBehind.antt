-- BEHIND THE SLOTS of a coarser book's ring (promise C-19.2), which was lent as bytes: the bits after the last slot are 0, and the bytes from B on
-- are as they were lent. The tally is a run from an opening in that ring, so this is said of it already.
-- Assumes nothing.
use Prim.Native.Nat.{ℕ, ◌≤◌}
use mathlib.Core.List.{List, []}
use mathlib.Core.Path.{◌≡◌, refl, ap, ◌∙◌}
use lib.ListN.{length, get_or}
use Rattle.bits.specs.Row.{bits}
use Rattle.bits.specs.Bytes.{Bytes}
use Rattle.refusals.specs.Call.{refusal_of}
use Rattle.book.specs.declared.Book.{Book}
use Rattle.book.specs.declared.told.Updated.{Updated}
use Rattle.book.specs.declared.told.Ran.{Ran}
use Rattle.book.specs.Derived.{slot_count, field_width}
use Rattle.book.specs.Record.{slots_of, width_of}
use Rattle.book.specs.Sound.{Usable}
use Rattle.book.proofs.Promises.{open_taken, open_gives, run_taken, run_gives}
use Rattle.coarse.specs.Quotients.{old_quotients}
use Rattle.coarse.specs.Coarsens.{Coarsens}
use Rattle.coarse.specs.Coarser.{fresh_tally, fresh_ring, tally, coarsened_ring}
use Rattle.coarse.specs.Calls.{coarser_bytes, coarsen_call}
use Rattle.coarse.proofs.Promises.{coarsen_known, coarsen_gives, coarsened_is, tally_is, coarsened_ring_is, fresh_ranges, fresh_room, fresh_usable, old_quotients_small, new_slots, new_width, new_bytes}
use Rattle.demands.specs.History.{after_run}
use Rattle.demands.specs.RunFromOpening.{FromOpening}
use Rattle.demands.specs.CoarserBooks.{coarser_book, CoarserBehind}
use Rattle.demands.proofs.RunFromOpening.{opening_begins, ring_follows}
use Rattle.demands.proofs.RunsKeepGood.{run_goes_on}
use Rattle.demands.proofs.CoarserKeepsGood.{coarser_record}

module _ (book : Book) (ring : List ℕ) (times : ℕ) (second : List ℕ) (taken : refusal_of (coarsen_call book ring times second) ≡ 0) where
  usable : Usable book (length ring)
  usable = (coarsen_known book ring times second taken).0

  can : Coarsens book times
  can = (coarsen_known book ring times second taken).1

  room : coarser_bytes book times ≤ length second
  room = (coarsen_known book ring times second taken).2

  abbrev s : ℕ
  s = slots_of book

  -- the tally is opened in the second ring …
  begins : FromOpening 1 s times second (fresh_tally book times) (fresh_ring book times second) []
  begins =
      let opens = open_taken 1 s times second (fresh_ranges book ring times usable can) (fresh_room book ring times usable can second room) in
      let gives = open_gives 1 s times second opens in
      rw (ap (λ (r : Updated). r.book) gives.0, gives.1) at (opening_begins 1 s times second opens)

  -- … and takes the old quotients
  goes_on : FromOpening 1 s times second (tally book ring times) (coarsened_ring book ring times second) (after_run (old_quotients book ring) [])
  goes_on =
      let qs = old_quotients book ring in
      let runs = run_taken (fresh_tally book times) (fresh_ring book times second) qs (fresh_usable book ring times usable can second room)
      (old_quotients_small book ring times usable can) refl in
      let gives = run_gives (fresh_tally book times) (fresh_ring book times second) qs runs in
      rw (tally_is book ring times, coarsened_ring_is book ring times second)
      (rw (ap (λ (r : Ran). r.book) gives.0, gives.1) at
      (run_goes_on 1 s times second (fresh_tally book times) (fresh_ring book times second) [] begins qs runs))

  pub coarser_behind : Bytes second → CoarserBehind book ring times second
  coarser_behind bytes =
      let ranges = usable.sound.ranges in
      let follows = ring_follows 1 s times second (tally book ring times) (coarsened_ring book ring times second) _ goes_on bytes in
      let is = coarser_record book ring times second taken ∙ coarsened_is book ring times in
      let left = (coarsen_gives book ring times second taken).1 in
      let size = new_bytes book ranges times can in
      let slots : slots_of (coarser_book book ring times second) ≡ slot_count 1 s times = ap slots_of is ∙ new_slots book ranges times can in
      let width : width_of (coarser_book book ring times second) ≡ field_width 1 times = ap width_of is ∙ new_width book ranges times can in
      record {
        tail_0 = λ i behind inside.
            ap (λ (r : List ℕ). get_or (bits r) i 0) left
            ∙ follows.tail_0 i (rw (slots, width) at behind) (rw size at inside);
        rest_as_lent =
            rw (left, size) follows.rest_as_lent;
      }
