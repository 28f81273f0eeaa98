-- THE TALLY of a book that is made coarser has taken the old quotients: what it keeps of them, in units of D.
-- Assumes nothing.
use Prim.Native.Nat.{ℕ, suc, ◌+◌, ◌*◌, ◌/◌, ◌%◌, ◌≤◌, ◌<◌}
use native.Mathlib.Nat.{add-zero}
use mathlib.Core.List.{List, []}
use mathlib.Core.Path.{◌≡◌, ap, sym, ◌∙◌}
use lib.ListN.{length}
use Rattle.ring.specs.Newest.{newest}
use Rattle.book.specs.declared.Book.{Book}
use Rattle.book.specs.Record.{block_of, slots_of, held_in}
use Rattle.book.specs.Sound.{Usable}
use Rattle.book.proofs.Promises.{book_lent}
use Rattle.coarse.specs.Quotients.{blocks_kept, old_quotients}
use Rattle.coarse.specs.Coarsens.{Coarsens}
use Rattle.coarse.specs.Coarser.{fresh_tally, fresh_ring, tally, coarsened_ring}
use Rattle.coarse.specs.Calls.{coarser_bytes}
use Rattle.coarse.proofs.Promises.{length_quotients, tally_is, coarsened_ring_is, fresh_ranges, fresh_room, fresh_usable, old_quotients_small}
use Rattle.coarse.proofs.Promises.{tally_stays, tally_counted, tally_kept, tally_block, tally_blocks}
use Rattle.demands.specs.History.{after_run, older}
use Rattle.demands.proofs.BeforeIsOlder.{ByItems, fresh_by_items, more_by_items, counts_keep}
use Rattle.demands.proofs.SlotsNotReached.{NotReached, fresh_not_reached, more_not_reached, length_after}

-- a book in units with m items to a block, that has taken J items: so many blocks and its phase. The carry is what has come in since m was last
-- passed, and each slot how often m was passed while its block came in
pub record Tallied (units : Book) (own : ℕ → ℕ) (items : List ℕ) (times J : ℕ) : Type 0 where
  pub blocks : ℕ
  pub count_is : J ≡ times * blocks + units.phase
  pub phase_lt : units.phase < times
  pub few : blocks ≤ slots_of units
  pub head_is : units.head ≡ blocks % slots_of units
  pub carried : units.carry + times * (older units.phase items / times) ≡ older 0 items
  pub stored : (j : ℕ) → units.phase + j * times < J
      → own (newest (slots_of units) units.head (suc j)) + older (units.phase + suc j * times) items / times
      ≡ older (units.phase + j * times) items / times

-- the items that the tally has taken: the old quotients, the newest first
abbrev pub tally_items : Book → List ℕ → List ℕ
tally_items book ring = after_run (old_quotients book ring) []

module _ (book : Book) (ring : List ℕ) (usable : Usable book (length ring)) (times : ℕ) (can : Coarsens book times) (second : List ℕ)
    (room : coarser_bytes book times ≤ length second) where
  abbrev K : Book
  K = tally book ring times

  by_units : ByItems K (coarsened_ring book ring times second) (tally_items book ring)
  by_units =
      rw (tally_is book ring times, coarsened_ring_is book ring times second)
      (counts_keep ByItems more_by_items (fresh_tally book times) (fresh_ring book times second) (old_quotients book ring) []
      (fresh_usable book ring times usable can second room) (old_quotients_small book ring times usable can)
      (fresh_by_items 1 (slots_of book) times (fresh_ring book times second) (fresh_ranges book ring times usable can)))

  block_m : block_of K ≡ times
  block_m = tally_block book ring times usable can second room

  tolerance_m : K.tolerance ≡ times
  tolerance_m = (tally_stays book ring times usable can second room).tolerance_same

  passed : (i : ℕ) → by_units.inv.before i / K.tolerance ≡ older i (tally_items book ring) / times
  passed i = λ t. by_units.before_is i t / tolerance_m t

  passed_by_block : (j : ℕ) → by_units.inv.before (K.phase + j * block_of K) / K.tolerance
      ≡ older (K.phase + j * times) (tally_items book ring) / times
  passed_by_block j = passed (K.phase + j * block_of K) ∙ ap (λ (m : ℕ). older (K.phase + j * m) (tally_items book ring) / times) block_m

  pub tallied : Tallied K (held_in K (coarsened_ring book ring times second)) (tally_items book ring) times (blocks_kept book)
  tallied =
      let counted = tally_counted book ring times usable can second room in
      record {
        blocks = counted.blocks;
        count_is = counted.count_is ∙ ap (λ (m : ℕ). m * counted.blocks + K.phase) block_m;
        phase_lt = rw block_m at counted.phase_lt;
        few = tally_blocks book ring times usable can second room;
        head_is = counted.head_is;
        carried = sym (λ t. K.carry + tolerance_m t * passed K.phase t) ∙ by_units.inv.carried ∙ by_units.before_is 0;
        stored = λ j h.
            ap (λ (q : ℕ). held_in K (coarsened_ring book ring times second) (newest (slots_of K) K.head (suc j)) + q) (sym (passed_by_block (suc j)))
            ∙ by_units.inv.blocks j (rw (block_m, tally_kept book ring times usable can second room) h)
            ∙ passed_by_block j;
      }

  -- the slots that no block of it has reached are as they were cleared
  pub rest_of_tally : (slot : ℕ) → blocks_kept book < (slot + 1) * times → slot < slots_of K → held_in K (coarsened_ring book ring times second) slot ≡ 0
  rest_of_tally slot behind inside =
      let whole = book_lent 1 (slots_of book) times (length second) (fresh_ranges book ring times usable can)
      (fresh_room book ring times usable can second room) in
      let kept : NotReached K (coarsened_ring book ring times second) (tally_items book ring) =
      rw (tally_is book ring times, coarsened_ring_is book ring times second)
      (counts_keep NotReached more_not_reached (fresh_tally book times) (fresh_ring book times second) (old_quotients book ring) []
      (fresh_usable book ring times usable can second room) (old_quotients_small book ring times usable can)
      (fresh_not_reached 1 (slots_of book) times second whole)) in
      let count : length (tally_items book ring) ≡ blocks_kept book =
      length_after (old_quotients book ring) [] ∙ add-zero _ ∙ length_quotients book ring (blocks_kept book) in
      kept.rest slot (rw (count, block_m) behind) inside
