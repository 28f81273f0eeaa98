-- THE CLOSED FORM of a coarser book (promises C-19.1, C-19.2): each number of its record, and what the slots of its new blocks hold, by the sums of
-- the old quotients.
-- Assumes nothing.
use Prim.Native.Nat.{ℕ, suc, ◌+◌, ◌-◌, ◌*◌, ◌/◌, ◌%◌, ◌≤◌, ◌<◌}
use native.Mathlib.Nat.{mod-lt, mod-eq_of_lt, mod_self, div-add-mod}
use native.Mathlib.Nat.{mul_comm, mul-le-mul_right, add-zero}
use native.Mathlib.Omega.{arith}
use mathlib.Core.List.{List, []}
use mathlib.Core.Logic.{◌⊎◌, inl, inr}
use mathlib.Core.Path.{◌≡◌, sym, ap, ◌∙◌}
use lib.ListN.{length}
use Rattle.refusals.specs.Call.{refusal_of}
use Rattle.ring.specs.Newest.{newest}
use Rattle.ring.proofs.Promises.{newest_near, newest_far}
use Rattle.book.specs.declared.Book.{Book}
use Rattle.book.specs.Record.{block_of, slots_of, held_in}
use Rattle.book.specs.Sound.{Usable}
use Rattle.book.proofs.Promises.{le_or_lt, in_blocks}
use Rattle.coarse.specs.Quotients.{blocks_kept, old_quotients}
use Rattle.coarse.specs.Coarsens.{Coarsens}
use Rattle.coarse.specs.Coarser.{tally, coarsened_ring}
use Rattle.coarse.specs.Calls.{coarser_bytes, coarsen_call}
use Rattle.coarse.proofs.Promises.{length_quotients, coarsen_known, coarsen_gives, coarsened_is, tally_slots, tally_held}
use Rattle.demands.specs.History.{sum_of, older}
use Rattle.demands.specs.CoarserBooks.{oldest_sum, CoarserFollows}
use Rattle.demands.proofs.OlderQuotients.{older_first}
use Rattle.demands.proofs.TallyTaken.{Tallied, tally_items, tallied, rest_of_tally}
use Rattle.demands.proofs.CoarserKeepsGood.{coarser_record}

-- block k of so many stands in slot k, while these are no more than the slots
block_slot : (slots blocks j k : ℕ) → blocks ≤ slots → suc j + k ≡ blocks → newest slots (blocks % slots) (suc j) ≡ k
block_slot slots blocks j k few all = by (le_or_lt slots blocks)
  where
    by : (slots ≤ blocks) ⊎ (blocks < slots) → newest slots (blocks % slots) (suc j) ≡ k
    by (inl full) =
        let same : blocks ≡ slots = omega arith in
        let at_0 : blocks % slots ≡ 0 = ap (λ (b : ℕ). b % slots) same ∙ mod_self slots in
        rw at_0 (newest_far slots 0 (suc j) (omega arith) (omega arith) ∙ omega arith)
    by (inr more) =
        rw (mod-eq_of_lt more) (newest_near slots blocks (suc j) (omega arith) ∙ omega arith)

module _ (book : Book) (ring : List ℕ) (usable : Usable book (length ring)) (times : ℕ) (can : Coarsens book times) (second : List ℕ)
    (room : coarser_bytes book times ≤ length second) where
  abbrev K : Book
  K = tally book ring times

  abbrev J : ℕ
  J = blocks_kept book

  abbrev Q : ℕ → ℕ
  Q = oldest_sum book ring times

  units : Tallied K (held_in K (coarsened_ring book ring times second)) (tally_items book ring) times J
  units = tallied book ring usable times can second room

  often : 0 < times
  often = omega (arith, can.times_low)

  -- J is so many blocks of m, and the phase
  blocks_are : units.blocks ≡ J / times
  blocks_are = (in_blocks units.count_is units.phase_lt).1

  phase_left : K.phase ≡ J % times
  phase_left = (in_blocks units.count_is units.phase_lt).0

  -- what is older than the newest i quotients is the sum of the others
  sum_at : (i t : ℕ) → i + t ≡ J → older i (tally_items book ring) ≡ Q t
  unfolding sum_of
  sum_at i t e = older_first (old_quotients book ring) [] i t (e ∙ sym (length_quotients book ring J)) ∙ add-zero (Q t)

  carry_left : K.carry ≡ Q J - times * (Q (times * (J / times)) / times)
  carry_left =
      let all : older 0 (tally_items book ring) ≡ Q J = sum_at 0 J (omega arith) in
      let closed : older K.phase (tally_items book ring) ≡ Q (times * (J / times)) =
      sum_at K.phase (times * (J / times)) (omega (arith, phase_left, div-add-mod J times)) in
      let carried : K.carry + times * (Q (times * (J / times)) / times) ≡ Q J = rw (closed, all) at units.carried in
      omega arith

  slot_holds : (k : ℕ) → k < J / times
      → held_in K (coarsened_ring book ring times second) k ≡ Q ((k + 1) * times) / times - Q (k * times) / times
  slot_holds k h =
      let j : ℕ = J / times - suc k in
      let all : suc j + k ≡ units.blocks = omega (arith, blocks_are) in
      let whole : J ≡ K.phase + suc j * times + k * times =
      omega (arith, units.count_is, ap (λ (b : ℕ). times * b) (sym all), mul_comm times (suc j + k)) in
      let here : older (K.phase + j * times) (tally_items book ring) ≡ Q ((k + 1) * times) =
      sum_at (K.phase + j * times) ((k + 1) * times) (omega arith) in
      let next : older (K.phase + suc j * times) (tally_items book ring) ≡ Q (k * times) =
      sum_at (K.phase + suc j * times) (k * times) (omega arith) in
      let slot : newest (slots_of K) K.head (suc j) ≡ k =
      ap (λ (head : ℕ). newest (slots_of K) head (suc j)) units.head_is ∙ block_slot (slots_of K) units.blocks j k units.few all in
      let stored : held_in K (coarsened_ring book ring times second) k + Q (k * times) / times ≡ Q ((k + 1) * times) / times =
      rw (slot, here, next) at (units.stored j (omega (arith, often))) in
      omega arith

  -- a slot that no block has reached holds 0
  slot_not_reached : (k : ℕ) → J / times ≤ k → k < slots_of K → held_in K (coarsened_ring book ring times second) k ≡ 0
  slot_not_reached k past inside =
      let behind : (J / times + 1) * times ≤ (k + 1) * times = mul-le-mul_right times (omega arith) in
      rest_of_tally book ring usable times can second room k
      (omega (arith, behind, div-add-mod J times, mod-lt J often, mul_comm (J / times) times)) inside

pub coarser_follows : (book : Book) (ring : List ℕ) (times : ℕ) (second : List ℕ) → refusal_of (coarsen_call book ring times second) ≡ 0
    → CoarserFollows book ring times second
coarser_follows book ring times second taken =
    let known = coarsen_known book ring times second taken in
    let gives = coarsen_gives book ring times second taken in
    let record_is = coarser_record book ring times second taken in
    let is = record_is ∙ coarsened_is book ring times in
    let u = units book ring known.0 times known.1 second known.2 in
    let blocks = blocks_are book ring known.0 times known.1 second known.2 in
    let slots = tally_slots book ring times known.0 known.1 second known.2 ∙ sym (ap slots_of record_is) in
    record {
      bound_is = ap (λ (b : Book). b.bound) is;
      length_is = ap (λ (b : Book). b.length) is;
      tolerance_is = ap (λ (b : Book). b.tolerance) is;
      carry_is = ap (λ (b : Book). b.carry) is
          ∙ ap (λ (k : ℕ). book.carry + book.tolerance * k) (carry_left book ring known.0 times known.1 second known.2);
      phase_is = ap (λ (b : Book). b.phase) is
          ∙ ap (λ (f : ℕ). book.phase + f * block_of book) (phase_left book ring known.0 times known.1 second known.2);
      kept_is = ap (λ (b : Book). b.kept) is;
      head_is = ap (λ (b : Book). b.head) is ∙ u.head_is ∙ (λ i. blocks i % slots i);
      mark_is = ap (λ (b : Book). b.resting) is;
      slot_is = λ k h. rw (record_is, gives.1)
          (sym (λ i. tally_held book ring times known.0 known.1 second known.2 (coarsened_ring book ring times second) i k)
          ∙ slot_holds book ring known.0 times known.1 second known.2 k h);
      rest_0 = λ k past inside. rw (record_is, gives.1)
          (sym (λ i. tally_held book ring times known.0 known.1 second known.2 (coarsened_ring book ring times second) i k)
          ∙ slot_not_reached book ring known.0 times known.1 second known.2 k past (rw (sym slots) at inside));
    }
