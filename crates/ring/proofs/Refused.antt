-- When a call of the ring is refused: what is known where it is not, and that it is not where all is in range.
-- Assumes nothing.
use Prim.Native.Nat.{ℕ, zero, suc, ◌^◌, ◌≤◌, ◌<◌}
use mathlib.Core.Bool.{false}
use mathlib.Core.List.{List}
use mathlib.Core.Path.{◌≡◌, refl}
use borrow.Author.Tests.{le-ltb, lt-leb, ltb-false, leb-false}
use lib.Dec.{T, ltb}
use lib.ListN.{length}
use Rattle.refusals.specs.First.{unless_refused, outside}
use Rattle.refusals.specs.declared.Refusal.{Refusal}
use Rattle.refusals.specs.Refused.{number_of}
use Rattle.refusals.specs.Call.{Call, refusal_of, by_refusal}
use Rattle.refusals.specs.Demand1.{NoneHolds}
use Rattle.refusals.proofs.Laws.{in_range, not_outside}
use Rattle.refusals.proofs.Numbers.{number_not_0}
use Rattle.refusals.proofs.Calls.{none_refuses, nothing_holds, none_is0, written_out}
use Rattle.ring.specs.Limits.{widest, most_slots}
use Rattle.ring.specs.Slot.{ring_bytes}
use Rattle.ring.specs.Lent.{Lent, HasSlot}
use Rattle.ring.specs.Calls.{clear_call, read_call, write_call, sum_call}

none_hold : {Result Left : Type 0} (call : Call Result Left) → T (none_is0 call.faults) → refusal_of call ≡ 0 → NoneHolds call.faults
none_hold call numbered e = nothing_holds call.faults (written_out call.faults numbered) e

none_hold_taken : {Result Left : Type 0} (call : Call Result Left) → NoneHolds call.faults → refusal_of call ≡ 0
none_hold_taken call none = none_refuses call.faults none

-- a refusal's number leads to what comes back, and leaves what was lent
pub comes_back : {Told : Type 0} (refusal : Refusal) (given : Told) (back : ℕ → Told) → by_refusal (number_of refusal) given back ≡ back (number_of refusal)
comes_back refusal given back = by (number_of refusal) (number_not_0 refusal)
  where
    by : (number : ℕ) → (number ≡ 0 → ⊥) → by_refusal number given back ≡ back number
    by zero ne = absurd (ne refl)
    by (suc number) ne = refl

pub stays_lent : {Left : Type 0} (refusal : Refusal) (new old : Left) → unless_refused (number_of refusal) new old ≡ old
stays_lent refusal new old = by (number_of refusal) (number_not_0 refusal)
  where
    by : (number : ℕ) → (number ≡ 0 → ⊥) → unless_refused number new old ≡ old
    by zero ne = absurd (ne refl)
    by (suc number) ne = refl

-- what the proofs of the calls list
pub ruleset refusing = (comes_back, stays_lent)

module _ (width slots : ℕ) (ring : List ℕ) where
  whole_known : outside 1 widest width ≡ false → outside 1 most_slots slots ≡ false → ltb (length ring) (ring_bytes width slots) ≡ false
      → Lent width slots (length ring)
  whole_known w s room =
      let wr = in_range 1 widest width w in
      let sr = in_range 1 most_slots slots s in
      record {
        width_low = wr.0;
        width_high = wr.1;
        slots_low = sr.0;
        slots_high = sr.1;
        room = ltb-false (length ring) (ring_bytes width slots) room;
      }

  pub sum_known : (next j : ℕ) → refusal_of (sum_call width slots ring next j) ≡ 0 → HasSlot width slots (length ring) next × (j ≤ slots)
  unfolding sum_call
  sum_known next j e =
      let none = none_hold (sum_call width slots ring next j) tt e in (
        record { whole = whole_known none.0 none.1.0 none.1.1.1.1.0; below = leb-false slots next none.1.1.0 },
        ltb-false slots j none.1.1.1.0,
      )

  module _ (h : Lent width slots (length ring)) where
    width_passes : outside 1 widest width ≡ false
    width_passes = not_outside 1 widest width h.width_low h.width_high

    slots_pass : outside 1 most_slots slots ≡ false
    slots_pass = not_outside 1 most_slots slots h.slots_low h.slots_high

    room_passes : ltb (length ring) (ring_bytes width slots) ≡ false
    room_passes = le-ltb (length ring) (ring_bytes width slots) h.room

    pub clear_taken : refusal_of (clear_call width slots ring) ≡ 0
    unfolding clear_call
    clear_taken = none_hold_taken (clear_call width slots ring) (width_passes, (slots_pass, (room_passes, tt)))

    module _ (slot : ℕ) (below : slot < slots) where
      pub read_taken : refusal_of (read_call width slots ring slot) ≡ 0
      unfolding read_call
      read_taken = none_hold_taken (read_call width slots ring slot) (width_passes, (slots_pass, (lt-leb slots slot below, (room_passes, tt))))

      pub write_taken : (value : ℕ) → value < 2 ^ width → refusal_of (write_call width slots ring slot value) ≡ 0
      unfolding write_call
      write_taken value fits =
          none_hold_taken (write_call width slots ring slot value)
          (width_passes, (slots_pass, (lt-leb slots slot below, (lt-leb (2 ^ width) value fits, (room_passes, tt)))))

      pub sum_taken : (j : ℕ) → j ≤ slots → refusal_of (sum_call width slots ring slot j) ≡ 0
      unfolding sum_call
      sum_taken j most =
          none_hold_taken (sum_call width slots ring slot j)
          (width_passes, (slots_pass, (lt-leb slots slot below, (le-ltb slots j most, (room_passes, tt)))))
