-- A SUM COUNTS THE SLOTS ALONE (promise C-14.1), for every width: what stands in the bits after the last slot and in the bytes from B on, and
-- how many of these are lent, makes no difference to it.
-- Assumes nothing.
use Prim.Native.Nat.{ℕ, zero, suc, ◌+◌, ◌*◌, ◌^◌, ◌≤◌, ◌<◌}
use native.Mathlib.Omega.{arith}
use mathlib.Core.List.{List}
use mathlib.Core.Path.{◌≡◌, refl, sym, ap, ap₂, ◌∙◌}
use borrow.Author.Tests.{le-ltb}
use lib.ListN.{length}
use Rattle.refusals.specs.Call.{refusal_of, result_of}
use Rattle.refusals.proofs.Calls.{result_taken, result_refused, result_cases}
use Rattle.bits.specs.Row.{part_at}
use Rattle.bits.proofs.Promises.{part_lt}
use Rattle.ring.specs.declared.Answer.{Answer}
use Rattle.ring.specs.Slot.{ring_bytes, field}
use Rattle.ring.specs.Calls.{sum_call}
use Rattle.ring.proofs.Fields.{slot_end, slot_within}
use Rattle.ring.proofs.Around.{sum_same}
use Rattle.ring.proofs.OnesOfPart.{part_in_two}
use Rattle.ring.proofs.Refused.{sum_known}

-- parts of the same bits, one by one, are the same
same_part : (ring ring' : List ℕ) (width from : ℕ) → from + width ≤ length ring * 8 → from + width ≤ length ring' * 8
    → ((i : ℕ) → from ≤ i → i < from + width → part_at i 1 ring ≡ part_at i 1 ring') → part_at from width ring ≡ part_at from width ring'
same_part ring ring' zero from within within' same = omega (arith, part_lt from 0 ring, part_lt from 0 ring')
same_part ring ring' (suc width) from within within' same =
    let one : suc width ≡ 1 + width = omega arith in
    ap (λ (n : ℕ). part_at from n ring) one
    ∙ part_in_two ring from 1 width (omega arith)
    ∙ ap₂ (λ (bit later : ℕ). bit * 2 ^ width + later) (same from (omega arith) (omega arith))
    (same_part ring ring' width (from + 1) (omega arith) (omega arith) (λ i low high. same i (omega arith) (omega arith)))
    ∙ sym (part_in_two ring' from 1 width (omega arith))
    ∙ ap (λ (n : ℕ). part_at from n ring') (sym one)

module _ (width slots next j : ℕ) (ring ring' : List ℕ)
    (room : ring_bytes width slots ≤ length ring) (room' : ring_bytes width slots ≤ length ring') where
  same_refusal : refusal_of (sum_call width slots ring next j) ≡ refusal_of (sum_call width slots ring' next j)
  unfolding sum_call
  same_refusal = rw (le-ltb (length ring) (ring_bytes width slots) room, le-ltb (length ring') (ring_bytes width slots) room')

  -- two rings that are lent whole, with the same number in each slot, have the same sums
  pub only_slots_count : ((slot : ℕ) → slot < slots → field width ring slot ≡ field width ring' slot)
      → result_of (sum_call width slots ring next j) ≡ result_of (sum_call width slots ring' next j)
  unfolding sum_call
  only_slots_count same =
      result_cases (λ (r : Answer). r ≡ result_of (sum_call width slots ring' next j)) (sum_call width slots ring next j) taken
      (λ number e. result_refused (sum_call width slots ring' next j) (sym e ∙ same_refusal) (λ none. omega arith))
    where
      taken : refusal_of (sum_call width slots ring next j) ≡ 0
          → (sum_call width slots ring next j).given ≡ result_of (sum_call width slots ring' next j)
      taken e =
          ap (λ (sum : ℕ). record { refusal = 0; value = sum })
          (sum_same (field width ring) (field width ring') slots next j (sum_known width slots ring next j e).0.below same)
          ∙ result_taken (sum_call width slots ring' next j) refl (sym same_refusal ∙ e)

  -- so have two in which the bits of the slots are the same: no bit after the last slot and no byte from B on is counted
  pub only_slot_bits_count : ((i : ℕ) → i < slots * width → part_at i 1 ring ≡ part_at i 1 ring')
      → result_of (sum_call width slots ring next j) ≡ result_of (sum_call width slots ring' next j)
  unfolding field
  only_slot_bits_count same =
      only_slots_count
      (λ slot below.
      same_part ring ring' width (slot * width) (slot_within width slots slot ring below room) (slot_within width slots slot ring' below room')
      (λ i low high. same i (omega (arith, slot_end width below))))
