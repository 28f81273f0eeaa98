-- What the ring's calls give a book: its ring is lent whole, so that none of them is refused.
-- Assumes nothing.
use Rattle.std.proofs.Common.{◌≡◌, ℕ, ◌^◌, ◌<◌, ◌≤◌, List, length, Result, Ok, Err, refl, ap, ◌∙◌}
use Rattle.std.specs.Result.{IsOk}
use Rattle.refusals.specs.declared.Refusal.{Refusal}
use Rattle.refusals.specs.Refused.{number_in}
use Rattle.refusals.specs.Call.{result_of}
use Rattle.refusals.proofs.Numbers.{number_not_0}
use Rattle.refusals.proofs.Calls.{tells, result_number}
use Rattle.ring.specs.declared.Answer.{Answer}
use Rattle.ring.specs.Lent.{Lent}
use Rattle.ring.specs.Told.{as_answer}
use Rattle.ring.specs.Slot.{field}
use Rattle.ring.specs.Calls.{clear_call, read_call, write_call, sum_call}
use Rattle.ring.specs.Newest.{sum_newest}
use Rattle.ring.proofs.Promises.{clear_taken, read_reads, sum_sums, write_taken}

-- a result with the number 0 is no refusal …
done : (given : Result (Unit {0}) Refusal) → number_in given ≡ 0 → IsOk given
done (Ok nothing) e = refl
done (Err refusal) e = absurd (number_not_0 refusal e)

-- … and neither is one that tells it
answered : (given : Result ℕ Refusal) {value : ℕ} → as_answer given ≡ record { refusal = 0; value = value } → given ≡ Ok value
answered (Ok value) e = ap (λ (a : Answer). Ok a.value) e
answered (Err refusal) e = absurd (number_not_0 refusal (ap (λ (a : Answer). a.refusal) e))

module _ (width slots : ℕ) (ring : List ℕ) (whole : Lent width slots (length ring)) where
  pub ring_cleared : (given : Result (Unit {0}) Refusal) → number_in given ≡ result_of (clear_call width slots ring) → IsOk given
  unfolding clear_call
  ring_cleared given e =
      done given
      (e ∙ result_number (λ number. number) (clear_call width slots ring) (tells tt refl (λ number. refl)) ∙ clear_taken width slots ring whole)

  module _ (slot : ℕ) (below : slot < slots) where
    pub ring_reads : (given : Result ℕ Refusal) → as_answer given ≡ result_of (read_call width slots ring slot) → given ≡ Ok (field width ring slot)
    ring_reads given e = answered given (e ∙ read_reads width slots ring whole slot below)

    pub ring_sums : (j : ℕ) → j ≤ slots → (given : Result ℕ Refusal) → as_answer given ≡ result_of (sum_call width slots ring slot j)
        → given ≡ Ok (sum_newest (field width ring) slots slot j)
    ring_sums j most given e = answered given (e ∙ sum_sums width slots ring whole slot below j most)

    pub ring_writes : (value : ℕ) → value < 2 ^ width → (given : Result (Unit {0}) Refusal)
        → number_in given ≡ result_of (write_call width slots ring slot value) → IsOk given
    unfolding write_call
    ring_writes value fits given e =
        done given
        (e ∙ result_number (λ number. number) (write_call width slots ring slot value) (tells tt refl (λ number. refl))
        ∙ write_taken width slots ring whole slot below value fits)
