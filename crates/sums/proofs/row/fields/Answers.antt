-- `sums::row::fields`: the ring's call is asked for the last of the first `to` slots, where there are any.
-- Assumes nothing.
use Rattle.std.proofs.Common.{◌≡◌, ℕ, ◌-◌, Result, Ok, Err, refl, sym, ap, ◌∙◌, arith}
use Rattle.std.specs.Result.{result_unwrap_or}
use Rattle.refusals.specs.declared.Refusal.{Refusal}
use Rattle.ring.specs.declared.Answer.{Answer}
use Rattle.ring.specs.Told.{as_answer}
use Rattle.sums.proofs.FieldsInRange.{no_fields}
use Rattle.sums.proofs.row.fields.Goals as goal

-- an answer's number is 0 where it is refused
number_told : (answer : Result ℕ Refusal) → result_unwrap_or answer 0 ≡ (as_answer answer).value
number_told (Ok value) = refl
number_told (Err refusal) = refl

pub returns-then-to-from : goal.returns-then-to-from
returns-then-to-from c =
    let none : c.args.to - c.args.from ≡ 0 = omega arith in
    rw none (sym (no_fields c.args.known.shape.width c.args.to c.args.ring.now))

pub returns : goal.returns
returns c = c.unwrap_or.ensures ∙ number_told c.sum.result ∙ ap (λ (a : Answer). a.value) c.sum.ensures
