-- `salvage::salvage`: refused, it hands all back; taken, the ring is put right.
-- Assumes nothing.
use Rattle.std.proofs.Common.{refl, sym, ap, ◌∙◌}
use Rattle.std.proofs.lemmas.Result.{err_from_is_err_and}
use Rattle.refusals.proofs.Numbers.{number_not_0}
use Rattle.salvage.specs.declared.Mended.{Mended}
use Rattle.salvage.proofs.WhenTaken.{salvage_refusal}
use Rattle.salvage.proofs.TheCalls.{handed_back, judged_taken, as_called}
use Rattle.salvage.proofs.salvage.Goals as goal

pub returns-in_err-known : goal.returns-in_err-known
returns-in_err-known c =
    let p = err_from_is_err_and c.from_residual.result c.from_residual.ensures.1 in
    let a = c.args in
    rw (p.1, p.2)
    (handed_back a.book a.ring.now a.numbers.now (c.in_err-known.ensures ∙ sym (salvage_refusal a.book a.ring.now a.numbers.now)) (number_not_0 _) refl)

pub returns : goal.returns
returns c =
    let a = c.args in
    let ready = c.in_ok-known.ensures in
    let mended = rw ready.0 at c.mend.ensures in
    as_called a.book a.ring.now a.numbers.now (judged_taken c.in_ok-known.known ready.0 a.ring.now a.numbers.now ready.1 ready.2)
    (ap (λ (m : Mended). record { refusal = 0; count = m.count; book = m.book }) mended.0) mended.1 mended.2
