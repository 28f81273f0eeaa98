-- `coarse::tally::gather`: each turn reads the quotient whose place it is.
-- Assumes nothing.
use Rattle.std.proofs.Common.{◌≡◌, ℕ, ◌-◌, ◌<◌, List, [], ◌∷◌, ◌++◌, length, get_or, sym, ap, ◌∙◌, arith, ap₂, add-one}
use Rattle.std.proofs.Math.Seq.{take-suc, take-suc-set}
use Rattle.ring.specs.Slot.{field}
use Rattle.ring.specs.Newest.{newest}
use Rattle.book.specs.declared.shape.Shape.{Shape}
use Rattle.coarse.specs.Quotients.{quotients}
use Rattle.coarse.proofs.OldQuotients.{length_quotients, quotient_at}
use Rattle.coarse.proofs.tally.gather.Goals as goal

pub loop-i-preserved : goal.loop-i-preserved
loop-i-preserved c =
    let a = c.args in
    let l = c.loop-i in
    let qs = quotients a.known.book a.ring.now a.j in
    let here : l.i < length l.part = omega (arith, c.loop-i.auto.part, c.loop-i-test.true) in
    let inside : l.i < length qs = omega (arith, length_quotients a.known.book a.ring.now a.j, c.requires.2, c.loop-i-test.true) in
    let read_is : c.quotient.result ≡ get_or qs l.i 0 =
    c.quotient.ensures
    ∙ ap (λ (q : Shape). field q.width a.ring.now (newest q.slots a.known.book.head (a.j - l.i))) a.known.derived
    ∙ sym (quotient_at a.known.book a.ring.now a.j l.i (omega (arith, c.requires.2, c.loop-i-test.true))) in
    rw (add-one l.i)
    (take-suc-set l.part l.i c.quotient.result here
    ∙ ap₂ (λ (front : List ℕ) (q : ℕ). front ++ (q ∷ [])) l.invariant read_is
    ∙ sym (take-suc qs l.i 0 inside))
