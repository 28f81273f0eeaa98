-- `watch::decide`: each return is one of the cases of an outcome.
-- Assumes nothing.
use Rattle.std.proofs.Common.{◌≡◌, ℕ, ◌≤◌, List, length, refl, sym, ◌∙◌, rules}
use Rattle.std.proofs.Math.Seq.{length-take-le}
use Rattle.refusals.proofs.Numbers.{number_not_0}
use Rattle.image.specs.declared.told.Numbers.{Numbers}
use Rattle.image.specs.Reading.{numbers_of}
use Rattle.image.proofs.Promises.{reading_lies}
use Rattle.watch.proofs.Deciding.{comes_to, not_cut, none_over, none_yet, short_waits, decides, decided_refused, decided_first, decided_counted}
use Rattle.watch.proofs.decide.Goals as goal

pub returns-then-over : goal.returns-then-over
returns-then-over c = let a = c.args in
    comes_to (refl, refl) (none_over a.state a.ring.now a.last.now a.rest.now a.over (search rules) c.if-over.true)

pub returns-else-over : goal.returns-else-over
returns-else-over c = let a = c.args in
    comes_to (refl, refl) (none_yet a.state a.ring.now a.last.now a.rest.now a.over (search rules) c.if-over.false)

pub returns-in-Err : goal.returns-in-Err
returns-in-Err c = let a = c.args in
    let some : length a.rest.now ≡ 0 → ⊥ = search rules in
    let cut = sym c.short_yet.ensures ∙ c.if-short_yet.true in
    comes_to (refl, refl) (short_waits a.state a.ring.now a.last.now a.rest.now a.over some c.in-Err.ensures cut)

pub returns-in-Err-2 : goal.returns-in-Err-2
returns-in-Err-2 c = let a = c.args in
    let some : length a.rest.now ≡ 0 → ⊥ = search rules in
    let whole = sym c.short_yet.ensures ∙ c.if-short_yet.false in
    comes_to (refl, refl)
    (decided_refused a.state a.ring.now a.last.now a.rest.now c.in-Err.ensures (number_not_0 c.in-Err.refusal)
    ∙ decides a.state a.ring.now a.last.now a.rest.now a.over some c.in-Err.ensures whole)

pub returns-in-Ok : goal.returns-in-Ok
returns-in-Ok c = let a = c.args in
    let some : length a.rest.now ≡ 0 → ⊥ = search rules in
    comes_to (c.from.ensures ∙ c.shown.ensures, refl)
    (decided_first a.state a.ring.now a.last.now a.rest.now c.in-Ok.ensures refl c.if-state-eq0.true
    ∙ decides a.state a.ring.now a.last.now a.rest.now a.over some c.in-Ok.ensures (not_cut a.over))

-- an image lies in the bytes at hand
used_there : {n : Numbers} (bytes : List ℕ) → n ≡ numbers_of bytes → n.used ≤ length bytes
used_there bytes e = rw e (reading_lies bytes).there

pub slice_bounds-counted-end : goal.slice_bounds-counted-end
slice_bounds-counted-end c =
    sym (length-take-le c.in-Ok.layout.used c.args.rest.now (used_there c.args.rest.now c.in-Ok.ensures))

pub returns-in-Ok-2 : goal.returns-in-Ok-2
returns-in-Ok-2 c = let a = c.args in
    let some : length a.rest.now ≡ 0 → ⊥ = search rules in
    comes_to (c.from-in-Ok-2.ensures ∙ c.counted.ensures.0, c.counted.ensures.1)
    (decided_counted a.state a.ring.now a.last.now a.rest.now c.in-Ok.ensures refl c.if-state-eq0.false
    ∙ decides a.state a.ring.now a.last.now a.rest.now a.over some c.in-Ok.ensures (not_cut a.over))
