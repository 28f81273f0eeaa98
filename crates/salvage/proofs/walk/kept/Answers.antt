-- `salvage::walk::kept`: kept as it is where no slot is altered, and otherwise the smaller of the two; all these numbers are small.
-- Assumes nothing.
use Rattle.std.proofs.Common.{◌≡◌, ℕ, suc, ◌+◌, ◌*◌, ◌≤◌, Option, Some, min, refl, ap, ◌∙◌, arith, mul-le-mul}
use Rattle.book.specs.declared.known.Known.{Known}
use Rattle.book.specs.declared.shape.Shape.{Shape}
use Rattle.salvage.specs.Steps.{nth}
use Rattle.salvage.specs.Salvaged.{kept_for}
use Rattle.salvage.proofs.AtHand.{known_slots, known_block, known_phase}
use Rattle.salvage.proofs.walk.kept.Goals as goal

-- the items of the blocks that are newer than an altered slot
newer_items : (known : Known) {newer : Option ℕ} {blocks : ℕ} → nth newer ≤ known.shape.slots → newer ≡ Some blocks
    → blocks * known.shape.block ≤ 16777216
newer_items known {newer} {blocks} within is =
    let few : suc blocks ≤ known.shape.slots = rw is at within in
    mul-le-mul {n₂ = 4096} {m₂ = 4096} (omega (arith, few, known_slots known)) (known_block known)

-- the smaller of the two
kept_some : (known : Known) {newer : Option ℕ} {blocks kept : ℕ} → newer ≡ Some blocks
    → kept ≡ min known.book.kept (known.book.phase + blocks * known.shape.block) → kept ≡ kept_for known.book (nth newer)
unfolding kept_for
kept_some known {newer} {blocks} is kept_is =
    let book = known.book in
    rw is (kept_is ∙ ap (λ (s : Shape). min book.kept (book.phase + blocks * s.block)) known.derived)

pub overflow_mul-blocks : goal.overflow_mul-blocks
overflow_mul-blocks c = omega (arith, newer_items c.args.known c.requires c.in-Some.is)

pub overflow_add-book : goal.overflow_add-book
overflow_add-book c = omega (arith, newer_items c.args.known c.requires c.in-Some.is, known_phase c.args.known)

pub returns-in-Some : goal.returns-in-Some
returns-in-Some c = kept_some c.args.known c.in-Some.is c.min.ensures

pub returns-in-None : goal.returns-in-None
unfolding kept_for
returns-in-None c = rw c.in-None.is refl
