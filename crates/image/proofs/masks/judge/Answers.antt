-- `image::masks::judge`: the end of the mask decides, and no bit of it is bad.
-- Assumes nothing.
use Rattle.std.proofs.Common.{ℕ, List, [], ◌∷◌, refl, sym, arith}
use Rattle.std.proofs.lemmas.Grind.{common_steps}
use Rattle.image.specs.Kinds.{pbm}
use Rattle.image.specs.Reading.{raster_refusal, with_raster}
use Rattle.image.proofs.LargestPixel.{at_some_none}
use Rattle.image.proofs.RasterFaults.{raster_taken, raster_there, answers}
use Rattle.image.proofs.masks.judge.Goals as goal

pub returns-in_err-missing : goal.returns-in_err-missing
unfolding with_raster raster_refusal pbm
returns-in_err-missing c = grind (arith, common_steps)

pub returns : goal.returns
unfolding pbm
returns c =
    let head = c.args.head in
    let numbers : List ℕ = head.value.width ∷ head.value.height ∷ [] in
    let there = raster_there pbm c.args.s.now numbers head.used (rw c.row_bytes.ensures at (sym c.in_ok-missing.ensures)) in
    rw c.row_bytes.ensures (answers (raster_taken pbm _ numbers _ there.0 there.1 (at_some_none _ _ λ i h. refl)))
