-- `image::raster`: the part that a reading names lies in the slice.
-- Assumes nothing.
use Rattle.std.proofs.Common.{rules, sym}
use Rattle.image.specs.Promised.{Lies}
use Rattle.image.proofs.ReadingLies.{reading_lies}
use Rattle.image.proofs.raster.Goals as goal
use Rattle.image.proofs.raster.Goals.{In-Ok}

lies : (c : In-Ok) → Lies c.args.s.now c.in-Ok.layout.start c.in-Ok.layout.used
lies c = rw (sym c.in-Ok.ensures) at (reading_lies c.args.s.now)

pub slice_bounds-result-count : goal.slice_bounds-result-count
slice_bounds-result-count c = (lies (goal.at.slice_bounds-result-count c).In-Ok).order

pub slice_bounds-result-start : goal.slice_bounds-result-start
slice_bounds-result-start c = let h = lies (goal.at.slice_bounds-result-start c).In-Ok in search rules

pub slice_bounds-result-end : goal.slice_bounds-result-end
slice_bounds-result-end c = let h = lies (goal.at.slice_bounds-result-end c).In-Ok in search rules
