-- `page::raster`: the part lies in the slice of the picture that is shown, between the picked bytes; with a refusal it is empty.
use Rattle.std.proofs.Common.{◌-◌, sym, ap, ◌∙◌, rules}
use Rattle.image.specs.Part.{cut}
use Rattle.image.specs.Promised.{Lies}
use Rattle.page.specs.Calls.{lent_by}
use Rattle.page.specs.Told.{as_picture}
use Rattle.page.proofs.Pictures.{of_shown_made, cut_nothing}
use Rattle.page.proofs.PickedFirst.{part_in, picked_lies, picked_part}
use Rattle.page.proofs.raster.Goals as goal
use Rattle.page.proofs.raster.Goals.{After-struct_known-1}

-- what is picked lies in the slice that is cut
lies : (c : After-struct_known-1) → Lies c.of_shown-slice.result.now c.in-Ok.picked.start c.in-Ok.picked.end
lies c = let a = c.args in
    let bytes = ap (λ x. x.now) c.of_shown-slice.ensures ∙ of_shown_made (λ x. x.now) (as_picture c.in-Ok.picked.picture) a.newest a.older in
    rw bytes (rw (sym c.in-Ok.ensures) at (picked_lies a.book a.window a.amount (lent_by a.ring a.newest a.older)))

pub slice_bounds-result-count : goal.slice_bounds-result-count
slice_bounds-result-count c = (lies c).order

pub slice_bounds-result-start : goal.slice_bounds-result-start
slice_bounds-result-start c = let h = lies c in
    search rules

pub slice_bounds-result-end : goal.slice_bounds-result-end
slice_bounds-result-end c = let h = lies c in
    search rules

pub returns-in-Ok : goal.returns-in-Ok
returns-in-Ok c = let a = c.args in
    (λ i. cut (c.of_shown-slice.ensures i) c.in-Ok.picked.start (c.in-Ok.picked.end - c.in-Ok.picked.start))
    ∙ ap (part_in a.newest a.older) c.in-Ok.ensures
    ∙ picked_part a.book a.window a.amount a.ring a.newest a.older

pub returns-in-Err : goal.returns-in-Err
returns-in-Err c = let a = c.args in
    sym (cut_nothing a.newest) ∙ ap (part_in a.newest a.older) c.in-Err.ensures ∙ picked_part a.book a.window a.amount a.ring a.newest a.older
