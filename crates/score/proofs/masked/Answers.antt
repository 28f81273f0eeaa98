-- `score::masked`: a refusal comes with 0, and without one the mask has a row of bytes for each row of the images.
use Rattle.std.proofs.Common.{ℕ, sym, ap, ◌∙◌, rules}
use Rattle.std.proofs.lemmas.Result.{err_from_is_err_and}
use Rattle.refusals.specs.First.{first_of}
use Rattle.refusals.proofs.Calls.{result_refused}
use Rattle.refusals.proofs.Numbers.{number_not_0}
use Rattle.image.specs.declared.told.Numbers.{Numbers}
use Rattle.image.specs.Reading.{numbers_of}
use Rattle.image.specs.Mask.{mask_numbers_of}
use Rattle.score.specs.Calls.{side_faults, differ_faults}
use Rattle.score.specs.Masked.{masked_call}
use Rattle.score.proofs.Reading.{known_lies, mask_known_lies, images_first, mask_next, images_differ_next, mask_differs_last}
use Rattle.score.proofs.ScoredUnderMask.{masked_refusal_is, read_size, read_taken}
use Rattle.score.proofs.masked.Goals as goal

abbrev refusal : Numbers → ℕ
refusal numbers = numbers.refusal

pub returns-in_err-images : goal.returns-in_err-images
unfolding masked_call
returns-in_err-images c = let p = err_from_is_err_and c.from_residual.result c.from_residual.ensures.1 in
    let a = c.args in
    let e = c.in_err-images.field-0.0 in
    rw (p.1, p.2)
    (result_refused (masked_call a.bound a.allowance a.first.now a.second.now a.mask.now)
    (images_first a.bound (numbers_of a.first.now) (numbers_of a.second.now) (mask_numbers_of a.mask.now) e c.in_err-images.ensures.refusal
    ∙ masked_refusal_is a.bound a.allowance a.first.now a.second.now a.mask.now)
    (number_not_0 e))

pub returns-in_err-over : goal.returns-in_err-over
unfolding masked_call
returns-in_err-over c = let p = err_from_is_err_and c.from_residual-in_err-over.result c.from_residual-in_err-over.ensures.1 in
    let a = c.args in
    let e = c.in_err-over.field-0.0 in
    rw (p.1, p.2)
    (result_refused (masked_call a.bound a.allowance a.first.now a.second.now a.mask.now)
    (mask_next a.bound (numbers_of a.first.now) (numbers_of a.second.now) (mask_numbers_of a.mask.now) c.in_ok-images.ensures.refusal e
    (ap refusal c.in_err-over.ensures)
    ∙ masked_refusal_is a.bound a.allowance a.first.now a.second.now a.mask.now)
    (number_not_0 e))

pub returns-in_err-alike : goal.returns-in_err-alike
unfolding masked_call
returns-in_err-alike c = let p = err_from_is_err_and c.from_residual-in_err-alike.result c.from_residual-in_err-alike.ensures.1 in
    let a = c.args in
    let e = c.in_err-alike.field-0.0 in
    let read = c.in_ok-images.ensures.read in
    rw (p.1, p.2)
    (result_refused (masked_call a.bound a.allowance a.first.now a.second.now a.mask.now)
    (images_differ_next a.bound (numbers_of a.first.now) (numbers_of a.second.now) (mask_numbers_of a.mask.now) c.in_ok-images.ensures.refusal
    (ap refusal c.in_ok-over.ensures) e
    (c.in_err-alike.ensures ∙ λ i. first_of (differ_faults (read.0 i) (read.1 i)))
    ∙ masked_refusal_is a.bound a.allowance a.first.now a.second.now a.mask.now)
    (number_not_0 e))

pub returns-in_err-sides : goal.returns-in_err-sides
unfolding masked_call
returns-in_err-sides c = let p = err_from_is_err_and c.from_residual-in_err-sides.result c.from_residual-in_err-sides.ensures.1 in
    let a = c.args in
    let e = c.in_err-sides.field-0.0 in
    let read = c.in_ok-images.ensures.read in
    rw (p.1, p.2)
    (result_refused (masked_call a.bound a.allowance a.first.now a.second.now a.mask.now)
    (mask_differs_last a.bound (numbers_of a.first.now) (numbers_of a.second.now) (mask_numbers_of a.mask.now) c.in_ok-images.ensures.refusal
    (ap refusal c.in_ok-over.ensures)
    (c.in_ok-alike.ensures ∙ λ i. first_of (differ_faults (read.0 i) (read.1 i)))
    (c.in_err-sides.ensures ∙ λ i. first_of (side_faults (read.0 i) (c.in_ok-over.ensures i)))
    ∙ masked_refusal_is a.bound a.allowance a.first.now a.second.now a.mask.now)
    (number_not_0 e))

pub slice_bounds-changed-count : goal.slice_bounds-changed-count
slice_bounds-changed-count c = (known_lies _ c.args.first.now c.in_ok-images.ensures.read.0).order

pub slice_bounds-changed-start : goal.slice_bounds-changed-start
slice_bounds-changed-start c = let h = known_lies _ c.args.first.now c.in_ok-images.ensures.read.0 in search rules

pub slice_bounds-changed-end : goal.slice_bounds-changed-end
slice_bounds-changed-end c = let h = known_lies _ c.args.first.now c.in_ok-images.ensures.read.0 in search rules

pub slice_bounds-changed-count-2 : goal.slice_bounds-changed-count-2
slice_bounds-changed-count-2 c = (known_lies _ c.args.second.now c.in_ok-images.ensures.read.1).order

pub slice_bounds-changed-start-2 : goal.slice_bounds-changed-start-2
slice_bounds-changed-start-2 c = let h = known_lies _ c.args.second.now c.in_ok-images.ensures.read.1 in search rules

pub slice_bounds-changed-end-2 : goal.slice_bounds-changed-end-2
slice_bounds-changed-end-2 c = let h = known_lies _ c.args.second.now c.in_ok-images.ensures.read.1 in search rules

pub slice_bounds-changed-count-3 : goal.slice_bounds-changed-count-3
slice_bounds-changed-count-3 c = (mask_known_lies _ c.args.mask.now c.in_ok-over.ensures).order

pub slice_bounds-changed-start-3 : goal.slice_bounds-changed-start-3
slice_bounds-changed-start-3 c = let h = mask_known_lies _ c.args.mask.now c.in_ok-over.ensures in search rules

pub slice_bounds-changed-end-3 : goal.slice_bounds-changed-end-3
slice_bounds-changed-end-3 c = let h = mask_known_lies _ c.args.mask.now c.in_ok-over.ensures in search rules

pub changed-changed-requires : goal.changed-changed-requires
changed-changed-requires c = let a = c.args in
    let read = c.in_ok-images.ensures.read in
    let taken = sym (mask_differs_last a.bound (numbers_of a.first.now) (numbers_of a.second.now) (mask_numbers_of a.mask.now)
    c.in_ok-images.ensures.refusal (ap refusal c.in_ok-over.ensures)
    (c.in_ok-alike.ensures ∙ λ i. first_of (differ_faults (read.0 i) (read.1 i)))
    (c.in_ok-sides.ensures ∙ λ i. first_of (side_faults (read.0 i) (c.in_ok-over.ensures i)))) in
    read_size a.bound a.allowance a.first.now a.second.now a.mask.now taken read.0 read.1 c.in_ok-over.ensures

pub returns : goal.returns
returns c = let a = c.args in
    let read = c.in_ok-images.ensures.read in
    let taken = sym (mask_differs_last a.bound (numbers_of a.first.now) (numbers_of a.second.now) (mask_numbers_of a.mask.now)
    c.in_ok-images.ensures.refusal (ap refusal c.in_ok-over.ensures)
    (c.in_ok-alike.ensures ∙ λ i. first_of (differ_faults (read.0 i) (read.1 i)))
    (c.in_ok-sides.ensures ∙ λ i. first_of (side_faults (read.0 i) (c.in_ok-over.ensures i)))) in
    read_taken a.bound a.allowance a.first.now a.second.now a.mask.now taken read.0 read.1 c.in_ok-over.ensures
    c.changed-changed.ensures c.at_most.ensures
