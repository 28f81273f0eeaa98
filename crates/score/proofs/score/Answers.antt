-- `score::score`: a refusal comes with 0, and without one the two rasters have one size.
use Rattle.std.proofs.Common.{sym, ◌∙◌, rules}
use Rattle.std.proofs.lemmas.Result.{err_from_is_err_and}
use Rattle.refusals.specs.First.{first_of}
use Rattle.refusals.proofs.Calls.{result_refused}
use Rattle.refusals.proofs.Numbers.{number_not_0}
use Rattle.image.specs.Reading.{numbers_of}
use Rattle.score.specs.Calls.{image_faults, differ_faults, score_call}
use Rattle.score.proofs.Reading.{known_lies, found_first, found_behind}
use Rattle.score.proofs.Scored.{refusal_is, same_size, score_taken}
use Rattle.score.proofs.score.Goals as goal

pub returns-in_err-pair : goal.returns-in_err-pair
unfolding score_call
returns-in_err-pair c = let p = err_from_is_err_and c.from_residual.result c.from_residual.ensures.1 in
    let a = c.args in
    let one = numbers_of a.first.now in
    let two = numbers_of a.second.now in
    let refusal = c.in_err-pair.field-0.0 in
    rw (p.1, p.2)
    (result_refused (score_call a.bound a.allowance a.first.now a.second.now)
    (found_first refusal (image_faults a.bound one two) (differ_faults one two) c.in_err-pair.ensures.refusal
    ∙ refusal_is a.bound a.allowance a.first.now a.second.now)
    (number_not_0 refusal))

pub returns-in_err-alike : goal.returns-in_err-alike
unfolding score_call
returns-in_err-alike c = let p = err_from_is_err_and c.from_residual-in_err-alike.result c.from_residual-in_err-alike.ensures.1 in
    let a = c.args in
    let one = numbers_of a.first.now in
    let two = numbers_of a.second.now in
    let read = c.in_ok-pair.ensures.read in
    let refusal = c.in_err-alike.field-0.0 in
    rw (p.1, p.2)
    (result_refused (score_call a.bound a.allowance a.first.now a.second.now)
    (found_behind (image_faults a.bound one two) (differ_faults one two) c.in_ok-pair.ensures.refusal
    (c.in_err-alike.ensures ∙ λ i. first_of (differ_faults (read.0 i) (read.1 i)))
    ∙ refusal_is a.bound a.allowance a.first.now a.second.now)
    (number_not_0 refusal))

pub slice_bounds-changed-count : goal.slice_bounds-changed-count
slice_bounds-changed-count c = (known_lies _ c.args.first.now c.in_ok-pair.ensures.read.0).order

pub slice_bounds-changed-start : goal.slice_bounds-changed-start
slice_bounds-changed-start c = let h = known_lies _ c.args.first.now c.in_ok-pair.ensures.read.0 in search rules

pub slice_bounds-changed-end : goal.slice_bounds-changed-end
slice_bounds-changed-end c = let h = known_lies _ c.args.first.now c.in_ok-pair.ensures.read.0 in search rules

pub slice_bounds-changed-count-2 : goal.slice_bounds-changed-count-2
slice_bounds-changed-count-2 c = (known_lies _ c.args.second.now c.in_ok-pair.ensures.read.1).order

pub slice_bounds-changed-start-2 : goal.slice_bounds-changed-start-2
slice_bounds-changed-start-2 c = let h = known_lies _ c.args.second.now c.in_ok-pair.ensures.read.1 in search rules

pub slice_bounds-changed-end-2 : goal.slice_bounds-changed-end-2
slice_bounds-changed-end-2 c = let h = known_lies _ c.args.second.now c.in_ok-pair.ensures.read.1 in search rules

pub changed-changed-requires : goal.changed-changed-requires
changed-changed-requires c = let a = c.args in
    let one = numbers_of a.first.now in
    let two = numbers_of a.second.now in
    let read = c.in_ok-pair.ensures.read in
    let taken = sym (found_behind (image_faults a.bound one two) (differ_faults one two) c.in_ok-pair.ensures.refusal
    (c.in_ok-alike.ensures ∙ λ i. first_of (differ_faults (read.0 i) (read.1 i)))) in
    rw (sym read.0, sym read.1) at (same_size a.bound a.allowance a.first.now a.second.now taken)

pub returns : goal.returns
returns c = let a = c.args in
    let one = numbers_of a.first.now in
    let two = numbers_of a.second.now in
    let read = c.in_ok-pair.ensures.read in
    let taken = sym (found_behind (image_faults a.bound one two) (differ_faults one two) c.in_ok-pair.ensures.refusal
    (c.in_ok-alike.ensures ∙ λ i. first_of (differ_faults (read.0 i) (read.1 i)))) in
    rw (c.at_most.ensures, c.changed-changed.ensures) (rw (sym read.0, sym read.1) at (score_taken a.bound a.allowance a.first.now a.second.now taken))
