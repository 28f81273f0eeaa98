-- `sums::open`: each refusal in its order; then the book's own opening answers, and the used entries are cleared.
-- Assumes nothing.
use Rattle.std.proofs.Common.{ap, ◌∙◌}
use Rattle.std.proofs.lemmas.Result.{err_from_is_err_and}
use Rattle.refusals.proofs.Numbers.{number_not_0}
use Rattle.book.specs.declared.told.Updated.{Updated}
use Rattle.book.proofs.Promises.{open_number}
use Rattle.sums.specs.Row.{cleared_row}
use Rattle.sums.proofs.InOrder.{open_refused, no_numbers, no_ring, no_row, own_opens, open_done}
use Rattle.sums.proofs.open.Goals as goal

pub returns-in_err-shape : goal.returns-in_err-shape
returns-in_err-shape c =
    let p = err_from_is_err_and c.from_residual.result c.from_residual.ensures.1 in
    let a = c.args in
    rw (p.1, p.2) (open_refused a.bound a.length a.tolerance a.ring.now a.row.now
    (no_numbers a.bound a.length a.tolerance a.ring.now a.row.now _ c.in_err-shape.ensures) (number_not_0 _))

pub returns-in_err-room_for_ring : goal.returns-in_err-room_for_ring
returns-in_err-room_for_ring c =
    let p = err_from_is_err_and c.from_residual-in_err-room_for_ring.result c.from_residual-in_err-room_for_ring.ensures.1 in
    let a = c.args in
    rw (p.1, p.2) (open_refused a.bound a.length a.tolerance a.ring.now a.row.now
    (no_ring a.bound a.length a.tolerance a.ring.now a.row.now c.in_ok-shape.ensures c.in_err-room_for_ring.ensures (number_not_0 _)) (number_not_0 _))

pub returns-in_err-room_for_row : goal.returns-in_err-room_for_row
returns-in_err-room_for_row c =
    let p = err_from_is_err_and c.from_residual-in_err-room_for_row.result c.from_residual-in_err-room_for_row.ensures.1 in
    let a = c.args in
    rw (p.1, p.2) (open_refused a.bound a.length a.tolerance a.ring.now a.row.now
    (no_row a.bound a.length a.tolerance a.ring.now a.row.now c.in_ok-shape.ensures c.in_ok-room_for_ring.ensures c.in_err-room_for_row.ensures
    (number_not_0 _)) (number_not_0 _))

pub returns-in_err-opened : goal.returns-in_err-opened
returns-in_err-opened c =
    let a = c.args in
    let taken = own_opens a.bound a.length a.tolerance a.ring.now a.row.now c.in_ok-shape.ensures c.in_ok-room_for_ring.ensures in
    absurd (number_not_0 c.in_err-opened.field-0.0
    (ap (λ (u : Updated). u.refusal) c.in_err-opened.ensures.0 ∙ open_number a.bound a.length a.tolerance a.ring.now ∙ taken))

pub returns : goal.returns
unfolding cleared_row
returns c =
    let a = c.args in
    open_done a.bound a.length a.tolerance a.ring.now a.row.now c.in_ok-shape.ensures c.in_ok-room_for_ring.ensures c.in_ok-room_for_row.ensures
    c.in_ok-opened.ensures.0 c.in_ok-opened.ensures.1 (rw c.entries.ensures at c.clear.ensures)
