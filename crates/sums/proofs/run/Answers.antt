-- `sums::run`: each refusal in its order; then all counts are added, part by part.
-- Assumes nothing.
use Rattle.std.proofs.Common.{length, ap, ◌∙◌}
use Rattle.std.proofs.lemmas.Result.{err_from_is_err_and}
use Rattle.refusals.proofs.Numbers.{number_not_0}
use Rattle.book.specs.declared.Book.{Book}
use Rattle.book.specs.RunOfCounts.{any_above, added_all, added_all_ring}
use Rattle.book.proofs.Promises.{judged_number, judged_ready}
use Rattle.sums.specs.Row.{added_all_row}
use Rattle.sums.proofs.Judging.{entries_are, row_roomy, row_has_room}
use Rattle.sums.proofs.InOrder.{run_no_book, run_no_row, run_not_taken, run_done}
use Rattle.sums.proofs.run.Goals as goal

pub returns-in_err-known : goal.returns-in_err-known
returns-in_err-known c =
    let p = err_from_is_err_and c.from_residual.result c.from_residual.ensures.1 in
    rw (p.1, p.2) (run_no_book c.args.book c.args.ring.now c.args.row.now c.args.counts.now
    (judged_number c.args.book (length c.args.ring.now) c.usable.ensures _ c.in_err-known.was) (number_not_0 _))

pub returns-in_err-room_for_row : goal.returns-in_err-room_for_row
returns-in_err-room_for_row c =
    let p = err_from_is_err_and c.from_residual-in_err-room_for_row.result c.from_residual-in_err-room_for_row.ensures.1 in
    let ready = judged_ready c.args.book (length c.args.ring.now) c.usable.ensures _ c.in_ok-known.was in
    rw (p.1, p.2)
    (run_no_row c.args.book c.args.ring.now c.args.row.now c.args.counts.now ready.usable
    (c.in_err-room_for_row.ensures ∙ entries_are c.args.book (length c.args.row.now) ready.shape_is) (number_not_0 _))

pub returns-in_err-takes : goal.returns-in_err-takes
returns-in_err-takes c =
    let p = err_from_is_err_and c.from_residual-in_err-takes.result c.from_residual-in_err-takes.ensures.1 in
    let ready = judged_ready c.args.book (length c.args.ring.now) c.usable.ensures _ c.in_ok-known.was in
    rw (p.1, p.2)
    (run_not_taken c.args.book c.args.ring.now c.args.row.now c.args.counts.now ready.usable
    (row_has_room c.args.book (length c.args.row.now) ready.shape_is c.in_ok-room_for_row.ensures) c.in_err-takes.field-0.0 c.in_err-takes.ensures)

pub add_all-requires : goal.add_all-requires
add_all-requires c =
    let same = c.usable.ensures.same _ c.in_ok-known.was in
    record {
      ring_room = c.usable.ensures.room _ c.in_ok-known.was;
      row_room = row_roomy _ (length c.args.row.now) c.in_ok-room_for_row.ensures;
      up = ap (λ (b : Book). b.resting) same ∙ c.in_ok-takes.ensures.0;
      small = ap (λ (b : Book). any_above b.bound c.args.counts.now) same ∙ c.in_ok-takes.ensures.1;
    }

pub returns : goal.returns
returns c =
    let ready = judged_ready c.args.book (length c.args.ring.now) c.usable.ensures _ c.in_ok-known.was in
    let same = c.usable.ensures.same _ c.in_ok-known.was in
    run_done c.args.book c.args.ring.now c.args.row.now c.args.counts.now ready.usable
    (row_has_room c.args.book (length c.args.row.now) ready.shape_is c.in_ok-room_for_row.ensures) c.in_ok-takes.ensures.1 c.in_ok-takes.ensures.0
    (c.add_all.ensures.0 ∙ ap (λ (b : Book). added_all b c.args.counts.now) same)
    (c.add_all.ensures.1 ∙ ap (λ (b : Book). added_all_ring b c.args.ring.now c.args.counts.now) same)
    (c.add_all.ensures.2 ∙ ap (λ (b : Book). added_all_row b c.args.ring.now c.args.row.now c.args.counts.now) same)
