-- `coarse::judge::coarser`: it asks in the order of the calls.
-- Assumes nothing.
use Rattle.std.proofs.Common.{◌∙◌}
use Rattle.std.proofs.lemmas.Result.{err_from_is_err_and}
use Rattle.refusals.proofs.Numbers.{number_not_0}
use Rattle.book.proofs.Promises.{judged_number, judged_ready}
use Rattle.coarse.proofs.AskedInOrder.{book_first, too_large, bytes_is, short_ring, row_decides}
use Rattle.coarse.proofs.judge.coarser.Goals as goal

pub returns-in_err-known : goal.returns-in_err-known
returns-in_err-known c =
    let p = err_from_is_err_and c.from_residual.result c.from_residual.ensures.1 in
    rw (p.1, p.2)
    (book_first c.args.book c.args.ring c.args.times c.args.second c.args.row (judged_number c.args.book c.args.ring c.usable.ensures _ c.in_err-known.was) (number_not_0 _))

pub returns-in_err-coarser : goal.returns-in_err-coarser
returns-in_err-coarser c =
    let p = err_from_is_err_and c.from_residual-in_err-coarser.result c.from_residual-in_err-coarser.ensures.1 in
    rw (p.1, p.2)
    (too_large c.args.book c.args.ring c.args.times c.args.second c.args.row (judged_ready c.args.book c.args.ring c.usable.ensures _ c.in_ok-known.was).usable c.if-book-ne0.false c.if-times-lt-FEWEST_TIMES.false c.if-times-gt-MOST_TIMES.false
    c.in_err-coarser.field-0.0 c.in_err-coarser.ensures)

pub returns-in_err-room_for_ring : goal.returns-in_err-room_for_ring
returns-in_err-room_for_ring c =
    let p = err_from_is_err_and c.from_residual-in_err-room_for_ring.result c.from_residual-in_err-room_for_ring.ensures.1 in
    rw (p.1, p.2)
    (short_ring c.args.book c.args.ring c.args.times c.args.second c.args.row (judged_ready c.args.book c.args.ring c.usable.ensures _ c.in_ok-known.was).usable c.if-book-ne0.false c.if-times-lt-FEWEST_TIMES.false c.if-times-gt-MOST_TIMES.false
    c.in_ok-coarser.ensures c.in_err-room_for_ring.ensures (number_not_0 _))

pub returns-in_err-room_for_row : goal.returns-in_err-room_for_row
returns-in_err-room_for_row c =
    let p = err_from_is_err_and c.from_residual-in_err-room_for_row.result c.from_residual-in_err-room_for_row.ensures.1 in
    rw (p.1, p.2)
    (c.in_err-room_for_row.ensures
    ∙ row_decides c.args.book c.args.ring c.args.times c.args.second c.args.row (judged_ready c.args.book c.args.ring c.usable.ensures _ c.in_ok-known.was).usable c.if-book-ne0.false c.if-times-lt-FEWEST_TIMES.false c.if-times-gt-MOST_TIMES.false
    c.in_ok-coarser.ensures c.in_ok-room_for_ring.ensures)

pub returns : goal.returns
returns c =
    record {
      nothing =
          c.in_ok-room_for_row.ensures
          ∙ row_decides c.args.book c.args.ring c.args.times c.args.second c.args.row (judged_ready c.args.book c.args.ring c.usable.ensures _ c.in_ok-known.was).usable c.if-book-ne0.false c.if-times-lt-FEWEST_TIMES.false c.if-times-gt-MOST_TIMES.false
          c.in_ok-coarser.ensures c.in_ok-room_for_ring.ensures;
      same = c.usable.ensures.same _ c.in_ok-known.was;
      room = c.usable.ensures.room _ c.in_ok-known.was;
      bytes_are =
          bytes_is c.args.book c.args.ring c.args.times c.args.second c.args.row (judged_ready c.args.book c.args.ring c.usable.ensures _ c.in_ok-known.was).usable c.if-book-ne0.false c.if-times-lt-FEWEST_TIMES.false c.if-times-gt-MOST_TIMES.false
          c.in_ok-coarser.ensures;
    }
