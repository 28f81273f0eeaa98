-- `salvage::judge::ready`: the book is judged first, and then 21 decides.
-- Assumes nothing.
use Rattle.std.proofs.Common.{[], ◌∷◌, arith}
use Rattle.std.proofs.lemmas.Result.{err_from_is_err_and}
use Rattle.refusals.proofs.Laws.{first_stops}
use Rattle.refusals.proofs.Numbers.{number_not_0}
use Rattle.book.specs.Calls.{book_faults}
use Rattle.book.proofs.Promises.{judged_number}
use Rattle.salvage.specs.Calls.{numbers_fault}
use Rattle.salvage.proofs.judge.ready.Goals as goal

pub returns-in_err-known : goal.returns-in_err-known
returns-in_err-known c =
    let p = err_from_is_err_and c.from_residual.result c.from_residual.ensures.1 in
    rw (p.1, p.2)
    (first_stops (book_faults c.args.book c.args.ring) (numbers_fault c.args.book c.args.numbers ∷ []) _
    (judged_number c.args.book c.args.ring c.usable.ensures _ c.in_err-known.was) (number_not_0 _))

pub returns : goal.returns
returns c = (c.usable.ensures.same _ c.in_ok-known.was, c.usable.ensures.room _ c.in_ok-known.was, omega arith)
