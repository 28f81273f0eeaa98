-- `sums::judge::room_beside`: a record whose L, n and D have no numbers is no book; of a book with its ring 18 comes behind 8 and 4.
-- Assumes nothing.
use Rattle.std.proofs.Common.{◌≡◌, [], ◌∷◌, Result, sym, ap, subst, ◌∙◌, arith}
use Rattle.refusals.specs.Numbers.{no_book}
use Rattle.refusals.specs.declared.Refusal.{Refusal}
use Rattle.refusals.specs.Refused.{number_in}
use Rattle.refusals.specs.Call.{result_of}
use Rattle.refusals.proofs.Laws.{first_stops}
use Rattle.refusals.proofs.Numbers.{number_not_0}
use Rattle.book.specs.declared.shape.Shape.{Shape}
use Rattle.book.specs.Shape.{shape_call}
use Rattle.book.specs.Told.{as_shaped}
use Rattle.book.specs.Calls.{book_faults}
use Rattle.book.proofs.Promises.{no_record, judged_ready}
use Rattle.sums.specs.Row.{entries_of}
use Rattle.sums.specs.Calls.{row_fault}
use Rattle.sums.proofs.Judging.{use_passes, numbers_are, no_numbers, row_next, entries_are, row_has_room}
use Rattle.sums.proofs.judge.room_beside.Goals as goal

pub returns-in_default : goal.returns-in_default
returns-in_default c =
    let book = c.args.book in
    let told = subst (λ (f : Result Shape Refusal). as_shaped f ≡ result_of (shape_call book.bound book.length book.tolerance)) c.in_default.is c.derive.ensures in
    first_stops (book_faults book c.args.ring) (row_fault (entries_of book) c.args.row ∷ []) no_book
    (no_record book c.args.ring (no_numbers book _ told) (λ e. omega arith)) (λ e. omega arith)

pub returns-in-Err : goal.returns-in-Err
returns-in-Err c =
    let book = c.args.book in
    let told = subst (λ (f : Result Shape Refusal). as_shaped f ≡ result_of (shape_call book.bound book.length book.tolerance)) c.in-Ok.is c.derive.ensures in
    let usable = (judged_ready book c.args.ring c.usable.ensures _ c.in_ok-usable.was).usable in
    row_next (book_faults book c.args.ring) [] (entries_of book) c.args.row (use_passes book c.args.ring usable)
    (sym (ap number_in c.in-Err.is) ∙ c.room_for_row.ensures ∙ entries_are book c.args.row (numbers_are book told)) (number_not_0 _)

pub returns : goal.returns
returns c =
    let book = c.args.book in
    let told = subst (λ (f : Result Shape Refusal). as_shaped f ≡ result_of (shape_call book.bound book.length book.tolerance)) c.in-Ok.is c.derive.ensures in
    let shape_is = numbers_are book told in
    (shape_is, row_has_room book c.args.row shape_is (sym (ap number_in c.in_default-room_for_row.is) ∙ c.room_for_row.ensures))
