-- `sums::total`: it asks in the order of its row, and then the book's own total answers, or the row is read.
-- Assumes nothing.
use Rattle.std.proofs.Common.{ℕ, List, length, ap, ◌∙◌}
use Rattle.std.proofs.lemmas.Result.{err_from_is_err_and}
use Rattle.refusals.proofs.Numbers.{number_not_0}
use Rattle.book.specs.declared.Book.{Book}
use Rattle.book.specs.declared.told.Figure.{Figure}
use Rattle.book.proofs.Promises.{total_number, total_taken, judged_number, judged_ready}
use Rattle.sums.specs.declared.RowTotal.{RowTotal}
use Rattle.sums.specs.declared.told.Summed.{Summed}
use Rattle.sums.specs.Rule.{fields_for, sums_for, figure_by_row}
use Rattle.sums.proofs.Judging.{entries_are, row_has_room}
use Rattle.sums.proofs.TotalWithRow.{book_refused, row_refused, long_refused, inside_open, by_the_row}
use Rattle.sums.proofs.total.Goals as goal

-- what a total by the row tells of a book
abbrev by_the_rule : (ring row : List ℕ) (window : ℕ) → Book → Summed
by_the_rule ring row window book =
    record {
      refusal = 0;
      figure = figure_by_row book ring row window;
      fields = fields_for book window;
      sums = sums_for book window;
    }

pub returns-in_err-known : goal.returns-in_err-known
returns-in_err-known c =
    let p = err_from_is_err_and c.from_residual.result c.from_residual.ensures.1 in
    rw (p.1, p.2) (book_refused c.args.book c.args.ring.now c.args.row.now c.args.window
    (judged_number c.args.book (length c.args.ring.now) c.usable.ensures _ c.in_err-known.was) (number_not_0 _))

pub returns-in_err-room_for_row : goal.returns-in_err-room_for_row
returns-in_err-room_for_row c =
    let p = err_from_is_err_and c.from_residual-in_err-room_for_row.result c.from_residual-in_err-room_for_row.ensures.1 in
    let ready = judged_ready c.args.book (length c.args.ring.now) c.usable.ensures _ c.in_ok-known.was in
    rw (p.1, p.2) (row_refused c.args.book c.args.ring.now c.args.row.now c.args.window ready.usable
    (c.in_err-room_for_row.ensures ∙ entries_are c.args.book (length c.args.row.now) ready.shape_is) (number_not_0 _))

pub returns-then-book-window : goal.returns-then-book-window
returns-then-book-window c =
    let ready = judged_ready c.args.book (length c.args.ring.now) c.usable.ensures _ c.in_ok-known.was in
    long_refused c.args.book c.args.ring.now c.args.row.now c.args.window ready.usable
    (row_has_room c.args.book (length c.args.row.now) ready.shape_is c.in_ok-room_for_row.ensures) c.if-book-window.true

pub returns-in_err-total : goal.returns-in_err-total
returns-in_err-total c =
    let ready = judged_ready c.args.book (length c.args.ring.now) c.usable.ensures _ c.in_ok-known.was in
    let taken = total_taken c.args.book c.args.ring.now c.args.window ready.usable c.if-book-window.false in
    absurd (number_not_0 c.in_err-total.field-0.0
    (ap (λ (f : Figure). f.refusal) c.in_err-total.ensures ∙ total_number c.args.book c.args.ring.now c.args.window ∙ taken))

pub returns-then-window-book : goal.returns-then-window-book
returns-then-window-book c =
    let ready = judged_ready c.args.book (length c.args.ring.now) c.usable.ensures _ c.in_ok-known.was in
    ap (λ (f : Figure). record { refusal = 0; figure = f.figure; fields = 0; sums = 0 }) c.in_ok-total.ensures
    ∙ inside_open c.args.book c.args.ring.now c.args.row.now c.args.window ready.usable
    (row_has_room c.args.book (length c.args.row.now) ready.shape_is c.in_ok-room_for_row.ensures) c.if-book-window.false c.if-window-book.true

pub returns : goal.returns
returns c =
    let ready = judged_ready c.args.book (length c.args.ring.now) c.usable.ensures _ c.in_ok-known.was in
    ap (λ (t : RowTotal). record { refusal = 0; figure = t.figure; fields = t.fields; sums = t.sums }) c.by_row.ensures
    ∙ ap (by_the_rule c.args.ring.now c.args.row.now c.args.window) (c.usable.ensures.same _ c.in_ok-known.was)
    ∙ by_the_row c.args.book c.args.ring.now c.args.row.now c.args.window ready.usable
    (row_has_room c.args.book (length c.args.row.now) ready.shape_is c.in_ok-room_for_row.ensures) c.if-book-window.false
