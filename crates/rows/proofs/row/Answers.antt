-- `rows::row`: too short a buffer stays as it is, and any other takes the line at its start, its fields one behind the other.
-- Assumes nothing.
use Rattle.std.proofs.Common.{◌++◌, refl, arith, rules}
use Rattle.rows.specs.Row.{field_text, score_text, word_text, row_text}
use Rattle.rows.proofs.Writing.{appended_then, line_refused, line_written}
use Rattle.rows.proofs.row.Goals as goal

pub returns-then-out-lt-LINE_MOST-clause-told : goal.returns-then-out-lt-LINE_MOST-clause-told
returns-then-out-lt-LINE_MOST-clause-told c = let a = c.args in
    line_refused a.out.now (row_text a.frame a.score a.kept a.total a.word) (omega arith)

pub returns-clause-told : goal.returns-clause-told
unfolding row_text
returns-clause-told c = let a = c.args in
    let last = word_text a.word in
    let from_total = field_text a.total ++ last in
    let from_kept = field_text a.kept ++ from_total in
    line_written a.out.now (row_text a.frame a.score a.kept a.total a.word) c.if-out-lt-LINE_MOST.false refl refl
    (appended_then (field_text a.frame) (score_text a.score ++ from_kept) c.field.ensures.text
    (appended_then (score_text a.score) from_kept c.score.ensures.text
    (appended_then (field_text a.kept) from_total c.field-2.ensures.text
    (appended_then (field_text a.total) last c.field-3.ensures.text c.word.ensures.text))))
    (search rules)
