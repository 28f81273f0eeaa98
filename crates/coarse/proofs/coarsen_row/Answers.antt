-- `coarse::coarsen_row`: refused, it hands all back; taken, the tally is opened, takes the old quotients, and the record is made.
-- Assumes nothing.
use Rattle.std.proofs.Common.{sym, ◌∙◌}
use Rattle.std.proofs.lemmas.Result.{err_from_is_err_and}
use Rattle.refusals.proofs.Numbers.{number_not_0}
use Rattle.book.specs.Record.{no_book_at_all}
use Rattle.sums.proofs.Promises.{updated_ok, same_ok}
use Rattle.coarse.proofs.TheCallWithRow.{asked_first, handed_back, thin, blocks_fit, opens, takes, small, done}
use Rattle.coarse.proofs.coarsen_row.Goals as goal

pub returns-in_err-judged : goal.returns-in_err-judged
returns-in_err-judged c =
    let p = err_from_is_err_and c.from_residual.result c.from_residual.ensures.1 in
    let a = c.args in
    rw (p.1, p.2)
    (handed_back a.book a.ring.now a.times a.second.now a.row.now
    (c.in_err-judged.ensures ∙ sym (asked_first a.book a.ring.now a.times a.second.now a.row.now)) (number_not_0 _))

pub unwrap-fresh-requires : goal.unwrap-fresh-requires
unwrap-fresh-requires c =
    let a = c.args in
    let opened = opens a.book a.ring.now a.times a.second.now a.row.now c.in_ok-judged.ensures in
    let fresh = updated_ok no_book_at_all c.open.result (c.open.ensures.0 ∙ opened) in
    rw fresh

pub all-all-requires : goal.all-all-requires
all-all-requires c =
    let a = c.args in
    let passed = c.in_ok-judged.ensures in
    let opened = opens a.book a.ring.now a.times a.second.now a.row.now passed in
    let fresh = updated_ok no_book_at_all c.open.result (c.open.ensures.0 ∙ opened) in (
      passed.room,
      thin a.book a.ring.now a.times a.second.now a.row.now passed,
      blocks_fit a.book a.ring.now a.times a.second.now a.row.now passed,
      takes a.book a.ring.now a.times a.second.now a.row.now passed (same_ok (sym c.unwrap-fresh.ensures ∙ fresh)) c.open.ensures.1 c.open.ensures.2,
    )

pub with_tally-next-requires : goal.with_tally-next-requires
with_tally-next-requires c =
    let a = c.args in
    let passed = c.in_ok-judged.ensures in
    let opened = opens a.book a.ring.now a.times a.second.now a.row.now passed in
    let fresh = updated_ok no_book_at_all c.open.result (c.open.ensures.0 ∙ opened) in
    small a.book a.ring.now a.times a.second.now a.row.now passed (same_ok (sym c.unwrap-fresh.ensures ∙ fresh)) c.open.ensures.1 c.open.ensures.2
    c.all-all.ensures.0 c.all-all.ensures.1 c.all-all.ensures.2

pub returns : goal.returns
returns c =
    let a = c.args in
    let passed = c.in_ok-judged.ensures in
    let opened = opens a.book a.ring.now a.times a.second.now a.row.now passed in
    let fresh = updated_ok no_book_at_all c.open.result (c.open.ensures.0 ∙ opened) in
    done a.book a.ring.now a.times a.second.now a.row.now passed (same_ok (sym c.unwrap-fresh.ensures ∙ fresh)) c.open.ensures.1 c.open.ensures.2
    c.all-all.ensures.0 c.all-all.ensures.1 c.all-all.ensures.2 c.with_tally-next.ensures passed.bytes_are
