-- `watch::start`: it opens the book of the setting.
-- Assumes nothing.
use Rattle.std.proofs.Common.{◌≡◌, Err, ap, ◌∙◌, rules}
use Rattle.watch.specs.Calls.{started_by}
use Rattle.watch.proofs.Starting.{start_gives, start_leaves}
use Rattle.watch.proofs.start.Goals as goal

pub returns-in_err-book : goal.returns-in_err-book
returns-in_err-book c = let ring = c.args.ring.now in
    let refusal = c.in_err-book.field-0.0 in
    let back : c.from_residual.result ≡ Err refusal = search rules in
    let opened = c.in_err-book.ensures in
    rw back (ap started_by opened.0 ∙ start_gives ring, opened.1 ∙ start_leaves ring)

pub returns : goal.returns
returns c = let ring = c.args.ring.now in
    (ap started_by c.in_ok-book.ensures.0 ∙ start_gives ring, c.in_ok-book.ensures.1 ∙ start_leaves ring)
