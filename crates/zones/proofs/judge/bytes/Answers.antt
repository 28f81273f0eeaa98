-- `zones::judge::bytes`: of a record that is a book the numbers are derived, and its stretch has few bytes.
-- Assumes nothing.
use Rattle.std.proofs.Common.{◌≡◌, [], ap, ◌∙◌, refl, arith}
use Rattle.refusals.proofs.Calls.{none_refuses}
use Rattle.refusals.proofs.Numbers.{number_not_0}
use Rattle.book.specs.declared.shape.Shape.{Shape}
use Rattle.book.specs.Record.{bytes_of}
use Rattle.book.specs.Shape.{number_faults}
use Rattle.book.proofs.Promises.{shape_refusal, shape_known, ranges_pass}
use Rattle.zones.proofs.BytesOfABook.{few_bytes}
use Rattle.zones.proofs.judge.bytes.Goals as goal

pub returns-in-Ok : goal.returns-in-Ok
returns-in-Ok c =
    let book = c.args.book in
    let own : c.in-Ok.shape.bytes ≡ bytes_of book =
    ap (λ (shape : Shape). shape.bytes) (shape_known book.bound book.length book.tolerance c.in-Ok.ensures refl).1 in
    (own, omega (arith, own, few_bytes book c.requires))

pub returns-in-Err : goal.returns-in-Err
returns-in-Err c =
    let book = c.args.book in
    absurd (number_not_0 c.in-Err.field-0 (shape_refusal book.bound book.length book.tolerance c.in-Err.ensures
    ∙ none_refuses (number_faults book.bound book.length book.tolerance)
    (ranges_pass book.bound book.length book.tolerance [] c.requires.ranges tt)))
