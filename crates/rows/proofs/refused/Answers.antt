-- `rows::refused`: too short a buffer stays as it is, and any other takes the line at its start, its fields one behind the other.
-- Assumes nothing.
use Rattle.std.proofs.Common.{◌++◌, refl, arith, rules}
use Rattle.decimals.specs.Decimal.{decimal}
use Rattle.rows.specs.Ascii.{ascii}
use Rattle.rows.specs.Row.{line_end, field_text, refused_text}
use Rattle.decimals.proofs.Digits.{decimal_20}
use Rattle.rows.proofs.Writing.{appended_then, line_refused, line_written}
use Rattle.rows.proofs.refused.Goals as goal

pub returns-then-out-lt-LINE_MOST-clause-told : goal.returns-then-out-lt-LINE_MOST-clause-told
returns-then-out-lt-LINE_MOST-clause-told c = let a = c.args in
    line_refused a.out.now (refused_text a.frame a.refusal) (omega arith)

-- what the number takes stands behind the field and the word
pub number-requires : goal.number-requires
number-requires c =
    omega (
      arith,
      c.field.ensures.room,
      c.field.ensures.text.long,
      c.text.ensures.moved,
      c.text.ensures.long,
      decimal_20 c.from.result c.from.type_inv,
    )

-- and the commas behind the number
pub text-requires-2 : goal.text-requires-2
text-requires-2 c =
    omega (
      arith,
      c.field.ensures.room,
      c.field.ensures.text.long,
      c.text.ensures.moved,
      c.text.ensures.long,
      c.number.ensures.moved,
      c.number.ensures.long,
      decimal_20 c.from.result c.from.type_inv,
    )

pub returns-clause-room : goal.returns-clause-room
returns-clause-room c =
    omega (
      arith,
      c.field.ensures.room,
      c.text.ensures.moved,
      c.number.ensures.moved,
      c.text-2.ensures.moved,
      decimal_20 c.from.result c.from.type_inv,
    )

pub returns-clause-told : goal.returns-clause-told
unfolding refused_text
returns-clause-told c = let a = c.args in
    let word = ascii "refused " in
    let digits = decimal a.refusal in
    let empty = ascii ",,," ++ line_end in
    let number = rw c.from.ensures at c.number.ensures in
    line_written a.out.now (refused_text a.frame a.refusal) c.if-out-lt-LINE_MOST.false refl refl
    (appended_then (field_text a.frame) (word ++ (digits ++ empty)) c.field.ensures.text
    (appended_then word (digits ++ empty) c.text.ensures (appended_then digits empty number c.text-2.ensures)))
    (search rules)
