-- `rows::put::Line::field`: a number has at most 20 digits.
-- Assumes nothing.
use Rattle.std.proofs.Common.{[], ◌∷◌, arith}
use Rattle.decimals.specs.Decimal.{decimal}
use Rattle.rows.specs.Row.{comma, field_text}
use Rattle.decimals.proofs.Digits.{decimal_20}
use Rattle.rows.proofs.Writing.{appended_then}
use Rattle.rows.proofs.put.Line.field.Goals as goal

pub number-requires : goal.number-requires
number-requires c = omega (arith, decimal_20 c.args.n c.ranges.n.fits)

pub byte-requires : goal.byte-requires
byte-requires c = omega (arith, c.number.ensures.moved, c.number.ensures.long, decimal_20 c.args.n c.ranges.n.fits)

pub returns-clause-text : goal.returns-clause-text
unfolding field_text
returns-clause-text c = appended_then (decimal c.args.n) (comma ∷ []) c.number.ensures c.byte.ensures

pub returns-clause-room : goal.returns-clause-room
returns-clause-room c = omega (arith, c.number.ensures.moved, c.byte.ensures.moved, decimal_20 c.args.n c.ranges.n.fits)
