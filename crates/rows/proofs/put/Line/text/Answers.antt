-- `rows::put::Line::text`: the bytes stand in their places.
-- Assumes nothing.
use Rattle.std.proofs.Common.{refl, arith}
use Rattle.rows.proofs.Writing.{text_written}
use Rattle.rows.proofs.put.Line.text.Goals as goal

pub returns : goal.returns
returns c = text_written c.args.s.now c.copy_from_slice.new.self _ c.copy_from_slice.ensures.after (omega arith) c.requires refl refl refl
