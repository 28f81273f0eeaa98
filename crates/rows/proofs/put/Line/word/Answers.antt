-- `rows::put::Line::word`: the longest word.
-- Assumes nothing.
use Rattle.rows.specs.Row.{word_text}
use Rattle.rows.proofs.put.Line.word.Goals as goal

pub returns-in-Undecided-clause-text : goal.returns-in-Undecided-clause-text
unfolding word_text
returns-in-Undecided-clause-text c = rw c.in-Undecided.is c.text-in-Undecided.ensures
