-- `rows::put::Line::number`: the number itself falls from call to call.
use Rattle.rows.proofs.put.Line.+number.Given as goal

abbrev pub decreases-number : goal.decreases-number
decreases-number l = l.n
