-- The quotient rounded up is known by the two numbers of divisors between which the number lies.
use Rattle.std.proofs.Common.{sym, ◌∙◌}
use Rattle.std.proofs.lemmas.Grind.{div_ceil_times}
use Rattle.book.proofs.RoundedUp.{ceil_is}
use Rattle.book.proofs.shape.ceil_div.Goals as goal

pub returns : goal.returns
returns c =
    let near = div_ceil_times c.args.a c.args.b c.requires.0 in
    c.div_ceil.ensures ∙ sym (ceil_is c.args.a c.args.b _ c.requires.0 near.0 near.1)
