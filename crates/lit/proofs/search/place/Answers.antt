-- `lit::search::place`: the laws of where a search ends.
use Rattle.std.proofs.Common.{◌∙◌, arith}
use Rattle.lit.proofs.Searching.{none_found, found_within}
use Rattle.lit.proofs.search.place.Goals as goal

pub returns-in_err-byte : goal.returns-in_err-byte
returns-in_err-byte c =
    c.from_residual.ensures ∙ none_found c.requires.stopped c.args.count c.requires.enough c.in_err-byte.ensures.lookup.3

pub overflow_add-place : goal.overflow_add-place
overflow_add-place c = let there = c.in_ok-byte.ensures.lookup.3.0 in omega (arith, there, c.requires.few)

pub returns : goal.returns
returns c = let there = c.in_ok-byte.ensures.lookup.3 in
    c.then_some.ensures
    ∙ found_within c.requires.stopped c.args.count c.requires.enough there.0 _ _ (there.1 0) (c.from.ensures ∙ c.in_byte.ensures)
