-- `lit::table::in_byte`: the whole table is what its rule computes, and its law carries that to the entry that is read.
use Rattle.std.proofs.Common.{arith}
use Rattle.lit.specs.RankSelect.{one_places}
use Rattle.lit.proofs.TableOfPlaces.{by_table, none_outside}
use Rattle.lit.proofs.table.in_byte.Goals as goal

pub returns-then-k-eq0 : goal.returns-then-k-eq0
returns-then-k-eq0 c = none_outside c.args.byte c.args.k c.then-k-eq0.either

-- the whole table at once: `entries 2048 0`, which is what its rule comes to, is compared by computing with the constant that the code reads
pub returns : goal.returns
unfolding one_places
returns c = rw c.from.ensures (by_table c.args.byte c.args.k (omega arith) (omega arith) (omega arith))
