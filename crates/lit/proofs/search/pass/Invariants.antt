-- The search past groups: the spot is one that is passed, and the iterator has the bytes behind it.
use Rattle.std.proofs.Common.{◌≡◌, drop}
use Rattle.std.specs.Slice.Iter.{chunks_exact_rest, chunks_exact_size}
use Rattle.lit.specs.Search.{Passed}
use Rattle.lit.proofs.search.pass.Given as goal

abbrev pub invariant-loop-group : goal.invariant-loop-group
invariant-loop-group l = record {
  groups : chunks_exact_size l.group-iterator ≡ l.size;
  left : drop l.spot.at l.bytes ≡ chunks_exact_rest l.group-iterator;
  passed : Passed l.bytes l.k l.spot.at l.spot.before;
}
