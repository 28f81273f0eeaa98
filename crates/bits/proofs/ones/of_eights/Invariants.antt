-- Counting words: their ones, and those of the bytes that the iterator has left, are all.
use Rattle.std.proofs.Common.{◌≡◌, ◌+◌, ◌%◌, ◌^◌, length}
use Rattle.std.specs.Slice.Iter.{chunks_exact_rest, chunks_exact_size}
use Rattle.bits.specs.Row.{bits}
use Rattle.bits.specs.Ones.{ones_of}
use Rattle.bits.proofs.ones.of_eights.Given as goal

abbrev pub invariant-loop-eight : goal.invariant-loop-eight
invariant-loop-eight l =
    let left = chunks_exact_rest l.eight-iterator in
    record {
      words : chunks_exact_size l.eight-iterator ≡ 8;
      whole : length left % 8 ≡ 0;
      counted : (l.sum + ones_of (bits left)) % 2 ^ 64 ≡ ones_of (bits l.bytes) % 2 ^ 64;
    }
