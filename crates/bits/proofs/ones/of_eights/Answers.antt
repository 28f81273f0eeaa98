-- `bits::ones::of_eights`: a word more, and at the end no byte is left.
use Rattle.std.proofs.Common.{◌≡◌, ◌+◌, ◌%◌, ◌^◌, ◌++◌, ap, ◌∙◌, arith, List, ℕ, length-append}
use Rattle.std.specs.Slice.Iter.{chunks_exact_rest}
use Rattle.bits.specs.Row.{bits}
use Rattle.bits.specs.Ones.{ones_of}
use Rattle.bits.proofs.CountingOnes.{bytes_le, bytes_append}
use Rattle.bits.proofs.ones.of_eights.Goals as goal

-- what is counted, with the ones of a word, and what is then left, are still all
word_more : (before word after : List ℕ) (sum ones : ℕ) {all : ℕ} → (sum + ones_of (bits before)) % 2 ^ 64 ≡ all → before ≡ word ++ after
    → ones ≡ ones_of (bits word) → ((sum + ones) % 2 ^ 64 + ones_of (bits after)) % 2 ^ 64 ≡ all
word_more before word after sum ones counted parts own =
    omega (arith, counted, ap (λ (l : List ℕ). ones_of (bits l)) parts, bytes_append word after, own)

pub loop-eight-preserved : goal.loop-eight-preserved
loop-eight-preserved c = let h = c.in-Some.ensures.steps in
    let l = c.loop-eight.invariant in
    let whole = rw (h.1.0, length-append) at l.whole in
    record {
      words = h.0 ∙ l.words;
      whole = omega (arith, whole, h.1.1, l.words);
      counted = word_more _ _ _ _ _ l.counted h.1.0 c.of_eight-sum.ensures;
    }

pub returns : goal.returns
returns c = let l = c.loop-eight.invariant in
    omega (arith, l.words, l.whole, l.counted, c.in-None.ensures.steps.1.0, bytes_le (chunks_exact_rest c.loop-eight.eight-iterator))
