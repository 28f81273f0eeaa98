-- `ring::word::load_four` meets its contract: a word grows byte by byte.
-- Assumes nothing.
use native.Mathlib.Nat.{add-zero}
use Rattle.std.proofs.Common.{◌≡◌, ◌+◌, ◌*◌, ◌<◌, ◌∙◌, ap, sym, arith, List, ℕ, take, drop, get_or}
use Rattle.std.proofs.lemmas.List.{get_or-take, get_or-drop}
use Rattle.bits.proofs.Promises.{word_four}
use Rattle.ring.proofs.word.load_four.Goals as goal

-- a byte of a part of the ring
byte_at : (ring : List ℕ) (first n i : ℕ) → i < n → get_or (take n (drop first ring)) i 0 ≡ get_or ring (first + i) 0
byte_at ring first n i there = get_or-take n (drop first ring) i 0 there ∙ get_or-drop first ring i 0

-- the word of a part's bytes
in_ring : (ring four : List ℕ) (first n : ℕ) → 3 < n → four ≡ take n (drop first ring)
    → ((get_or four 0 0 * 256 + get_or four 1 0) * 256 + get_or four 2 0) * 256 + get_or four 3 0
    ≡ ((get_or ring first 0 * 256 + get_or ring (first + 1) 0) * 256 + get_or ring (first + 2) 0) * 256 + get_or ring (first + 3) 0
in_ring ring four first n enough same =
    let at_first : get_or (take n (drop first ring)) 0 0 ≡ get_or ring first 0 = byte_at ring first n 0 (omega arith) ∙ ap (λ (i : ℕ). get_or ring i 0) (add-zero first) in
    rw same
    (omega (arith, at_first, byte_at ring first n 1 (omega arith), byte_at ring first n 2 (omega arith), byte_at ring first n 3 (omega arith)))

pub returns : goal.returns
returns c =
    let a = c.args in
    let same = (rw c.unwrap-four.ensures at c.try_into.ensures.1).same in
    let worth = in_ring a.ring.now _ a.first _ (omega arith) same in
    rw (word_four a.ring.now (λ i. (c.type_inv.ring i).fits) a.first (omega arith), c.from.ensures, c.from_be_bytes.ensures, sym worth) (omega arith)
