-- Blocks of a history with given quotients of at most 1, where D fills a block: all items of a block are L·q. Such a block closes with q, whatever
-- remainder stood in the carry, and leaves it there.
-- Assumes nothing.
use Prim.Native.Nat.{ℕ, zero, suc, ◌+◌, ◌*◌, ◌≤◌, ◌<◌}
use native.Mathlib.Nat.{suc-mul, mul_assoc, mul_comm, mul-le-mul_left}
use native.Mathlib.Omega.{arith}
use mathlib.Core.Bool.{false}
use mathlib.Core.List.{List, [], ◌∷◌, ◌++◌}
use mathlib.Core.Path.{◌≡◌, refl, sym, ap, ◌∙◌}
use lib.ListN.{length, replicate, length-append, length-replicate}
use Rattle.book.specs.declared.Book.{Book}
use Rattle.book.specs.Derived.{block_length}
use Rattle.book.specs.RunOfCounts.{any_above, added_all}
use Rattle.book.proofs.Promises.{block_low, above_empty, above_cons, above_append, above_replicate}
use Rattle.coarse.proofs.ItemByItem.{Standing, Comes, comes_none, comes_on, takes_open, takes_closed}

-- the items of blocks with these quotients
abbrev pub blocks_of : ℕ → ℕ → List ℕ → List ℕ
blocks_of block bound [] = []
blocks_of block bound (q ∷ later) = replicate block (bound * q) ++ blocks_of block bound later

-- they are as many as the blocks hold
pub length_blocks : (block bound : ℕ) (quotients : List ℕ) → length (blocks_of block bound quotients) ≡ length quotients * block
length_blocks block bound [] = omega arith
length_blocks block bound (q ∷ later) =
    length-append (replicate block (bound * q)) (blocks_of block bound later)
    ∙ omega (arith, length-replicate block (bound * q), length_blocks block bound later, suc-mul (length later) block)

-- NONE IS ABOVE L where no quotient is above 1
pub above_blocks : (block bound : ℕ) (quotients : List ℕ) → any_above 1 quotients ≡ false → any_above bound (blocks_of block bound quotients) ≡ false
above_blocks block bound [] h = above_empty bound
above_blocks block bound (q ∷ later) h =
    let parts = above_cons 1 q later h in
    let small : bound * q ≤ bound = omega (arith, mul-le-mul_left bound parts.0) in
    above_append bound (replicate block (bound * q)) (blocks_of block bound later)
    (above_replicate bound block (bound * q) small)
    (above_blocks block bound later parts.1)

module _ (bound tolerance : ℕ) where
  -- THE REST OF A BLOCK with one item repeated: it closes with the quotient of all that is then in the carry
  rest_of_block : (item q r : ℕ) → r < tolerance → (k carry phase : ℕ) (now : Book) → Standing bound tolerance carry phase now
      → phase + suc k ≡ block_length bound tolerance → carry + suc k * item ≡ q * tolerance + r
      → Comes bound tolerance now (replicate (suc k) item) (q ∷ []) r 0
  rest_of_block item q r small zero carry phase now stands full parts = takes_closed stands item q r (omega arith) (omega arith) small
  rest_of_block item q r small (suc k) carry phase now stands full parts =
      let first = takes_open stands item (omega arith) in
      comes_on (item ∷ []) (replicate (suc k) item) [] (q ∷ []) first
      (rest_of_block item q r small k (carry + item) (phase + 1) (added_all now (item ∷ [])) first.stands (omega arith)
      (omega (arith, suc-mul (suc k) item)))

  module _ (whole : block_length bound tolerance * bound ≡ tolerance) (r : ℕ) (small : r < tolerance) where
    -- A BLOCK with quotient q
    whole_block_comes : (q : ℕ) (now : Book) → Standing bound tolerance r 0 now
        → Comes bound tolerance now (replicate (block_length bound tolerance) (bound * q)) (q ∷ []) r 0
    whole_block_comes q now stands = by (block_length bound tolerance) refl
      where
        by : (c : ℕ) → block_length bound tolerance ≡ c → Comes bound tolerance now (replicate c (bound * q)) (q ∷ []) r 0
        by zero e = absurd (omega (arith, e, block_low bound tolerance))
        by (suc k) e =
            let all : suc k * (bound * q) ≡ q * tolerance =
            sym (mul_assoc (suc k) bound q) ∙ ap (λ (t : ℕ). t * q) (ap (λ (c : ℕ). c * bound) (sym e) ∙ whole) ∙ mul_comm tolerance q in
            rest_of_block (bound * q) q r small k r 0 now stands (omega (arith, e)) (omega arith)

    -- BLOCKS with these quotients, one after the other
    pub blocks_come : (quotients : List ℕ) (now : Book) → Standing bound tolerance r 0 now
        → Comes bound tolerance now (blocks_of (block_length bound tolerance) bound quotients) quotients r 0
    blocks_come [] now stands = comes_none stands
    blocks_come (q ∷ later) now stands =
        let items = replicate (block_length bound tolerance) (bound * q) in
        let first = whole_block_comes q now stands in
        comes_on items (blocks_of (block_length bound tolerance) bound later) (q ∷ []) later first
        (blocks_come later (added_all now items) first.stands)
