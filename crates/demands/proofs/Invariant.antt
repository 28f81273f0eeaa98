-- What every good book keeps to. This is a device of the proof: no reader needs to believe it.
-- `before i` is what had come in before the newest i items. A block's quotient is how often D was passed while the block came in,
-- and the carry is what has come in since D was last passed.
-- Assumes nothing.
use Prim.Native.Nat.{ℕ, zero, suc, ◌+◌, ◌-◌, ◌*◌, ◌/◌, ◌%◌, ◌≤◌, ◌<◌}
use native.Mathlib.Nat.{add-zero, add-suc, suc-mul, div-add-mod, mod-lt}
use native.Mathlib.Omega.{arith}
use mathlib.Core.List.{List}
use mathlib.Core.Logic.{◌⊎◌}
use mathlib.Core.Path.{◌≡◌}
use lib.ListN.{length}
use Rattle.ring.specs.Newest.{newest, sum_newest}
use Rattle.ring.proofs.Promises.{sum_none, sum_more}
use Rattle.book.specs.declared.Book.{Book}
use Rattle.book.specs.Record.{block_of, slots_of}
use Rattle.book.specs.Sound.{Sound}
use Rattle.demands.specs.History.{true_total}
use Rattle.demands.specs.Demand2.{Bounds}
use Rattle.demands.proofs.OldestBlock.{heart, bracket}

pub record Invariant (book : Book) (held : ℕ → ℕ) (items : List ℕ) : Type 0 where
  pub before : ℕ → ℕ
  pub sound : Sound book
  pub long : book.kept ≤ length items
  -- it falls with each item by the item, which is at most L
  pub falls : (i : ℕ) → before (suc i) ≤ before i
  pub slowly : (i : ℕ) → before i ≤ before (suc i) + book.bound
  -- over the items that are kept it falls by their true total
  pub totals : (i : ℕ) → i ≤ book.kept → true_total i items + before i ≡ before 0
  -- the carry, and each slot of a block that is kept
  pub carried : book.carry + book.tolerance * (before book.phase / book.tolerance) ≡ before 0
  pub blocks : (j : ℕ) → book.phase + j * block_of book < book.kept
      → held (newest (slots_of book) book.head (suc j)) + before (book.phase + suc j * block_of book) / book.tolerance
      ≡ before (book.phase + j * block_of book) / book.tolerance

module _ (book : Book) (held : ℕ → ℕ) (items : List ℕ) (inv : Invariant book held items) where
  -- it falls over any stretch, and by no more than L for each item
  pub falls_by : (i e : ℕ) → inv.before (i + e) ≤ inv.before i
  falls_by i zero = rw (add-zero i) (omega arith)
  falls_by i (suc e) = rw (add-suc i e) (omega (arith, falls_by i e, inv.falls (i + e)))

  slowly_by : (i e : ℕ) → inv.before i ≤ inv.before (i + e) + e * book.bound
  slowly_by i zero = rw (add-zero i) (omega arith)
  slowly_by i (suc e) =
      rw (add-suc i e) (omega (arith, slowly_by i e, inv.slowly (i + e), suc-mul e book.bound))

  -- the sum of the j newest slots is how often D was passed while their blocks came in
  pub newest_blocks : (j : ℕ) → book.phase + j * block_of book < book.kept + block_of book
      → sum_newest held (slots_of book) book.head j + inv.before (book.phase + j * block_of book) / book.tolerance
      ≡ inv.before book.phase / book.tolerance
  newest_blocks zero h =
      rw (sum_none held (slots_of book) book.head)
      (let e : book.phase + 0 * block_of book ≡ book.phase = omega arith in rw e (omega arith))
  newest_blocks (suc j) h =
      let inside : book.phase + j * block_of book < book.kept = omega (arith, suc-mul j (block_of book)) in
      omega (arith, sum_more held (slots_of book) book.head j, newest_blocks j (omega arith), inv.blocks j inside)

  -- A window of i items. Its oldest block, from the e items outside of the window to the f items inside, ends Q items back and
  -- began its quotient g at P items back; T is the carry with D times the slots.
  module _ (i e f P Q g rest T S : ℕ) (Q-is : Q ≡ i + e) (i_is : i ≡ P + f)
      (sum_is_lem : T + book.tolerance * (inv.before Q / book.tolerance) ≡ inv.before 0)
      (S-is : S + inv.before i ≡ inv.before 0)
      (g_is : book.tolerance * g + rest + book.tolerance * (inv.before Q / book.tolerance) ≡ inv.before P)
      (rest_lt : rest < book.tolerance) (one_block : e + f ≤ block_of book)
      (small : (block_of book * book.bound ≤ book.tolerance) ⊎ (e ≡ 0)) where
    pub window_bounds : Bounds (T - (book.tolerance - 1) - e * book.bound * g) S book.tolerance
    window_bounds =
        let D : ℕ = book.tolerance in
        let r : ℕ = inv.before Q % D in
        let y : ℕ = inv.before i - inv.before Q in
        let w : ℕ = inv.before P - inv.before i in
        let split : D * (inv.before Q / D) + r ≡ inv.before Q = div-add-mod (inv.before Q) D in
        let low : inv.before Q ≤ inv.before i = rw Q-is (falls_by i e) in
        let mid : inv.before i ≤ inv.before Q + e * book.bound = rw Q-is (slowly_by i e) in
        let top : inv.before i ≤ inv.before P = rw i_is (falls_by P f) in
        let far : inv.before P ≤ inv.before i + f * book.bound = rw i_is (slowly_by P f) in
        let r_lt : r < D = mod-lt (inv.before Q) (omega arith) in
        let h = heart book.bound D (block_of book) e f r y w g rest r_lt (omega arith) (omega arith) one_block (omega arith) rest_lt small in
        bracket T S D (e * book.bound * g) (r + y) (omega arith) (omega arith) h.0 h.1
