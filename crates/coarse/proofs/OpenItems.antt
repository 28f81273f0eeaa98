-- The items of an open block with a given sum: as large as they may be, as long as there is something left. The block stays open.
-- Assumes nothing.
use Prim.Native.Nat.{ℕ, zero, suc, ◌+◌, ◌-◌, ◌*◌, ◌≤◌, ◌<◌, min}
use native.Mathlib.Nat.{suc-mul, min-le_left}
use native.Mathlib.Omega.{arith}
use mathlib.Core.Bool.{false}
use mathlib.Core.List.{List, [], ◌∷◌}
use mathlib.Core.Path.{◌≡◌, refl, ap}
use lib.ListN.{length}
use Rattle.book.specs.declared.Book.{Book}
use Rattle.book.specs.Derived.{block_length}
use Rattle.book.specs.RunOfCounts.{any_above, added_all}
use Rattle.book.proofs.Promises.{above_empty, above_join}
use Rattle.coarse.proofs.ItemByItem.{Standing, Comes, comes_none, comes_on, takes_open}

-- so many items that come to an amount
abbrev pub up_to : ℕ → ℕ → ℕ → List ℕ
up_to bound amount zero = []
up_to bound amount (suc count) = min bound amount ∷ up_to bound (amount - bound) count

pub length_up_to : (bound amount count : ℕ) → length (up_to bound amount count) ≡ count
length_up_to bound amount zero = refl
length_up_to bound amount (suc count) = ap suc (length_up_to bound (amount - bound) count)

-- none is above L
pub above_up_to : (bound amount count : ℕ) → any_above bound (up_to bound amount count) ≡ false
above_up_to bound amount zero = above_empty bound
above_up_to bound amount (suc count) =
    above_join bound (min bound amount) (up_to bound (amount - bound) count) (min-le_left bound amount) (above_up_to bound (amount - bound) count)

-- they add that amount to the carry, where there is room for it in so many items, and close no block where so many do not fill it
pub open_items_come : (bound tolerance count amount carry phase : ℕ) (now : Book) → Standing bound tolerance carry phase now
    → phase + count < block_length bound tolerance → amount ≤ count * bound
    → Comes bound tolerance now (up_to bound amount count) [] (carry + amount) (phase + count)
open_items_come bound tolerance zero amount carry phase now stands inside room =
    let none : carry + amount ≡ carry = omega arith in
    let still : phase + 0 ≡ phase = omega arith in
    rw (none, still) (comes_none stands)
open_items_come bound tolerance (suc count) amount carry phase now stands inside room =
    let item = min bound amount in
    let left = amount - bound in
    let first = takes_open stands item (omega arith) in
    let sum : carry + amount ≡ carry + item + left = omega arith in
    let steps : phase + suc count ≡ phase + 1 + count = omega arith in
    rw (sum, steps)
    (comes_on (item ∷ []) (up_to bound left count) [] [] first
    (open_items_come bound tolerance count left (carry + item) (phase + 1) (added_all now (item ∷ [])) first.stands (omega arith)
    (omega (arith, suc-mul count bound))))
