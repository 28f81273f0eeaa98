-- Quotients and slots (promise 2.5): of a block that closes no quotient is above z, each fits its slot, and the ring takes every write; and a
-- window that is kept needs no more slots than there are.
-- Assumes nothing.
use Prim.Native.Nat.{ℕ, ◌+◌, ◌≤◌, ◌<◌, ◌^◌}
use mathlib.Core.List.{List}
use mathlib.Core.Path.{◌≡◌}
use lib.ListN.{length}
use Rattle.refusals.specs.Call.{refusal_of}
use Rattle.ring.specs.Calls.{write_call}
use Rattle.ring.proofs.Promises.{write_taken}
use Rattle.book.specs.declared.Book.{Book}
use Rattle.book.specs.Record.{block_of, slots_of, largest_of, width_of}
use Rattle.book.specs.Sound.{Usable}
use Rattle.book.specs.Adding.{quotient_of}
use Rattle.book.specs.Figure.{slots_for}
use Rattle.book.specs.Calls.{add_call}
use Rattle.book.proofs.Promises.{add_known, book_lent, quotient_le, quotient_in, for_high}
use Rattle.demands.specs.History.{Good}
use Rattle.demands.proofs.GoodUsable.{good_usable}

-- where an item that is taken closes its block
module _ (book : Book) (ring : List ℕ) (item : ℕ) (taken : refusal_of (add_call book ring item) ≡ 0) (closes : book.phase + 1 ≡ block_of book) where
  known : Usable book (length ring) × (item ≤ book.bound)
  known = let k = add_known book ring item taken in (k.0, k.1)

  -- the quotient is at most z
  pub quotient_at_most_z : quotient_of book item ≤ largest_of book
  quotient_at_most_z = quotient_le book known.0.sound item known.1 closes

  -- it fits the width
  pub quotient-below-2^b : quotient_of book item < 2 ^ width_of book
  quotient-below-2^b = quotient_in book known.0.sound item known.1 closes

  -- and the ring takes it
  pub write_never_refused : refusal_of (write_call (width_of book) (slots_of book) ring book.head (quotient_of book item)) ≡ 0
  write_never_refused =
      let u = known.0 in
      write_taken (width_of book) (slots_of book) ring
      (book_lent book.bound book.length book.tolerance (length ring) u.sound.ranges u.room)
      book.head u.sound.head_high (quotient_of book item) quotient-below-2^b

-- a window that is kept needs no more slots than there are
pub window_has_slots : (book : Book) (ring items : List ℕ) → Good book ring items → (window : ℕ) → book.phase < window → window ≤ book.kept
    → slots_for book window ≤ slots_of book
window_has_slots book ring items good = for_high book (good_usable book ring items good).sound
