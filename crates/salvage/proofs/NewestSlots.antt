-- The newest slots of a ring: no two of them are the same, and each slot is one of them. Of a book with its ring, each is a slot that z fits.
-- Assumes nothing.
use Prim.Native.Nat.{ℕ, ◌+◌, ◌-◌, ◌^◌, ◌≤◌, ◌<◌}
use native.Mathlib.Omega.{arith}
use mathlib.Core.Logic.{◌⊎◌, inl, inr, ◌≢◌}
use mathlib.Core.Path.{◌≡◌, sym, ◌∙◌}
use Rattle.ring.specs.Newest.{newest}
use Rattle.ring.specs.Lent.{Lent}
use Rattle.ring.proofs.Promises.{newest_lt, newest_near, newest_far}
use Rattle.book.specs.declared.Book.{Book}
use Rattle.book.specs.Record.{slots_of, largest_of, width_of}
use Rattle.book.specs.Sound.{Usable}
use Rattle.book.proofs.Promises.{le_or_lt, book_lent, quotient_fits}
use Rattle.salvage.specs.Altered.{newest_slot}

-- no two of them are the same …
pub newest_apart : (slots head i j : ℕ) → head < slots → 1 ≤ i → i < j → j ≤ slots → newest slots head i ≢ newest slots head j
newest_apart slots head i j h low less high e = by (le_or_lt i head) (le_or_lt j head)
  where
    by : (i ≤ head) ⊎ (head < i) → (j ≤ head) ⊎ (head < j) → ⊥
    by (inl near) (inl near') = omega (arith, sym (newest_near slots head i near) ∙ e ∙ newest_near slots head j near')
    by (inl near) (inr far') = omega (arith, sym (newest_near slots head i near) ∙ e ∙ newest_far slots head j far' high)
    by (inr far) (inl near') = omega arith
    by (inr far) (inr far') = omega (arith, sym (newest_far slots head i far (omega arith)) ∙ e ∙ newest_far slots head j far' high)

-- … and each slot of the ring is one of them: so many steps back from head it stands
pub record StepsBack (slots head slot : ℕ) : Type 0 where
  pub steps : ℕ
  pub low : 1 ≤ steps
  pub high : steps ≤ slots
  pub there : newest slots head steps ≡ slot

pub steps_back : (slots head slot : ℕ) → head < slots → slot < slots → StepsBack slots head slot
steps_back slots head slot h below = by (le_or_lt head slot)
  where
    by : (head ≤ slot) ⊎ (slot < head) → StepsBack slots head slot
    by (inl after) =
        record {
          steps = head + slots - slot;
          low = omega arith;
          high = omega arith;
          there = newest_far slots head (head + slots - slot) (omega arith) (omega arith) ∙ omega arith;
        }
    by (inr before) =
        record {
          steps = head - slot;
          low = omega arith;
          high = omega arith;
          there = newest_near slots head (head - slot) (omega arith) ∙ omega arith;
        }

-- OF A BOOK with its ring: the ring is lent whole, a slot holds z, and the j-th newest slot is one of the ring's
module _ (book : Book) (lent : ℕ) (usable : Usable book lent) where
  pub ring_whole : Lent (width_of book) (slots_of book) lent
  ring_whole = book_lent book.bound book.length book.tolerance lent usable.sound.ranges usable.room

  pub z_fits : largest_of book < 2 ^ width_of book
  z_fits = quotient_fits book.bound book.length book.tolerance usable.sound.ranges (largest_of book) (omega arith)

  pub newest_in : (j : ℕ) → newest_slot book j < slots_of book
  newest_in j = newest_lt (slots_of book) book.head j usable.sound.head_high
