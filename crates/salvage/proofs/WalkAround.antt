-- The walk of the code comes to what the definitions say.
-- Assumes nothing.
use Prim.Native.Nat.{ℕ, zero, suc, ◌+◌, ◌≤◌, ◌<◌}
use native.Mathlib.Nat.{add-zero}
use native.Mathlib.Numerals.{add-one}
use native.Mathlib.Omega.{arith}
use mathlib.Core.Bool.{Bool, true, false}
use mathlib.Core.List.{List, ◌∷◌, ◌++◌}
use mathlib.Core.Path.{◌≡◌, refl, sym, ap, ◌∙◌}
use lib.ListN.{length, drop, set}
use lib.Seq.{sets, sets-eq}
use Rattle.refusals.specs.First.{or_else}
use Rattle.ring.specs.Slot.{written}
use Rattle.ring.proofs.Promises.{other_stays, length_written}
use Rattle.book.specs.declared.Book.{Book}
use Rattle.book.specs.Record.{slots_of, largest_of, width_of, held_in}
use Rattle.book.specs.Sound.{Usable}
use Rattle.salvage.specs.Altered.{newest_slot, too_large, altered_of, altered, how_new_of, how_new}
use Rattle.salvage.specs.Salvaged.{capped, listed}
use Rattle.salvage.specs.Steps.{Walk, step, walked, set_out}
use Rattle.salvage.proofs.NewestSlots.{ring_whole, z_fits, newest_in, newest_apart}
use Rattle.salvage.proofs.AlteredSlots.{or_nothing, not_more, one_more, few}

-- a walk's ring, slot numbers, how many, and which newest the last one is, together
abbrev pub walk_of : List ℕ → List ℕ → ℕ → ℕ → Walk
walk_of ring numbers count last = record { ring = ring; numbers = numbers; count = count; nth = last }

-- ONE SLOT: its field is above z …
module _ (book : Book) (j : ℕ) (walk : Walk) where
  pub step_alters : too_large book walk.ring (newest_slot book j) ≡ true
      → step book j walk
      ≡ walk_of (written (width_of book) walk.ring (newest_slot book j) (largest_of book)) (set walk.numbers walk.count (newest_slot book j))
      (walk.count + 1) j
  unfolding step
  step_alters large = rw large refl

  -- … or it is not
  pub step_leaves : too_large book walk.ring (newest_slot book j) ≡ false → step book j walk ≡ walk
  unfolding step
  step_leaves small = rw small refl

-- ONE SLOT WRITTEN. z goes into the j-th newest slot
abbrev capped_at : Book → List ℕ → ℕ → List ℕ
capped_at book ring j = written (width_of book) ring (newest_slot book j) (largest_of book)

module _ (book : Book) (ring : List ℕ) (usable : Usable book (length ring)) (j : ℕ) where
  -- with that ring it is a book as well
  still_usable : Usable book (length (capped_at book ring j))
  still_usable =
      rw (length_written (width_of book) (slots_of book) ring (ring_whole book (length ring) usable) (newest_slot book j)
      (newest_in book (length ring) usable j) (largest_of book) (z_fits book (length ring) usable)) usable

  -- what the newer slots hold stays
  newer_stays : j ≤ slots_of book → (i : ℕ) → 1 ≤ i → i < j
      → held_in book (capped_at book ring j) (newest_slot book i) ≡ held_in book ring (newest_slot book i)
  newer_stays high i low less =
      other_stays (width_of book) (slots_of book) ring (ring_whole book (length ring) usable) (newest_slot book j)
      (newest_in book (length ring) usable j) (largest_of book) (z_fits book (length ring) usable) (newest_slot book i)
      (newest_apart (slots_of book) book.head i j usable.sound.head_high low less high)

-- the altered slots of the j newest are seen from what these hold
same_altered : (book : Book) (ring ring' : List ℕ) (j : ℕ)
    → ((i : ℕ) → 1 ≤ i → i < suc j → held_in book ring (newest_slot book i) ≡ held_in book ring' (newest_slot book i))
    → (altered_of book ring j ≡ altered_of book ring' j) × (how_new_of book ring j ≡ how_new_of book ring' j)
unfolding altered_of how_new_of
same_altered book ring ring' zero same = (refl, refl)
same_altered book ring ring' (suc j) same =
    let newer = same_altered book ring ring' j (λ i low less. same i low (omega arith)) in
    rw (same (suc j) (omega arith) (omega arith), newer.0, newer.1) (refl, refl)

-- a number that stands is not changed by a later one
or_again : (n j other : ℕ) → or_else n (suc j) ≡ or_else (or_else n (suc j)) other
or_again zero j other = refl
or_again (suc n) j other = refl

-- THE WALK. Where it has come to, from any place on, once these slots are altered, the newest of them being the `newer`-th
abbrev walked_by : Book → Walk → List ℕ → ℕ → Walk
walked_by book walk slots newer =
    record {
      ring = capped book walk.ring slots;
      numbers = sets walk.numbers walk.count slots;
      count = walk.count + length slots;
      nth = or_else newer walk.nth;
    }

-- and once it has gone over the j newest slots
abbrev walked_to : Book → ℕ → Walk → Walk
walked_to book j walk = walked_by book walk (altered_of book walk.ring j) (how_new_of book walk.ring j)

module _ (book : Book) (j : ℕ) (walk : Walk) where
  abbrev slot : ℕ
  slot = newest_slot book (suc j)

  -- one slot, which is altered
  abbrev past : Walk
  past =
      record {
        ring = capped_at book walk.ring (suc j);
        numbers = set walk.numbers walk.count slot;
        count = walk.count + 1;
        nth = suc j;
      }

  -- from there the others are altered as if it were one of them
  past_it : (slots : List ℕ) (newer : ℕ) → walked_by book past slots newer ≡ walked_by book walk (slot ∷ slots) (or_else newer (suc j))
  unfolding capped
  past_it slots newer =
      let counts : walk.count + 1 + length slots ≡ walk.count + suc (length slots) = omega arith in
      λ i. record {
        ring = capped book (capped_at book walk.ring (suc j)) slots;
        numbers = sets (set walk.numbers walk.count slot) (add-one walk.count i) slots;
        count = counts i;
        nth = or_again newer j walk.nth i;
      }

  module _ (usable : Usable book (length walk.ring)) (high : suc j ≤ slots_of book)
      (rest : (next : Walk) → Usable book (length next.ring) → walked book j next ≡ walked_to book j next) where
    -- the walk goes on from this slot, in both cases
    goes_on : (t : Bool) → too_large book walk.ring slot ≡ t → walked book j (step book (suc j) walk) ≡ walked_to book (suc j) walk
    goes_on false small =
        let same = not_more book walk.ring j small in
        ap (walked book j) (step_leaves book (suc j) walk small) ∙ rest walk usable ∙ λ i. walked_by book walk (sym same.0 i) (sym same.1 i)
    goes_on true large =
        let more = one_more book walk.ring j large in
        let same = same_altered book past.ring walk.ring j (newer_stays book walk.ring usable (suc j) high) in
        ap (walked book j) (step_alters book (suc j) walk large)
        ∙ rest past (still_usable book walk.ring usable (suc j))
        ∙ (λ i. walked_by book past (same.0 i) (same.1 i))
        ∙ past_it (altered_of book walk.ring j) (how_new_of book walk.ring j)
        ∙ λ i. walked_by book walk (sym more.0 i) (sym more.1 i)

-- over the j newest slots
walked_is : (book : Book) (j : ℕ) (walk : Walk) → Usable book (length walk.ring) → j ≤ slots_of book → walked book j walk ≡ walked_to book j walk
unfolding walked altered_of how_new_of capped
walked_is book zero walk usable high =
    λ i. record { ring = walk.ring; numbers = walk.numbers; count = sym (add-zero walk.count) i; nth = walk.nth }
walked_is book (suc j) walk usable high =
    goes_on book j walk usable high (λ next usable'. walked_is book j next usable' (omega arith))
    (too_large book walk.ring (newest_slot book (suc j))) refl

module _ (book : Book) (ring : List ℕ) (usable : Usable book (length ring)) where
  -- the walk over every slot
  pub walked_all : (numbers : List ℕ) → slots_of book ≤ length numbers
      → walked book (slots_of book) (set_out ring numbers)
      ≡ record {
        ring = capped book ring (altered book ring);
        numbers = listed (altered book ring) numbers;
        count = length (altered book ring);
        nth = how_new book ring;
      }
  walked_all numbers room =
      let slots : List ℕ = altered book ring in
      let from_0 : 0 + length slots ≡ length slots = omega arith in
      let fill : sets numbers 0 slots ≡ listed slots numbers =
      sets-eq slots numbers 0 (omega (arith, few book ring (slots_of book))) ∙ ap (λ (n : ℕ). slots ++ drop n numbers) from_0 in
      walked_is book (slots_of book) (set_out ring numbers) usable (omega arith)
      ∙ λ i. record { ring = capped book ring slots; numbers = fill i; count = from_0 i; nth = or_nothing (how_new book ring) i }
