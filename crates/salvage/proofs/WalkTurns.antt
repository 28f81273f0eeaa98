-- The turns of the walk of the code: what holds after each slot, and what comes of all of them.
-- Assumes nothing.
use Prim.Native.Nat.{ℕ, zero, suc, ◌+◌, ◌-◌, ◌≤◌, ◌<◌, ◌^◌}
use native.Mathlib.Omega.{arith}
use mathlib.Core.Bool.{Bool, true, false, cond}
use mathlib.Core.List.{List, []}
use mathlib.Core.Path.{◌≡◌, refl, sym, ap, ◌∙◌}
use lib.ListN.{length, set}
use Rattle.ring.specs.Slot.{written}
use Rattle.book.specs.declared.Book.{Book}
use Rattle.book.specs.Record.{slots_of, largest_of, width_of}
use Rattle.book.specs.Sound.{Usable}
use Rattle.salvage.specs.Altered.{newest_slot, too_large, altered, how_new}
use Rattle.salvage.specs.Salvaged.{capped, listed}
use Rattle.salvage.specs.Steps.{Walk, step, walked, set_out}
use Rattle.salvage.proofs.AlteredSlots.{none_is_none, nothing_above}
use Rattle.salvage.proofs.WalkAround.{walk_of, step_alters, step_leaves, walked_all}

-- the walk goes on with the oldest of the j newest slots
walked_more : (book : Book) (j : ℕ) (walk : Walk) → 0 < j → walked book j walk ≡ walked book (j - 1) (step book j walk)
unfolding walked
walked_more book zero walk some = absurd (omega (arith, some))
walked_more book (suc j) walk some =
    let one_less : j ≡ suc j - 1 = omega arith in
    ap (λ (k : ℕ). walked book k (step book (suc j) walk)) one_less

-- what comes of the whole walk
abbrev pub all_walked : Book → List ℕ → List ℕ → Walk
all_walked book ring numbers =
    walk_of (capped book ring (altered book ring)) (listed (altered book ring) numbers) (length (altered book ring)) (how_new book ring)

-- SLOT BY SLOT, with the j newest still to be looked at: they bring the walk to its end
pub record Going (book : Book) (ring₀ numbers₀ : List ℕ) (walk : Walk) (j : ℕ) : Type 0 where
  pub within : j ≤ slots_of book
  pub few : walk.count + j ≤ slots_of book
  pub left : walked book j walk ≡ all_walked book ring₀ numbers₀

module _ (book : Book) (ring numbers : List ℕ) (usable : Usable book (length ring)) where
  -- at the start every slot is to be looked at …
  pub going_start : slots_of book ≤ length numbers → Going book ring numbers (set_out ring numbers) (slots_of book)
  going_start room =
      record {
        within = omega arith;
        few = omega arith;
        left = walked_all book ring usable numbers room;
      }

  -- … or none, where no slot can hold a number above z
  nothing_walked : (slots : List ℕ) → slots ≡ [] → (nth : ℕ) → nth ≡ 0
      → set_out ring numbers ≡ walk_of (capped book ring slots) (listed slots numbers) (length slots) nth
  unfolding capped
  nothing_walked slots none nth zeroth = rw (none, zeroth) refl

  pub going_nowhere : largest_of book + 1 ≡ 2 ^ width_of book → Going book ring numbers (set_out ring numbers) 0
  unfolding walked
  going_nowhere full =
      let none = none_is_none book ring usable (nothing_above book ring full) in
      record {
        within = omega arith;
        few = omega arith;
        left = nothing_walked (altered book ring) none.0 (how_new book ring) none.1;
      }

module _ {book : Book} {ring₀ numbers₀ ring numbers : List ℕ} {count nth₁ j : ℕ}
    (g : Going book ring₀ numbers₀ (walk_of ring numbers count nth₁) j) where
  abbrev here : Walk
  here = walk_of ring numbers count nth₁

  -- the next slot, once its step is known
  going_by : 0 < j → (next : Walk) → step book j here ≡ next → next.count ≤ count + 1 → Going book ring₀ numbers₀ next (j - 1)
  going_by some next is few =
      record {
        within = omega (arith, g.within);
        few = omega (arith, g.few, few, some);
        left = ap (walked book (j - 1)) (sym is) ∙ sym (walked_more book j here some) ∙ g.left;
      }

  -- the next slot as the code has it: its number, its field's test, and the ring after it
  module _ (some : 0 < j) {slot : ℕ} (slot_is : slot ≡ newest_slot book j) where
    above_is : too_large book ring (newest_slot book j) ≡ too_large book ring slot
    above_is = ap (too_large book ring) (sym slot_is)

    module _ {ring' : List ℕ} (ring_is : ring' ≡ cond (too_large book ring slot) (written (width_of book) ring slot (largest_of book)) ring)
        {numbers' : List ℕ} {count' nth' : ℕ} where
      -- it is altered
      pub going_alters : true ≡ too_large book ring slot → numbers' ≡ set numbers count slot → count' ≡ count + 1 → nth' ≡ j
          → Going book ring₀ numbers₀ (walk_of ring' numbers' count' nth') (j - 1)
      going_alters large numbers-is count_is nth-is =
          let written_is : ring' ≡ written (width_of book) ring (newest_slot book j) (largest_of book) =
          ring_is ∙ ap (λ (t : Bool). cond t (written (width_of book) ring slot (largest_of book)) ring) (sym large)
          ∙ ap (λ (k : ℕ). written (width_of book) ring k (largest_of book)) slot_is in
          let listed_is : numbers' ≡ set numbers count (newest_slot book j) = numbers-is ∙ ap (set numbers count) slot_is in
          going_by some (walk_of ring' numbers' count' nth')
          (step_alters book j here (above_is ∙ sym large) ∙ sym (λ i. walk_of (written_is i) (listed_is i) (count_is i) (nth-is i)))
          (omega (arith, count_is))

      -- it is left
      pub going_leaves : false ≡ too_large book ring slot → numbers' ≡ numbers → count' ≡ count → nth' ≡ nth₁
          → Going book ring₀ numbers₀ (walk_of ring' numbers' count' nth') (j - 1)
      going_leaves small numbers-is count_is nth-is =
          let ring_stays : ring' ≡ ring =
          ring_is ∙ ap (λ (t : Bool). cond t (written (width_of book) ring slot (largest_of book)) ring) (sym small) in
          going_by some (walk_of ring' numbers' count' nth')
          (step_leaves book j here (above_is ∙ sym small) ∙ sym (λ i. walk_of (ring_stays i) (numbers-is i) (count_is i) (nth-is i)))
          (omega (arith, count_is))

  -- no slot is left
  pub going_end : j ≡ 0
      → (count ≡ length (altered book ring₀)) × (nth₁ ≡ how_new book ring₀)
      × (ring ≡ capped book ring₀ (altered book ring₀)) × (numbers ≡ listed (altered book ring₀) numbers₀)
  unfolding walked
  going_end none =
      let same : here ≡ all_walked book ring₀ numbers₀ = sym (ap (λ (k : ℕ). walked book k here) none) ∙ g.left in
      (ap (λ (w : Walk). w.count) same, ap (λ (w : Walk). w.nth) same, ap (λ (w : Walk). w.ring) same, ap (λ (w : Walk). w.numbers) same)
