-- Opening begins with the invariant, and adding keeps it; and another mark changes nothing in it.
-- Assumes nothing.
use Prim.Native.Nat.{ℕ, zero, suc, ◌+◌, ◌-◌, ◌*◌, ◌/◌, ◌≤◌, ◌<◌, ◌^◌, min}
use native.Mathlib.Nat.{suc-mul, div-add-mod, add-mul-div_left, zero-div, mul-le-mul_right}
use native.Mathlib.Numerals.{add-one}
use native.Mathlib.Omega.{arith}
use mathlib.Core.List.{List, [], ◌∷◌}
use mathlib.Core.Logic.{◌⊎◌, inl, inr, ◌≢◌}
use mathlib.Core.Path.{◌≡◌, refl, sym, ap, ◌∙◌}
use lib.ListN.{length}
use Rattle.ring.specs.Slot.{field, written}
use Rattle.ring.specs.Newest.{slot_before, newest}
use Rattle.ring.proofs.Promises.{read_back, other_stays, newest_none, newest_more, newest_near, newest_far}
use Rattle.book.specs.declared.Book.{Book}
use Rattle.book.specs.Resting.{marked}
use Rattle.book.specs.Record.{block_of, slots_of, width_of, held_in, opened}
use Rattle.book.specs.Sound.{Ranges, Usable}
use Rattle.book.specs.Adding.{carry_with, quotient_of, slot_after, added_open, added_closed, added, added_ring}
use Rattle.book.proofs.Promises.{le_or_lt, slots_cover, book_lent, adding_cases, quotient_in, before_after, opened_sound, open_sound, closed_sound, closed_carry, marked_sound}
use Rattle.demands.specs.History.{sum_of, true_total}
use Rattle.demands.proofs.Invariant.{Invariant}

-- a fresh book
unfoldable pub opened_keeps : (bound n tolerance : ℕ) (held : ℕ → ℕ) → Ranges bound n tolerance → Invariant (opened bound n tolerance) held []
unfolding true_total sum_of
opened_keeps bound n tolerance held r =
    record {
      before = λ i. 0;
      sound = opened_sound bound n tolerance r;
      long = omega arith;
      falls = λ i. omega arith;
      slowly = λ i. omega arith;
      totals = nothing;
      carried = rw (zero-div tolerance) (omega arith);
      blocks = λ j h. absurd (omega arith);
    }
  where
    nothing : (i : ℕ) → i ≤ 0 → true_total i [] + 0 ≡ 0
    nothing zero h = refl
    nothing (suc i) h = absurd (omega arith)

-- what had come in before the newest i items, after one more item
abbrev pub shifted : (ℕ → ℕ) → ℕ → ℕ → ℕ
shifted before item zero = before 0 + item
shifted before item (suc i) = before i

-- the newest slots, once head has moved on
newest_after : (slots head j : ℕ) → head < slots → newest slots (slot_after slots head) (suc j) ≡ newest slots head j
newest_after slots head zero h =
    newest_more slots (slot_after slots head) 0
    ∙ ap (slot_before slots) (newest_none slots (slot_after slots head))
    ∙ before_after slots head h
    ∙ sym (newest_none slots head)
newest_after slots head (suc j) h =
    newest_more slots (slot_after slots head) (suc j)
    ∙ ap (slot_before slots) (newest_after slots head j h)
    ∙ sym (newest_more slots head j)

-- no slot but the next one is the next one
newest_other : (slots head j : ℕ) → head < slots → 0 < j → j < slots → newest slots head j ≢ head
newest_other slots head j h low high e = by (le_or_lt j head)
  where
    by : (j ≤ head) ⊎ (head < j) → ⊥
    by (inl near) = omega (arith, sym e ∙ newest_near slots head j near)
    by (inr far) = omega (arith, sym e ∙ newest_far slots head j far (omega arith))

module _ (book : Book) (held : ℕ → ℕ) (items : List ℕ) (inv : Invariant book held items) (item : ℕ) (small : item ≤ book.bound) where
  pub more_falls : (i : ℕ) → shifted inv.before item (suc i) ≤ shifted inv.before item i
  more_falls zero = omega arith
  more_falls (suc i) = inv.falls i

  pub more_slowly : (i : ℕ) → shifted inv.before item i ≤ shifted inv.before item (suc i) + book.bound
  more_slowly zero = omega arith
  more_slowly (suc i) = inv.slowly i

  pub more_totals : (i : ℕ) → i ≤ min book.length (book.kept + 1) → true_total i (item ∷ items) + shifted inv.before item i ≡ inv.before 0 + item
  unfolding true_total sum_of
  more_totals zero h = omega arith
  more_totals (suc i) h = omega (arith, inv.totals i (omega arith))

  -- the block stays open
  unfoldable pub open_keeps : (book.phase + 1 ≡ block_of book → ⊥) → Invariant (added_open book item) held (item ∷ items)
  open_keeps more =
      record {
        before = shifted inv.before item;
        sound = open_sound book inv.sound item small more;
        long = omega (arith, inv.long);
        falls = more_falls;
        slowly = more_slowly;
        totals = more_totals;
        carried = rw (add-one book.phase) (omega (arith, inv.carried));
        blocks = λ j h.
            let c = block_of book in
            let e : book.phase + 1 + j * c ≡ suc (book.phase + j * c) = omega arith in
            let e' : book.phase + 1 + suc j * c ≡ suc (book.phase + suc j * c) = omega arith in
            rw (e, e') (inv.blocks j (omega arith));
      }

  -- the block closes, and its quotient goes into slot head
  module _ (closes : book.phase + 1 ≡ block_of book) (held' : ℕ → ℕ) (stored : held' book.head ≡ quotient_of book item)
      (others : (slot : ℕ) → slot ≢ book.head → held' slot ≡ held slot) where
    -- the quotient is how often D was passed
    quotient_is : quotient_of book item + inv.before book.phase / book.tolerance ≡ (inv.before 0 + item) / book.tolerance
    quotient_is =
        let m : ℕ = inv.before book.phase / book.tolerance in
        let all : inv.before 0 + item ≡ carry_with book item + book.tolerance * m = omega (arith, inv.carried) in
        sym (ap (λ (n : ℕ). n / book.tolerance) all ∙ add-mul-div_left (carry_with book item) m inv.sound.ranges.tolerance_low)

    pub closed_carried : carry_with book item - quotient_of book item * book.tolerance
        + book.tolerance * ((inv.before 0 + item) / book.tolerance) ≡ inv.before 0 + item
    closed_carried =
        omega (
          arith,
          inv.carried,
          closed_carry book inv.sound item small,
          div-add-mod (carry_with book item) book.tolerance,
          ap (λ (n : ℕ). book.tolerance * n) quotient_is,
        )

    -- fewer blocks than slots lie within n
    within : (j : ℕ) → j * block_of book < book.length → j < slots_of book
    within j h = by (le_or_lt (slots_of book) j)
      where
        by : (slots_of book ≤ j) ⊎ (j < slots_of book) → j < slots_of book
        by (inl past) =
            absurd (omega (
              arith,
              mul-le-mul_right (block_of book) past,
              slots_cover book.bound book.length book.tolerance inv.sound.ranges,
            ))
        by (inr inside) = inside

    pub closed_blocks : (j : ℕ) → 0 + j * block_of book < min book.length (book.kept + 1)
        → held' (newest (slots_of book) (slot_after (slots_of book) book.head) (suc j))
        + shifted inv.before item (0 + suc j * block_of book) / book.tolerance
        ≡ shifted inv.before item (0 + j * block_of book) / book.tolerance
    closed_blocks zero h =
        let first : 0 + 1 * block_of book ≡ suc book.phase = omega arith in
        let none : 0 + 0 * block_of book ≡ 0 = omega arith in
        rw (newest_after (slots_of book) book.head 0 inv.sound.head_high, newest_none (slots_of book) book.head, stored, first, none)
        quotient_is
    closed_blocks (suc j) h =
        let slot : ℕ = newest (slots_of book) book.head (suc j) in
        let here : 0 + suc j * block_of book ≡ suc (book.phase + j * block_of book) = omega (arith, suc-mul j (block_of book)) in
        let next : 0 + suc (suc j) * block_of book ≡ suc (book.phase + suc j * block_of book) =
        omega (arith, suc-mul (suc j) (block_of book)) in
        let other : slot ≢ book.head =
        newest_other (slots_of book) book.head (suc j) inv.sound.head_high (omega arith) (within (suc j) (omega arith)) in
        rw (newest_after (slots_of book) book.head (suc j) inv.sound.head_high, others slot other, here, next)
        (inv.blocks j (omega arith))

    unfoldable pub closed_keeps : Invariant (added_closed book item) held' (item ∷ items)
    closed_keeps =
        record {
          before = shifted inv.before item;
          sound = closed_sound book inv.sound item small;
          long = omega (arith, inv.long);
          falls = more_falls;
          slowly = more_slowly;
          totals = more_totals;
          carried = closed_carried;
          blocks = closed_blocks;
        }

-- another mark
pub marked_keeps : (book : Book) (held : ℕ → ℕ) (items : List ℕ) (mark : ℕ) → Invariant book held items → Invariant (marked book mark) held items
marked_keeps book held items mark inv =
    record {
      before = inv.before;
      sound = marked_sound book mark inv.sound;
      long = inv.long;
      falls = inv.falls;
      slowly = inv.slowly;
      totals = inv.totals;
      carried = inv.carried;
      blocks = inv.blocks;
    }

-- an item that is taken keeps the invariant, and `before` moves on by it
pub record Moved (book : Book) (held : ℕ → ℕ) (items : List ℕ) (before : ℕ → ℕ) : Type 0 where
  pub inv : Invariant book held items
  pub before_is : (i : ℕ) → inv.before i ≡ before i

pub added_keeps : (book : Book) (ring items : List ℕ) (inv : Invariant book (held_in book ring) items) (item : ℕ) → Usable book (length ring)
    → item ≤ book.bound
    → Moved (added book item) (held_in (added book item) (added_ring book ring item)) (item ∷ items) (shifted inv.before item)
unfolding open_keeps closed_keeps
added_keeps book ring items inv item usable small =
    adding_cases (λ b r. Moved b (held_in b r) (item ∷ items) (shifted inv.before item)) book ring item
    (λ closes. (let fits : quotient_of book item < 2 ^ width_of book = quotient_in book usable.sound item small closes in
    let whole = book_lent book.bound book.length book.tolerance (length ring) usable.sound.ranges usable.room in
    let head = usable.sound.head_high in
    record {
      inv = closed_keeps book (held_in book ring) items inv item small closes
          (field (width_of book) (written (width_of book) ring book.head (quotient_of book item)))
          (read_back (width_of book) (slots_of book) ring whole book.head head (quotient_of book item) fits)
          (other_stays (width_of book) (slots_of book) ring whole book.head head (quotient_of book item) fits);
      before_is = λ i. refl;
    }))
    (λ more. record { inv = open_keeps book (held_in book ring) items inv item small more; before_is = λ i. refl })
