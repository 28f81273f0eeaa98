-- The altered slots: of the newest slots one more is altered or not, there are no more of them than slots, the newest of them is found, and each
-- stands in the list once; and where none can be.
-- Assumes nothing.
use Prim.Native.Nat.{ℕ, zero, suc, ◌+◌, ◌-◌, ◌≤◌, ◌<◌, ◌^◌}
use native.Mathlib.Omega.{arith}
use mathlib.Core.Bool.{Bool, true, false, true≢false, cond}
use mathlib.Core.List.{List, [], ◌∷◌, ◌++◌}
use mathlib.Core.Logic.{◌⊎◌, inl, inr, ◌≢◌}
use mathlib.Core.Path.{◌≡◌, refl, sym, ap, subst, ◌∙◌}
use borrow.Author.Tests.{le-ltb, eq-eqb, ne_eqb}
use lib.ListN.{length, get_or, length-append}
use lib.Seq.{get_or_at}
use Rattle.refusals.specs.First.{or_else}
use Rattle.refusals.proofs.Laws.{or_else_stops}
use Rattle.ring.proofs.Promises.{field_lt}
use Rattle.book.specs.declared.Book.{Book}
use Rattle.book.specs.Record.{slots_of, largest_of, width_of, held_in}
use Rattle.book.specs.Sound.{Usable}
use Rattle.book.proofs.Promises.{le_or_lt, one_bit}
use Rattle.salvage.specs.Altered.{newest_slot, too_large, altered_of, altered, how_new_of, how_new}
use Rattle.salvage.specs.Mended.{NewestAltered, NoneAltered, times_listed}
use Rattle.salvage.proofs.NewestSlots.{newest_in, newest_apart, steps_back}

-- a number, or else nothing, is the number
pub or_nothing : (n : ℕ) → or_else n 0 ≡ n
or_nothing zero = refl
or_nothing (suc n) = refl

-- ONE SLOT MORE. Of the newest slots the oldest is not altered, or it is
module _ (book : Book) (ring : List ℕ) (j : ℕ) where
  pub not_more : too_large book ring (newest_slot book (suc j)) ≡ false
      → (altered_of book ring (suc j) ≡ altered_of book ring j) × (how_new_of book ring (suc j) ≡ how_new_of book ring j)
  unfolding altered_of how_new_of
  not_more small = rw small (refl, or_nothing (how_new_of book ring j))

  pub one_more : too_large book ring (newest_slot book (suc j)) ≡ true
      → (altered_of book ring (suc j) ≡ newest_slot book (suc j) ∷ altered_of book ring j)
      × (how_new_of book ring (suc j) ≡ or_else (how_new_of book ring j) (suc j))
  unfolding altered_of how_new_of
  one_more large = rw large (refl, refl)

-- no more of the j newest slots are altered than there are
pub few : (book : Book) (ring : List ℕ) (j : ℕ) → length (altered_of book ring j) ≤ j
unfolding altered_of
few book ring zero = omega arith
few book ring (suc j) = by (too_large book ring (newest_slot book (suc j))) refl (few book ring j)
  where
    by : (t : Bool) → too_large book ring (newest_slot book (suc j)) ≡ t → length (altered_of book ring j) ≤ j
        → length (altered_of book ring (suc j)) ≤ suc j
    by false small newer = rw (not_more book ring j small).0 (omega arith)
    by true large newer = rw (one_more book ring j large).0 (omega arith)

-- THE NEWEST ALTERED SLOT among the j newest: there is none …
record NoneOf (book : Book) (ring : List ℕ) (j : ℕ) : Type 0 where
  list_empty : altered_of book ring j ≡ []
  newest_0 : how_new_of book ring j ≡ 0
  each_small : (i : ℕ) → 1 ≤ i → i ≤ j → too_large book ring (newest_slot book i) ≡ false

-- … or it is found, and the list ends with it
record SomeOf (book : Book) (ring : List ℕ) (j : ℕ) : Type 0 where
  found : NewestAltered book ring (how_new_of book ring j)
  older : List ℕ
  list_ends : altered_of book ring j ≡ older ++ newest_slot book (how_new_of book ring j) ∷ []

module _ (book : Book) (ring : List ℕ) (j : ℕ) where
  -- none is found, and the next older one is not altered either
  still_none : too_large book ring (newest_slot book (suc j)) ≡ false → NoneOf book ring j → NoneOf book ring (suc j)
  still_none small none =
      record {
        list_empty = (not_more book ring j small).0 ∙ none.list_empty;
        newest_0 = (not_more book ring j small).1 ∙ none.newest_0;
        each_small = λ i low high. by i low high (le_or_lt i j);
      }
    where
      by : (i : ℕ) → 1 ≤ i → i ≤ suc j → (i ≤ j) ⊎ (j < i) → too_large book ring (newest_slot book i) ≡ false
      by i low high (inl newer) = none.each_small i low newer
      by i low high (inr oldest) = let e : i ≡ suc j = omega arith in rw e small

  -- none is found until the next older one, which is altered
  first_found : too_large book ring (newest_slot book (suc j)) ≡ true → suc j ≤ slots_of book → NoneOf book ring j → SomeOf book ring (suc j)
  first_found large high none =
      let is : how_new_of book ring (suc j) ≡ suc j =
      (one_more book ring j large).1 ∙ ap (λ (n : ℕ). or_else n (suc j)) none.newest_0 in
      record {
        found =
            rw is (record {
              low = omega arith;
              high = high;
              is_altered = large;
              none_newer = λ i low less. none.each_small i low (omega arith);
            });
        older = [];
        list_ends = rw is ((one_more book ring j large).0 ∙ ap (λ (l : List ℕ). newest_slot book (suc j) ∷ l) none.list_empty);
      }

  -- an older one does not count, altered or not
  still_found : (t : Bool) → too_large book ring (newest_slot book (suc j)) ≡ t → SomeOf book ring j → SomeOf book ring (suc j)
  still_found false small some =
      let same = not_more book ring j small in
      record {
        found = rw same.1 some.found;
        older = some.older;
        list_ends = rw same.1 (same.0 ∙ some.list_ends);
      }
  still_found true large some =
      let more = one_more book ring j large in
      let is : how_new_of book ring (suc j) ≡ how_new_of book ring j =
      more.1 ∙ sym (or_else_stops (how_new_of book ring j) (suc j) (λ e. omega (arith, some.found.low))) in
      record {
        found = rw is some.found;
        older = newest_slot book (suc j) ∷ some.older;
        list_ends = rw is (more.0 ∙ ap (λ (l : List ℕ). newest_slot book (suc j) ∷ l) some.list_ends);
      }

-- one of the two it is
none_or_some : (book : Book) (ring : List ℕ) (j : ℕ) → j ≤ slots_of book → NoneOf book ring j ⊎ SomeOf book ring j
unfolding altered_of how_new_of
none_or_some book ring zero high = inl (record { list_empty = refl; newest_0 = refl; each_small = λ i low none. absurd (omega arith) })
none_or_some book ring (suc j) high = by (too_large book ring (newest_slot book (suc j))) refl (none_or_some book ring j (omega arith))
  where
    by : (t : Bool) → too_large book ring (newest_slot book (suc j)) ≡ t → NoneOf book ring j ⊎ SomeOf book ring j
        → NoneOf book ring (suc j) ⊎ SomeOf book ring (suc j)
    by false small (inl none) = inl (still_none book ring j small none)
    by true large (inl none) = inr (first_found book ring j large high none)
    by t is (inr some) = inr (still_found book ring j t is some)

-- HOW OFTEN A SLOT IS LISTED. At the front of a list it stands once more than in the rest …
at_front : (slot : ℕ) (later : List ℕ) → times_listed slot (slot ∷ later) ≡ suc (times_listed slot later)
unfolding times_listed
at_front slot later = rw (eq-eqb slot slot refl) refl

-- … and behind another slot as often as in the rest
behind_another : (slot first : ℕ) (later : List ℕ) → first ≢ slot → times_listed slot (first ∷ later) ≡ times_listed slot later
unfolding times_listed
behind_another slot first later other = rw (ne_eqb first slot other) refl

module _ (book : Book) (ring : List ℕ) where
  -- among the j newest slots: how often a slot is listed
  abbrev times_among : ℕ → ℕ → ℕ
  times_among slot j = times_listed slot (altered_of book ring j)

  -- one older slot more, altered or not, changes nothing for another slot
  same_times : (slot j : ℕ) → newest_slot book (suc j) ≢ slot → times_among slot (suc j) ≡ times_among slot j
  same_times slot j other = by (too_large book ring (newest_slot book (suc j))) refl
    where
      by : (t : Bool) → too_large book ring (newest_slot book (suc j)) ≡ t → times_among slot (suc j) ≡ times_among slot j
      by false small = ap (times_listed slot) (not_more book ring j small).0
      by true large =
          ap (times_listed slot) (one_more book ring j large).0 ∙ behind_another slot (newest_slot book (suc j)) (altered_of book ring j) other

  -- a slot that is none of the j newest is not listed among them
  not_among : (slot j : ℕ) → ((i : ℕ) → 1 ≤ i → i ≤ j → newest_slot book i ≢ slot) → times_among slot j ≡ 0
  unfolding altered_of times_listed
  not_among slot zero none = refl
  not_among slot (suc j) none =
      same_times slot j (none (suc j) (omega arith) (omega arith)) ∙ not_among slot j (λ i low high. none i low (omega arith))

  -- the oldest of them is listed once where it is altered
  oldest_once : (j : ℕ) → times_among (newest_slot book (suc j)) j ≡ 0
      → times_among (newest_slot book (suc j)) (suc j) ≡ cond (too_large book ring (newest_slot book (suc j))) 1 0
  oldest_once j none = by (too_large book ring (newest_slot book (suc j))) refl
    where
      by : (t : Bool) → too_large book ring (newest_slot book (suc j)) ≡ t → times_among (newest_slot book (suc j)) (suc j) ≡ cond t 1 0
      by false small = ap (times_listed (newest_slot book (suc j))) (not_more book ring j small).0 ∙ none
      by true large =
          ap (times_listed (newest_slot book (suc j))) (one_more book ring j large).0
          ∙ at_front (newest_slot book (suc j)) (altered_of book ring j) ∙ ap suc none

  -- and so is each of them
  once_among : (i j : ℕ) → book.head < slots_of book → 1 ≤ i → i ≤ j → j ≤ slots_of book
      → times_among (newest_slot book i) j ≡ cond (too_large book ring (newest_slot book i)) 1 0
  once_among i zero head_high low high all = absurd (omega arith)
  once_among i (suc j) head_high low high all = by (le_or_lt i j) (λ newer. once_among i j head_high low newer (omega arith))
    where
      apart : (k : ℕ) → 1 ≤ k → k ≤ j → newest_slot book k ≢ newest_slot book (suc j)
      apart k from to = newest_apart (slots_of book) book.head k (suc j) head_high from (omega arith) all

      Once : ℕ → Type 0
      Once n = times_among (newest_slot book i) n ≡ cond (too_large book ring (newest_slot book i)) 1 0

      by : (i ≤ j) ⊎ (j < i) → (i ≤ j → Once j) → Once (suc j)
      by (inl newer) before = same_times (newest_slot book i) j (λ e. apart i low newer (sym e)) ∙ before newer
      by (inr oldest) before =
          let e : i ≡ suc j = omega arith in
          rw e (oldest_once j (not_among (newest_slot book (suc j)) j apart))

module _ (book : Book) (ring : List ℕ) where
  -- no more slots are altered than there are
  pub altered_few : length (altered book ring) ≤ slots_of book
  altered_few = few book ring (slots_of book)

  none_or_newest : NoneOf book ring (slots_of book) ⊎ SomeOf book ring (slots_of book)
  none_or_newest = none_or_some book ring (slots_of book) (omega arith)

  -- u is the place of the newest altered slot, 0 for none
  pub how_new_high : how_new book ring ≤ slots_of book
  how_new_high = by none_or_newest
    where
      by : NoneOf book ring (slots_of book) ⊎ SomeOf book ring (slots_of book) → how_new book ring ≤ slots_of book
      by (inl none) = omega (arith, none.newest_0)
      by (inr some) = some.found.high

  some_found : 1 ≤ how_new book ring → SomeOf book ring (slots_of book)
  some_found some = by none_or_newest
    where
      by : NoneOf book ring (slots_of book) ⊎ SomeOf book ring (slots_of book) → SomeOf book ring (slots_of book)
      by (inl none) = absurd (omega (arith, none.newest_0))
      by (inr found) = found

  pub how_new_is : 1 ≤ how_new book ring → NewestAltered book ring (how_new book ring)
  how_new_is some = (some_found some).found

  -- the last number in the list is that of the newest altered slot
  pub last_is_newest : 1 ≤ how_new book ring → get_or (altered book ring) (length (altered book ring) - 1) 0 ≡ newest_slot book (how_new book ring)
  last_is_newest some =
      let found = some_found some in
      let last : ℕ = newest_slot book (how_new book ring) in
      rw found.list_ends
      (get_or_at found.older last [] 0 (length (found.older ++ last ∷ []) - 1) (rw (length-append found.older (last ∷ [])) (omega arith)))

  -- WHAT CANNOT BE SEEN. Where the largest number that a slot can hold is z, no slot is altered, whatever they hold …
  pub nothing_above : largest_of book + 1 ≡ 2 ^ width_of book → NoneAltered book ring
  nothing_above full slot below =
      le-ltb (largest_of book) (held_in book ring slot) (omega (arith, field_lt (width_of book) ring slot))

-- of a book with its ring
module _ (book : Book) (ring : List ℕ) (usable : Usable book (length ring)) where
  -- where u is 0, none is altered; and the other way round
  pub how_new_none : how_new book ring ≡ 0 → NoneAltered book ring
  how_new_none none slot below = by (none_or_newest book ring)
    where
      by : NoneOf book ring (slots_of book) ⊎ SomeOf book ring (slots_of book) → too_large book ring slot ≡ false
      by (inl all) =
          let back = steps_back (slots_of book) book.head slot usable.sound.head_high below in
          ap (too_large book ring) (sym back.there) ∙ all.each_small back.steps back.low back.high
      by (inr some) = absurd (omega (arith, some.found.low))

  pub none_is_none : NoneAltered book ring → (altered book ring ≡ []) × (how_new book ring ≡ 0)
  none_is_none none = by (none_or_newest book ring)
    where
      by : NoneOf book ring (slots_of book) ⊎ SomeOf book ring (slots_of book) → (altered book ring ≡ []) × (how_new book ring ≡ 0)
      by (inl all) = (all.list_empty, all.newest_0)
      by (inr some) =
          let small = none (newest_slot book (how_new book ring)) (newest_in book (length ring) usable (how_new book ring)) in
          absurd (true≢false (sym some.found.is_altered ∙ small))

  -- each altered slot stands in the list once, and no other slot does
  pub listed_once : (slot : ℕ) → slot < slots_of book → times_listed slot (altered book ring) ≡ cond (too_large book ring slot) 1 0
  listed_once slot below =
      let back = steps_back (slots_of book) book.head slot usable.sound.head_high below in
      subst (λ (n : ℕ). times_listed n (altered book ring) ≡ cond (too_large book ring n) 1 0) back.there
      (once_among book ring back.steps (slots_of book) usable.sound.head_high back.low back.high (omega arith))

  -- … and so it is where D is at least L
  pub nothing_seen : book.bound ≤ book.tolerance → NoneAltered book ring
  nothing_seen coarse =
      let one = one_bit book.bound book.length book.tolerance usable.sound.ranges coarse in
      nothing_above book ring (rw (one.0, one.1) refl)
