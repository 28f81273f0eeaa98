-- Counts that come into one block: while they leave it open only the record changes, and where they fill it, it closes once.
-- Assumes nothing.
use Rattle.std.proofs.Common.{◌≡◌, ℕ, ◌+◌, ◌-◌, ◌*◌, ◌/◌, ◌^◌, ◌<◌, ◌≤◌, min, false, List, [], ◌∷◌, length, refl, ap, ◌∙◌, subst, ap₂, arith}
use Rattle.ring.specs.Slot.{written}
use Rattle.book.specs.declared.Book.{Book}
use Rattle.book.specs.Record.{block_of, slots_of, width_of, record_with}
use Rattle.book.specs.Sound.{Sound}
use Rattle.book.specs.Adding.{slot_after, added_open, added_closed, added, added_ring}
use Rattle.book.specs.RunOfCounts.{any_above, added_all, added_all_ring}
use Rattle.book.proofs.GatheringCounts.{carry_after}
use Rattle.book.proofs.AddingInTwoCases.{adding_cases}
use Rattle.book.proofs.StaysABook.{open_sound, closed_sound}
use Rattle.book.proofs.StepsInRange.{quotient_in}
use Rattle.book.proofs.LookingAtAll.{above_cons}

-- n at the most
abbrev kept_with : Book → ℕ → ℕ
kept_with book more = min book.length (book.kept + more)

-- the record with the counts in its open block
abbrev pub with_open : Book → List ℕ → Book
with_open book counts =
    record_with book (carry_after book.carry counts) (book.phase + length counts) (kept_with book (length counts)) book.head

-- q, where they fill it
abbrev pub quotient_with : Book → List ℕ → ℕ
quotient_with book counts = carry_after book.carry counts / book.tolerance

-- and the record then
abbrev pub with_closed : Book → List ℕ → Book
with_closed book counts =
    record_with book (carry_after book.carry counts - quotient_with book counts * book.tolerance) 0 (kept_with book (length counts))
    (slot_after (slots_of book) book.head)

-- a record follows from the four numbers that adding changes
pub same_record : (book : Book) {carry carry' phase phase' kept kept' head head' : ℕ} → carry ≡ carry' → phase ≡ phase' → kept ≡ kept' → head ≡ head'
    → record_with book carry phase kept head ≡ record_with book carry' phase' kept' head'
same_record book r p k h = λ i. record_with book (r i) (p i) (k i) (h i)

-- an item that leaves the block open, and then more
stays : (book : Book) (ring : List ℕ) (item : ℕ) → (book.phase + 1 ≡ block_of book → ⊥) → (added book item ≡ added_open book item) × (added_ring book ring item ≡ ring)
stays book ring item more =
    adding_cases (λ b r. (b ≡ added_open book item) × (r ≡ ring)) book ring item (λ closes. absurd (more closes)) (λ h. (refl, refl))

module _ (ring : List ℕ) where
  -- none of the counts fills the block
  pub left_open : (book : Book) (counts : List ℕ) → book.kept ≤ book.length → book.phase + length counts < block_of book
      → (added_all book counts ≡ with_open book counts) × (added_all_ring book ring counts ≡ ring)
  unfolding added_all added_all_ring carry_after
  left_open book [] kept more = (same_record book refl (omega arith) (omega (arith, kept)) refl, refl)
  left_open book (count ∷ later) kept more =
      let one = stays book ring count (λ e. omega (arith, more, e)) in
      let rest = left_open (added_open book count) later (omega arith) (omega (arith, more)) in (
        ap (λ (b : Book). added_all b later) one.0 ∙ rest.0 ∙ same_record book refl (omega arith) (omega arith) refl,
        ap₂ (λ (b : Book) (r : List ℕ). added_all_ring b r later) one.0 one.1 ∙ rest.1,
      )

  -- the last of them fills it
  pub record Fills (book : Book) (counts : List ℕ) : Type 0 where
    pub fits : quotient_with book counts < 2 ^ width_of book
    pub sound : Sound (with_closed book counts)
    pub book_is : added_all book counts ≡ with_closed book counts
    pub ring_is : added_all_ring book ring counts ≡ written (width_of book) ring book.head (quotient_with book counts)

  pub fills : (book : Book) (counts : List ℕ) → Sound book → 1 ≤ length counts → any_above book.bound counts ≡ false
      → book.phase + length counts ≡ block_of book → Fills book counts
  unfolding added_all added_all_ring carry_after
  fills book [] sound some small full = absurd (omega (arith, some))
  fills book (count ∷ []) sound some small full =
      let closes : book.phase + 1 ≡ block_of book = omega (arith, full) in
      let fits = (above_cons book.bound count [] small).0 in
      let two = adding_cases (λ b r. (b ≡ added_closed book count) × (r ≡ written (width_of book) ring book.head (quotient_with book (count ∷ []))))
      book ring count (λ e. (refl, refl)) (λ more. absurd (more closes)) in
      record {
        fits = quotient_in book sound count fits closes;
        sound = closed_sound book sound count fits;
        book_is = two.0;
        ring_is = two.1;
      }
  fills book (count ∷ next ∷ later) sound some small full =
      let more : book.phase + 1 ≡ block_of book → ⊥ = λ e. omega (arith, full, e) in
      let one = stays book ring count more in
      let opened = added_open book count in
      let low = above_cons book.bound count (next ∷ later) small in
      let rest = fills opened (next ∷ later) (open_sound book sound count low.0 more) (omega arith) low.1 (omega (arith, full)) in
      let kept : kept_with opened (length (next ∷ later)) ≡ kept_with book (length (count ∷ next ∷ later)) = omega arith in
      let same : with_closed opened (next ∷ later) ≡ with_closed book (count ∷ next ∷ later) = same_record book refl refl kept refl in
      record {
        fits = rest.fits;
        sound = subst Sound same rest.sound;
        book_is = ap (λ (b : Book). added_all b (next ∷ later)) one.0 ∙ rest.book_is ∙ same;
        ring_is = ap₂ (λ (b : Book) (r : List ℕ). added_all_ring b r (next ∷ later)) one.0 one.1 ∙ rest.ring_is;
      }
