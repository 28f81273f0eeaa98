-- Two windows in one walk: the slots that the longer one needs are those of the shorter one and, from the oldest of these on, the older ones.
-- Assumes nothing.
use Rattle.std.proofs.Common.{◌≡◌, ℕ, zero, suc, ◌+◌, ◌-◌, ◌*◌, ◌<◌, ◌≤◌, List, length, sym, refl, ap, ◌∙◌, add-zero, add-suc, arith}
use Rattle.ring.specs.Slot.{field}
use Rattle.ring.specs.Newest.{slot_before, newest, sum_newest}
use Rattle.ring.proofs.Promises.{newest_none, newest_more, sum_none, sum_more}
use Rattle.book.specs.declared.Book.{Book}
use Rattle.book.specs.declared.shape.Shape.{Shape}
use Rattle.book.specs.Derived.{ceil_div}
use Rattle.book.proofs.Ready.{Ready}
use Rattle.book.specs.Figure.{reckoned, figure}
use Rattle.book.proofs.RoundedUp.{ceil_covers, ceil_le}
use Rattle.book.proofs.StepsInRange.{ready_block}
use Rattle.book.proofs.FigureInTwoCases.{with_oldest, Longer, slots_needed, slots_cover, parts_top, figure_slots}

-- counted on from the a-th newest slot, the b-th is the (a + b)-th newest …
newest_on : (slots next a b : ℕ) → newest slots (newest slots next a) b ≡ newest slots next (a + b)
newest_on slots next a zero = newest_none slots (newest slots next a) ∙ ap (newest slots next) (sym (add-zero a))
newest_on slots next a (suc b) =
    newest_more slots (newest slots next a) b ∙ ap (slot_before slots) (newest_on slots next a b) ∙ sym (newest_more slots next (a + b))
    ∙ ap (newest slots next) (sym (add-suc a b))

-- … and sums go on so too
sum_on : (held : ℕ → ℕ) (slots next a b : ℕ)
    → sum_newest held slots next a + sum_newest held slots (newest slots next a) b ≡ sum_newest held slots next (a + b)
sum_on held slots next a zero =
    rw (sum_none held slots (newest slots next a), add-zero a) (add-zero (sum_newest held slots next a))
sum_on held slots next a (suc b) =
    rw (sum_more held slots (newest slots next a) b, newest_on slots next a (suc b), add-suc a b, sum_more held slots next (a + b))
    (omega (arith, sum_on held slots next a b))

-- a window longer than the open block and one that is longer by `more`: `near` and `far` slots are needed
pub record Both (book : Book) (shape : Shape) (ring : List ℕ) (window more near far : ℕ) : Type 0 where
  pub ready : Ready book shape (length ring)
  pub longer : book.phase < window
  pub kept : window + more ≤ book.kept
  pub near_is : near ≡ ceil_div (window - book.phase) shape.block
  pub far_is : far ≡ ceil_div (window - book.phase + more) shape.block

module _ {book : Book} {shape : Shape} {ring : List ℕ} {window more near far : ℕ} (k : Both book shape ring window more near far) where
  -- each by itself
  pub shorter_one : Longer book shape ring window near
  shorter_one = record { ready = k.ready; longer = k.longer; kept = omega (arith, k.kept); j_is = k.near_is }

  items : window + more - book.phase ≡ window - book.phase + more
  items = omega (arith, k.longer)

  pub longer_one : Longer book shape ring (window + more) far
  longer_one =
      record {
        ready = k.ready;
        longer = omega (arith, k.longer);
        kept = k.kept;
        j_is = k.far_is ∙ ap (λ (n : ℕ). ceil_div n shape.block) (sym items);
      }

  pub longer_cover : (window - book.phase + more ≤ far * shape.block) × (far * shape.block ≤ 8192)
      × ((far * shape.block - (window - book.phase + more)) * book.bound ≤ 268431360)
  longer_cover = rw items at (slots_cover longer_one)

  -- the longer one needs no fewer slots
  pub near_le_far : near ≤ far
  near_le_far =
      let low : 0 < shape.block = (ready_block k.ready).1 in
      let covers : window - book.phase + more ≤ far * shape.block = rw k.far_is (ceil_covers (window - book.phase + more) shape.block low) in
      rw k.near_is (ceil_le (window - book.phase) shape.block far low (omega arith))

  -- what is read: the newer slots and the last of the shorter window, the older ones from there on, and the oldest
  module _ {newer place last older end oldest : ℕ}
      (newer_is : newer ≡ sum_newest (field shape.width ring) shape.slots book.head (near - 1))
      (place_is : place ≡ newest shape.slots book.head near) (last_is : last ≡ field shape.width ring place)
      (older_is : older ≡ sum_newest (field shape.width ring) shape.slots place (far - near))
      (end_is : end ≡ newest shape.slots book.head far) (oldest_is : oldest ≡ field shape.width ring end) where
    abbrev held : ℕ → ℕ
    held = field shape.width ring

    whole : newer + last + older ≡ sum_newest held shape.slots book.head far
    whole =
        let e : near + (far - near) ≡ far = omega (arith, near_le_far) in
        rw (newer_is, last_is, older_is, place_is, with_oldest held shape.slots book.head near (slots_needed shorter_one).0)
        (sum_on held shape.slots book.head near (far - near) ∙ ap (sum_newest held shape.slots book.head) e)

    apart : newer + last + older ≡ sum_newest held shape.slots book.head (far - 1) + oldest
    apart = whole ∙ rw (oldest_is, end_is) (sym (with_oldest held shape.slots book.head far (slots_needed longer_one).0))

    pub both_top : (newer + last + older ≤ 268496895) × (oldest ≤ 65535)
    both_top = let parts = parts_top longer_one refl end_is oldest_is in (omega (arith, apart, parts.0, parts.1), parts.1)

    pub longer_figure : reckoned book (newer + last + older) (far * shape.block - (window - book.phase + more)) oldest
        ≡ figure book ring (window + more)
    longer_figure =
        ap (λ (n : ℕ). reckoned book n (far * shape.block - (window - book.phase + more)) oldest) apart
        ∙ ap (λ (n : ℕ). reckoned book (sum_newest held shape.slots book.head (far - 1) + oldest) (far * shape.block - n) oldest) (sym items)
        ∙ figure_slots longer_one refl end_is oldest_is
