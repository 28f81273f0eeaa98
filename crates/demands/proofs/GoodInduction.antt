-- The one induction over good books: what a fresh book has, and what an accepted item, another mark, being made coarser and salvage keep, every good
-- book has.
-- Assumes nothing.
use Prim.Native.Nat.{ℕ, ◌≤◌}
use mathlib.Core.List.{List, [], ◌∷◌}
use mathlib.Core.Logic.{◌⊎◌, inl, inr}
use mathlib.Core.Path.{◌≡◌, refl, sym, ap, ◌∙◌}
use lib.ListN.{length}
use Rattle.refusals.specs.Call.{Call, refusal_of, result_of, left_of}
use Rattle.refusals.proofs.Calls.{result_refused, left_refused, result_asked, left_asked}
use Rattle.ring.specs.Slot.{cleared}
use Rattle.book.specs.declared.Book.{Book}
use Rattle.book.specs.declared.told.Updated.{Updated}
use Rattle.book.specs.Derived.{field_width, slot_count, bytes_needed}
use Rattle.book.specs.Resting.{awake, at_rest, marked}
use Rattle.book.specs.Record.{opened}
use Rattle.book.specs.Sound.{Ranges, Usable}
use Rattle.book.specs.Adding.{added, added_ring}
use Rattle.book.proofs.Promises.{open_known, open_gives, add_known, add_gives, mark_gives}
use Rattle.coarse.specs.declared.told.Coarser.{Coarser}
use Rattle.coarse.specs.Coarsens.{Coarsens}
use Rattle.coarse.specs.Coarser.{coarsened, coarsened_ring}
use Rattle.coarse.specs.Calls.{coarser_bytes}
use Rattle.coarse.proofs.Promises.{coarsen_known, coarsen_gives}
use Rattle.salvage.specs.declared.told.Salvaged.{Salvaged}
use Rattle.salvage.specs.Salvaged.{salvaged_ring, salvaged_record}
use Rattle.salvage.specs.Calls.{RingAndNumbers}
use Rattle.salvage.proofs.Promises.{salvage_known, salvage_gives}
use Rattle.demands.specs.LeftTrue.{LeftTrue}
use Rattle.demands.specs.History.{Upon, OnlyAsks, Good, start, adding, resting, waking, coarsening, salvaging, otherwise}

-- a call that is refused or only asks leaves the record, and what was lent, as they came
pub nothing_changes : {Lent : Type 0} (book : Book) (lent : Lent) (call : Call Book Lent) → Upon book lent call
    → (refusal_of call ≡ 0 → ⊥) ⊎ OnlyAsks book lent call → (result_of call ≡ book) × (left_of call ≡ lent)
nothing_changes book lent call upon (inl refused) = (
  sym (result_refused call refl refused) ∙ upon.hands_back (refusal_of call),
  sym (left_refused call refl refused) ∙ upon.lent_is,
)
nothing_changes book lent call upon (inr asks) =
    (result_asked call book asks.0 upon.hands_back, left_asked call lent asks.1 upon.lent_is)

module _ (P : Book → List ℕ → List ℕ → Type 0)
    (fresh : (bound n tolerance : ℕ) (lent : List ℕ) → Ranges bound n tolerance → bytes_needed bound n tolerance ≤ length lent
    → P (opened bound n tolerance) (cleared (field_width bound tolerance) (slot_count bound n tolerance) lent) [])
    (more : (book : Book) (ring items : List ℕ) (item : ℕ) → P book ring items → Usable book (length ring) → item ≤ book.bound
    → P (added book item) (added_ring book ring item) (item ∷ items))
    (marks : (book : Book) (ring items : List ℕ) (mark : ℕ) → P book ring items → P (marked book mark) ring items)
    (coarser : (book : Book) (ring items : List ℕ) (times : ℕ) (second : List ℕ) → P book ring items → Usable book (length ring)
    → Coarsens book times → coarser_bytes book times ≤ length second
    → P (coarsened book ring times) (coarsened_ring book ring times second) items)
    (salvages : (book : Book) (ring truth items : List ℕ) → P book truth items → Usable book (length ring) → LeftTrue book ring truth
    → P (salvaged_record book ring) (salvaged_ring book ring) items) where
  pub good_induction : (book : Book) (ring items : List ℕ) → Good book ring items → P book ring items
  good_induction book ring items (start bound n tolerance lent e) =
      let known = open_known bound n tolerance lent e in
      let gives = open_gives bound n tolerance lent e in
      rw (ap (λ (r : Updated). r.book) gives.0, gives.1) (fresh bound n tolerance lent known.0 known.1)
  good_induction book ring items (adding old bytes earlier good item e) =
      let known = add_known old bytes item e in
      let gives = add_gives old bytes item e in
      rw (ap (λ (r : Updated). r.book) gives.0, gives.1)
      (more old bytes earlier item (good_induction old bytes earlier good) known.0 known.1)
  good_induction book ring items (resting old bytes same good e) =
      rw (ap (λ (r : Updated). r.book) (mark_gives old at_rest e)) (marks old bytes same at_rest (good_induction old bytes same good))
  good_induction book ring items (waking old bytes same good e) =
      rw (ap (λ (r : Updated). r.book) (mark_gives old awake e)) (marks old bytes same awake (good_induction old bytes same good))
  good_induction book ring items (coarsening old bytes same good times second e) =
      let known = coarsen_known old bytes times second e in
      let gives = coarsen_gives old bytes times second e in
      rw (ap (λ (r : Coarser). r.book) gives.0, gives.1)
      (coarser old bytes same times second (good_induction old bytes same good) known.0 known.1 known.2)
  good_induction book ring items (salvaging old bytes truth same good left_true numbers e) =
      let known = salvage_known old bytes numbers e in
      let gives = salvage_gives old bytes numbers e in
      rw (ap (λ (r : Salvaged). r.book) gives.0, ap (λ (l : RingAndNumbers). l.ring) gives.1)
      (salvages old bytes truth same (good_induction old truth same good) known.0 left_true)
  good_induction book ring items (otherwise old bytes same good call upon idle) =
      let kept = nothing_changes old bytes call upon idle in
      rw (kept.0, kept.1) (good_induction old bytes same good)
