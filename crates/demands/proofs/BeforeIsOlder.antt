-- Of a book that has taken all its items since its opening, `before` of the invariant is the sum of the older items: it is so of a fresh book, and an
-- item keeps it. And what every item keeps, counts that are added one after the other keep.
-- Assumes nothing.
use Prim.Native.Nat.{ℕ, zero, suc, ◌≤◌}
use native.Mathlib.Omega.{arith}
use mathlib.Core.Bool.{false}
use mathlib.Core.List.{List, [], ◌∷◌}
use mathlib.Core.Path.{◌≡◌, refl, ◌∙◌}
use lib.ListN.{length}
use Rattle.book.specs.declared.Book.{Book}
use Rattle.book.specs.Record.{held_in, opened}
use Rattle.book.specs.Sound.{Ranges, Usable}
use Rattle.book.specs.Adding.{added, added_ring}
use Rattle.book.specs.RunOfCounts.{any_above, added_all, added_all_ring}
use Rattle.book.proofs.Promises.{added_same, added_usable, above_cons, all_none, all_more}
use Rattle.demands.specs.History.{after_run, sum_of, older}
use Rattle.demands.proofs.InvariantKept.{shifted, Moved, opened_keeps, added_keeps}

-- what had come in before, after one more item
older_more : (before : ℕ → ℕ) (items : List ℕ) (item : ℕ) → ((i : ℕ) → before i ≡ older i items)
    → (i : ℕ) → shifted before item i ≡ older i (item ∷ items)
unfolding older sum_of
older_more before items item h zero = omega (arith, h 0)
older_more before items item h (suc i) = h i

older_none : (i : ℕ) → 0 ≡ older i []
unfolding older sum_of
older_none zero = refl
older_none (suc i) = refl

-- the invariant, where `before` is the sum of the older items
abbrev pub ByItems : Book → List ℕ → List ℕ → Type 0
ByItems book ring items = Moved book (held_in book ring) items (λ i. older i items)

-- a fresh book
pub fresh_by_items : (bound n tolerance : ℕ) (ring : List ℕ) → Ranges bound n tolerance → ByItems (opened bound n tolerance) ring []
unfolding opened_keeps
fresh_by_items bound n tolerance ring ranges = record { inv = opened_keeps bound n tolerance _ ranges; before_is = older_none }

-- an item
pub more_by_items : (book : Book) (ring items : List ℕ) (item : ℕ) → ByItems book ring items → Usable book (length ring) → item ≤ book.bound
    → ByItems (added book item) (added_ring book ring item) (item ∷ items)
more_by_items book ring items item h usable small =
    let m = added_keeps book ring items h.inv item usable small in
    record { inv = m.inv; before_is = λ i. m.before_is i ∙ older_more h.inv.before items item h.before_is i }

-- COUNTS
module _ (P : Book → List ℕ → List ℕ → Type 0)
    (more : (book : Book) (ring items : List ℕ) (item : ℕ) → P book ring items → Usable book (length ring) → item ≤ book.bound
    → P (added book item) (added_ring book ring item) (item ∷ items)) where
  pub counts_keep : (book : Book) (ring counts items : List ℕ) → Usable book (length ring) → any_above book.bound counts ≡ false
      → P book ring items → P (added_all book counts) (added_all_ring book ring counts) (after_run counts items)
  unfolding after_run
  counts_keep book ring [] items usable small p = rw ((all_none book ring).0, (all_none book ring).1) p
  counts_keep book ring (count ∷ later) items usable small p =
      let fits = above_cons book.bound count later small in
      rw ((all_more book ring count later).0, (all_more book ring count later).1)
      (counts_keep (added book count) (added_ring book ring count) later (count ∷ items) (added_usable book ring count usable fits.0)
      (rw (added_same book count).bound_same fits.1) (more book ring items count p usable fits.0))
