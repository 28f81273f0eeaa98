-- What many items leave of a record whatever they are: L, n and D stay, and of a book that starts with any carry the phase and what is kept follow
-- from how many they are.
-- Assumes nothing.
use Prim.Native.Nat.{ℕ, ◌+◌, ◌%◌, ◌<◌, min}
use native.Mathlib.Omega.{arith}
use mathlib.Core.List.{List, [], ◌∷◌}
use mathlib.Core.Path.{◌≡◌, refl, ap₂, ◌∙◌}
use lib.ListN.{length}
use Rattle.book.specs.declared.Book.{Book}
use Rattle.book.specs.Derived.{block_length}
use Rattle.book.specs.Record.{block_of}
use Rattle.book.specs.Sound.{Ranges}
use Rattle.book.specs.Adding.{added}
use Rattle.book.specs.RunOfCounts.{added_all}
use Rattle.book.proofs.Promises.{adding_cases, SameNumbers, added_same, block_low, all_none, all_more, in_blocks, Counted, counted_fresh, counted_all}
use Rattle.coarse.specs.Histories.{started_at}

-- numbers that stay, one item after the other …
pub still_same : {book one two : Book} → SameNumbers book one → SameNumbers one two → SameNumbers book two
still_same a b =
    record {
      bound_same = b.bound_same ∙ a.bound_same;
      length_same = b.length_same ∙ a.length_same;
      tolerance_same = b.tolerance_same ∙ a.tolerance_same;
    }

-- … and all of them
pub all_same : (book : Book) (items : List ℕ) → SameNumbers book (added_all book items)
all_same book [] = rw (all_none book []).0 (record { bound_same = refl; length_same = refl; tolerance_same = refl })
all_same book (item ∷ later) = rw (all_more book [] item later).0 (still_same (added_same book item) (all_same (added book item) later))

-- the block length with them
pub block_same : {book one : Book} → SameNumbers book one → block_of one ≡ block_of book
block_same same = ap₂ (λ (l d : ℕ). block_length l d) same.bound_same same.tolerance_same

-- an open block stays one, or the next one begins
pub phase_below : (book : Book) (item : ℕ) → book.phase < block_of book → (added book item).phase < block_of book
phase_below book item low =
    adding_cases (λ b r. b.phase < block_of book) book [] item (λ closes. block_low book.bound book.tolerance) (λ more. omega (arith, more))

-- A BOOK THAT STARTS with any carry, after all items
module _ (bound n tolerance : ℕ) (ranges : Ranges bound n tolerance) (r : ℕ) (items : List ℕ) where
  abbrev last : Book
  last = added_all (started_at bound n tolerance r) items

  counted : Counted last (length items + 0)
  counted =
      let f = counted_fresh bound n tolerance in
      counted_all (started_at bound n tolerance r) items 0 ranges
      (record { blocks = f.blocks; count_is = f.count_is; phase_lt = f.phase_lt; head_is = f.head_is; kept_is = f.kept_is })

  -- the phase is what is left of their number by c
  pub phase_after : (added_all (started_at bound n tolerance r) items).phase ≡ length items % block_length bound tolerance
  phase_after =
      let e : length items + 0 ≡ length items = omega arith in
      (in_blocks counted.count_is counted.phase_lt).0
      ∙ ap₂ (λ (m c : ℕ). m % c) e (block_same (all_same (started_at bound n tolerance r) items))

  -- all are kept, or n of them
  pub kept_after : (added_all (started_at bound n tolerance r) items).kept ≡ min n (length items)
  kept_after =
      let e : length items + 0 ≡ length items = omega arith in
      counted.kept_is ∙ ap₂ (λ (l m : ℕ). min l m) (all_same (started_at bound n tolerance r) items).length_same e
