-- The old quotients of a book that is made coarser, taken as items one after the other: those older than the newest i of them sum to what the slots
-- of the older blocks hold.
-- Assumes nothing.
use Prim.Native.Nat.{ℕ, zero, suc, ◌+◌, ◌≤◌, ◌<◌}
use native.Mathlib.Nat.{zero-add, add-zero}
use native.Mathlib.Omega.{arith}
use mathlib.Core.List.{List, [], ◌∷◌}
use mathlib.Core.Logic.{⊎_elim}
use mathlib.Core.Path.{◌≡◌, refl, sym, ap, ◌∙◌}
use lib.ListN.{length, take}
use Rattle.ring.specs.Newest.{newest, sum_newest}
use Rattle.ring.proofs.Promises.{sum_more}
use Rattle.book.specs.declared.Book.{Book}
use Rattle.book.specs.Record.{slots_of, held_in}
use Rattle.book.proofs.Promises.{le_or_lt}
use Rattle.coarse.specs.Quotients.{quotients}
use Rattle.coarse.proofs.Promises.{quotients_more, length_quotients}
use Rattle.demands.specs.History.{after_run, sum_of, older}

-- behind the counts of a run stands what was there before
pub older_behind : (counts items : List ℕ) (i : ℕ) → older (length counts + i) (after_run counts items) ≡ older i items
unfolding after_run older sum_of
older_behind [] items i = rw (zero-add i)
older_behind (count ∷ later) items i =
    let next : suc (length later) + i ≡ length later + suc i = omega arith in
    rw next (older_behind later (count ∷ items) (suc i))

-- no item is left out
older_all : (items : List ℕ) → older 0 items ≡ sum_of items
unfolding older
older_all items = refl

-- the counts are the newest items, the last of them first: what is older than the newest i of them are the first ones, and what was there before
pub older_first : (counts items : List ℕ) (i t : ℕ) → i + t ≡ length counts → older i (after_run counts items) ≡ sum_of (take t counts) + sum_of items
unfolding after_run sum_of
older_first [] items i t e =
    let none : i ≡ 0 = omega arith in
    let all : t ≡ 0 = omega arith in
    rw (none, all) (omega (arith, older_all items))
older_first (count ∷ later) items i zero e =
    let past : i ≡ length (count ∷ later) + 0 = omega arith in
    rw past (omega (arith, older_behind (count ∷ later) items 0, older_all items))
older_first (count ∷ later) items i (suc t) e = omega (arith, older_first later (count ∷ items) i t (omega arith))

module _ (book : Book) (ring : List ℕ) where
  abbrev sum_of_newest : ℕ → ℕ
  sum_of_newest j = sum_newest (held_in book ring) (slots_of book) book.head j

  -- of all J of them the older ones are none
  older_last : (J : ℕ) (items : List ℕ) → older J (after_run (quotients book ring J) items) ≡ sum_of items
  older_last J items =
      let all : length (quotients book ring J) + 0 ≡ J = add-zero _ ∙ length_quotients book ring J in
      ap (λ (i : ℕ). older i (after_run (quotients book ring J) items)) (sym all) ∙ older_behind (quotients book ring J) items 0 ∙ older_all items

  pub older_quotients : (J : ℕ) (items : List ℕ) (i : ℕ) → i ≤ J
      → older i (after_run (quotients book ring J) items) + sum_of_newest i ≡ sum_of_newest J + sum_of items
  unfolding after_run sum_of
  older_quotients zero items i h =
      let none : i ≡ 0 = omega arith in
      rw none (omega (arith, older_last 0 items))
  older_quotients (suc j) items i h =
      let own : ℕ = held_in book ring (newest (slots_of book) book.head (suc j)) in
      ⊎_elim
      (λ (near : i ≤ j). rw (quotients_more book ring j)
      (omega (arith, older_quotients j (own ∷ items) i near, sum_more (held_in book ring) (slots_of book) book.head j)))
      (λ (far : j < i). (let last : i ≡ suc j = omega arith in rw last (omega (arith, older_last (suc j) items))))
      (le_or_lt i j)
