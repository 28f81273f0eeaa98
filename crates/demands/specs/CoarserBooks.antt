-- What a book that is made coarser is (SCOPE, Coarser): of a good book a good one, with the same items; and of any book that is made coarser each of
-- its numbers, and what its slots hold, by the sums of the old quotients.
use Rattle.std.specs.Prelude.{ℕ, ◌+◌, ◌-◌, ◌*◌, ◌/◌, ◌%◌, ◌≤◌, ◌<◌, List, ◌≡◌, take, drop, get_or}
use Rattle.bits.specs.Row.{bits}
use Rattle.refusals.specs.Call.{result_of, left_of}
use Rattle.book.specs.declared.Book.{Book}
use Rattle.book.specs.Record.{block_of, slots_of, width_of, held_in}
use Rattle.sums.specs.Calls.{RingAndRow}
use Rattle.coarse.specs.Quotients.{blocks_kept, old_quotients}
use Rattle.coarse.specs.Calls.{coarser_bytes, coarsen_call, coarsen_row_call}
use Rattle.demands.specs.History.{Good, sum_of}
use Rattle.demands.specs.HistoryWithRow.{GoodWithRow}
use Rattle.demands.specs.Demand2.{Demand2}
use Rattle.demands.specs.Demand3.{Demand3}
use Rattle.demands.specs.DemandsWithRow.{Demand2WithRow}

module _ (book : Book) (ring : List ℕ) (times : ℕ) where
  -- how many items are kept then: p + J·c
  abbrev pub kept_then : ℕ
  kept_then = book.phase + blocks_kept book * block_of book

  -- the record that the call gives and the ring that it leaves …
  abbrev pub coarser_book : List ℕ → Book
  coarser_book second = (result_of (coarsen_call book ring times second)).book

  abbrev pub coarser_ring : List ℕ → List ℕ
  coarser_ring second = left_of (coarsen_call book ring times second)

  -- … and with a row
  abbrev pub coarser_row_book : RingAndRow → Book
  coarser_row_book second = (result_of (coarsen_row_call book ring times second.ring second.row)).book

  abbrev pub coarser_both : RingAndRow → RingAndRow
  coarser_both second = left_of (coarsen_row_call book ring times second.ring second.row)

  -- A GOOD BOOK made coarser is good, with the same items. Its tolerance is m·D, and demands 2 and 3 hold with it for the windows that are kept
  pub record StaysGood (items second : List ℕ) : Type 0 where
    pub good : Good (coarser_book second) (coarser_ring second) items
    pub tolerance_is : (coarser_book second).tolerance ≡ times * book.tolerance
    pub kept_is : (coarser_book second).kept ≡ kept_then
    pub demand_2 : Demand2 (coarser_book second) (coarser_ring second) items
    pub demand_3 : (v : ℕ) → 0 < v → Demand3 (coarser_book second) (coarser_ring second) items v

  -- with a row it is kept with that row from then on
  pub record StaysGoodWithRow (items : List ℕ) (second : RingAndRow) : Type 0 where
    pub good : GoodWithRow (coarser_row_book second) (coarser_both second) items
    pub tolerance_is : (coarser_row_book second).tolerance ≡ times * book.tolerance
    pub kept_is : (coarser_row_book second).kept ≡ kept_then
    pub demand_2 : Demand2WithRow (coarser_row_book second) (coarser_both second) items
    pub demand_3 : (v : ℕ) → 0 < v → Demand3 (coarser_row_book second) (coarser_both second).ring items v

  -- THE CLOSED FORM. Q(t), the sum of the t oldest of the old quotients
  abbrev pub oldest_sum : ℕ → ℕ
  oldest_sum t = sum_of (take t (old_quotients book ring))

  -- J blocks make J / m new ones, and J % m are left for the open one. New block k, counted from 0 at the oldest one, is in slot k, which holds how
  -- often m·D was passed while it came in: Q((k + 1)·m) / m − Q(k·m) / m. Every other slot holds 0. The carry has D for each time that D was passed
  -- since m·D was last passed before the open block
  pub record CoarserFollows (second : List ℕ) : Type 0 where
    pub bound_is : (coarser_book second).bound ≡ book.bound
    pub length_is : (coarser_book second).length ≡ book.length
    pub tolerance_is : (coarser_book second).tolerance ≡ times * book.tolerance
    pub carry_is : (coarser_book second).carry
        ≡ book.carry
        + book.tolerance * (oldest_sum (blocks_kept book) - times * (oldest_sum (times * (blocks_kept book / times)) / times))
    pub phase_is : (coarser_book second).phase ≡ book.phase + (blocks_kept book % times) * block_of book
    pub kept_is : (coarser_book second).kept ≡ kept_then
    pub head_is : (coarser_book second).head ≡ (blocks_kept book / times) % slots_of (coarser_book second)
    pub mark_is : (coarser_book second).resting ≡ book.resting
    pub slot_is : (k : ℕ) → k < blocks_kept book / times
        → held_in (coarser_book second) (coarser_ring second) k ≡ oldest_sum ((k + 1) * times) / times - oldest_sum (k * times) / times
    pub rest_0 : (k : ℕ) → blocks_kept book / times ≤ k → k < slots_of (coarser_book second) → held_in (coarser_book second) (coarser_ring second) k ≡ 0

  -- BEHIND THE SLOTS of the second ring: the bits after the last slot are 0, and the bytes from B on are as they were lent
  pub record CoarserBehind (second : List ℕ) : Type 0 where
    pub tail_0 : (i : ℕ) → slots_of (coarser_book second) * width_of (coarser_book second) ≤ i → i < coarser_bytes book times * 8
        → get_or (bits (coarser_ring second)) i 0 ≡ 0
    pub rest_as_lent : drop (coarser_bytes book times) (coarser_ring second) ≡ drop (coarser_bytes book times) second
