-- A book from a good start (SCOPE, Demands), used only through the calls, with the items that it accepted since.
use Rattle.std.specs.Prelude.{ℕ, ◌+◌, List, [], ◌∷◌, ◌⊎◌, ◌≡◌, take, drop}
use Rattle.refusals.specs.Call.{Call, refusal_of, result_of, left_of}
use Rattle.book.specs.declared.Book.{Book}
use Rattle.book.specs.Calls.{open_call, add_call, rest_call, wake_call}
use Rattle.coarse.specs.Calls.{coarsen_call}
use Rattle.salvage.specs.Calls.{salvage_call}
use Rattle.salvage.specs.After.{book_after, ring_after}
use Rattle.demands.specs.LeftTrue.{LeftTrue}

-- A call upon a record and what is lent with it, the ring or the ring with more, seen by the record that its caller goes on with: a refusal hands
-- back the record as it came, and this was lent
pub record Upon {Lent : Type 0} (book : Book) (lent : Lent) (call : Call Book Lent) : Type 0 where
  pub hands_back : (number : ℕ) → call.back number ≡ book
  pub lent_is : call.lent ≡ lent

-- it only asks: where it is not refused, record and what was lent are as they came too
abbrev pub OnlyAsks : {Lent : Type 0} → Book → Lent → Call Book Lent → Type 0
OnlyAsks book lent call = (call.given ≡ book) × (call.left ≡ lent)

-- Good book ring items: the record and the ring as the last call left them, and all accepted items, the newest first.
-- It begins with an opening that is not refused, and goes on with items that are accepted, with resting and waking, which leave the ring and
-- the items, with being made coarser, which leaves the items (from then on the second ring is the book's), with salvage of a scrambled ring where a
-- good book with this record has the fields that were left (LeftTrue), which leaves that book's items, and with any call that is refused or only
-- asks.
-- A run of counts needs no case of its own: it comes to its items, one by one.
pub data Good : Book → List ℕ → List ℕ → Type 0 where
  start : (bound n tolerance : ℕ) (lent : List ℕ) → refusal_of (open_call bound n tolerance lent) ≡ 0
      → Good (result_of (open_call bound n tolerance lent)).book (left_of (open_call bound n tolerance lent)) []
  adding : (book : Book) (ring items : List ℕ) → Good book ring items → (item : ℕ) → refusal_of (add_call book ring item) ≡ 0
      → Good (result_of (add_call book ring item)).book (left_of (add_call book ring item)) (item ∷ items)
  resting : (book : Book) (ring items : List ℕ) → Good book ring items → refusal_of (rest_call book) ≡ 0
      → Good (result_of (rest_call book)).book ring items
  waking : (book : Book) (ring items : List ℕ) → Good book ring items → refusal_of (wake_call book) ≡ 0
      → Good (result_of (wake_call book)).book ring items
  coarsening : (book : Book) (ring items : List ℕ) → Good book ring items → (times : ℕ) (second : List ℕ)
      → refusal_of (coarsen_call book ring times second) ≡ 0
      → Good (result_of (coarsen_call book ring times second)).book (left_of (coarsen_call book ring times second)) items
  salvaging : (book : Book) (ring truth items : List ℕ) → Good book truth items → LeftTrue book ring truth → (numbers : List ℕ)
      → refusal_of (salvage_call book ring numbers) ≡ 0
      → Good (book_after book ring numbers) (ring_after book ring numbers) items
  otherwise : (book : Book) (ring items : List ℕ) → Good book ring items → (call : Call Book (List ℕ)) → Upon book ring call
      → (refusal_of call ≡ 0 → ⊥) ⊎ OnlyAsks book ring call → Good (result_of call) (left_of call) items

-- all accepted items after a run of counts: the last of the counts is the newest
unfoldable pub after_run : List ℕ → List ℕ → List ℕ
after_run [] items = items
after_run (count ∷ later) items = after_run later (count ∷ items)

-- the sum of a list of items
unfoldable pub sum_of : List ℕ → ℕ
sum_of [] = 0
sum_of (item ∷ older) = item + sum_of older

-- S, the true total of the last i items (SCOPE, Demands)
unfoldable pub true_total : ℕ → List ℕ → ℕ
true_total i items = sum_of (take i items)

-- what had come in before the last i items
unfoldable pub older : ℕ → List ℕ → ℕ
older i items = sum_of (drop i items)
