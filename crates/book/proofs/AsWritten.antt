-- What the definitions of the book say, as laws: for crates above, whose own calls ask a fault more, sum the slots in another way or add to
-- something beside the ring.
-- Assumes nothing.
use Rattle.std.proofs.Common.{◌≡◌, ℕ, suc, ◌+◌, ◌-◌, ◌*◌, ◌/◌, ◌<◌, ◌≤◌, List, [], ◌∷◌, ◌++◌, length, sym, refl, ◌∙◌, arith, le-leb}
use borrow.Author.Tests.{lt-leb}
use Rattle.refusals.specs.First.{first_of}
use Rattle.refusals.specs.Call.{refusal_of, result_of}
use Rattle.refusals.proofs.Calls.{nothing_holds, none_refuses, written_out, tells, result_number, result_cases}
use Rattle.ring.specs.Newest.{newest}
use Rattle.book.specs.declared.Book.{Book}
use Rattle.book.specs.Derived.{ceil_div, bytes_needed}
use Rattle.book.specs.declared.told.Updated.{Updated}
use Rattle.book.specs.declared.told.Ran.{Ran}
use Rattle.book.specs.declared.told.Figure.{Figure}
use Rattle.book.specs.declared.shape.Shape.{Shape}
use Rattle.book.specs.declared.shape.Shaped.{Shaped}
use Rattle.book.specs.Shape.{number_faults, shape_of, no_shape, shape_call}
use Rattle.book.specs.Sound.{Ranges}
use Rattle.book.proofs.WhenTaken.{ranges_known, ranges_pass}
use Rattle.book.proofs.Demand1.{open_tells}
use Rattle.book.specs.Record.{block_of, slots_of, no_book_at_all}
use Rattle.book.specs.Figure.{reckoned, slots_for, figure_by}
use Rattle.book.specs.RunOfCounts.{place_with, added_all, added_all_ring}
use Rattle.book.specs.Adding.{added, added_ring}
use Rattle.book.specs.Calls.{record_faults, room_fault, book_faults, rest_fault, item_fault, counts_fault, window_fault, open_call, add_call, run_call, mark_call, total_call}

-- THE REFUSALS of the calls, as the first of their faults in order
pub open_refusal : (bound n tolerance : ℕ) (ring : List ℕ)
    → refusal_of (open_call bound n tolerance ring)
    ≡ first_of ((number_faults bound n tolerance ++ room_fault (bytes_needed bound n tolerance) (length ring) ∷ []) ++ [])
unfolding open_call
open_refusal bound n tolerance ring = refl

module _ (book : Book) (ring : List ℕ) where
  pub add_refusal : (item : ℕ)
      → refusal_of (add_call book ring item) ≡ first_of (book_faults book (length ring) ++ rest_fault book ∷ item_fault book item ∷ [])
  unfolding add_call
  add_refusal item = refl

  pub run_refusal : (counts : List ℕ)
      → refusal_of (run_call book ring counts) ≡ first_of (book_faults book (length ring) ++ rest_fault book ∷ counts_fault book counts ∷ [])
  unfolding run_call
  run_refusal counts = refl

  pub total_refusal : (window : ℕ)
      → refusal_of (total_call book ring window) ≡ first_of (book_faults book (length ring) ++ window_fault book window ∷ [])
  unfolding total_call
  total_refusal window = refl

pub mark_refusal : (book : Book) (mark : ℕ) → refusal_of (mark_call book mark) ≡ first_of (record_faults book)
unfolding mark_call
mark_refusal book mark = refl

-- and each tells that number
pub open_number : (bound n tolerance : ℕ) (ring : List ℕ)
    → (result_of (open_call bound n tolerance ring)).refusal ≡ refusal_of (open_call bound n tolerance ring)
open_number bound n tolerance ring =
    result_number (λ (r : Updated). r.refusal) (open_call bound n tolerance ring) (open_tells bound n tolerance ring)

module _ (book : Book) (ring : List ℕ) where
  pub add_number : (item : ℕ) → (result_of (add_call book ring item)).refusal ≡ refusal_of (add_call book ring item)
  unfolding add_call
  add_number item = result_number (λ (r : Updated). r.refusal) (add_call book ring item) (tells tt refl (λ number. refl))

  pub run_number : (counts : List ℕ) → (result_of (run_call book ring counts)).refusal ≡ refusal_of (run_call book ring counts)
  unfolding run_call
  run_number counts = result_number (λ (r : Ran). r.refusal) (run_call book ring counts) (tells tt refl (λ number. refl))

  pub total_number : (window : ℕ) → (result_of (total_call book ring window)).refusal ≡ refusal_of (total_call book ring window)
  unfolding total_call
  total_number window = result_number (λ (r : Figure). r.refusal) (total_call book ring window) (tells tt refl (λ number. refl))

pub mark_number : (book : Book) (mark : ℕ) → (result_of (mark_call book mark)).refusal ≡ refusal_of (mark_call book mark)
unfolding mark_call
mark_number book mark = result_number (λ (r : Updated). r.refusal) (mark_call book mark) (tells tt refl (λ number. refl))

-- THE NUMBERS of L, n and D: derived where these are in their ranges, and otherwise zeros
pub shape_cases : (P : Shape → Type 0) (bound n tolerance : ℕ) → (Ranges bound n tolerance → P (shape_of bound n tolerance))
    → ((Ranges bound n tolerance → ⊥) → P no_shape) → P (result_of (shape_call bound n tolerance)).shape
unfolding shape_call
shape_cases P bound n tolerance derived none =
    let faults = number_faults bound n tolerance in
    result_cases (λ (r : Shaped). P r.shape) (shape_call bound n tolerance)
    (λ e. derived (ranges_known bound n tolerance [] (nothing_holds faults (written_out faults tt) e)).0)
    (λ number e. none (λ ranges. (let z : suc number ≡ 0 = sym e ∙ none_refuses faults (ranges_pass bound n tolerance [] ranges tt) in omega arith)))

-- WHAT A REFUSAL HANDS BACK: the number with the record of all zeros, or with the record as it came; and the ring as it was lent
pub open_back : (bound n tolerance : ℕ) (ring : List ℕ)
    → ((number : ℕ) → (open_call bound n tolerance ring).back number ≡ record { refusal = number; book = no_book_at_all })
    × ((open_call bound n tolerance ring).lent ≡ ring)
unfolding open_call
open_back bound n tolerance ring = (λ number. refl, refl)

module _ (book : Book) (ring : List ℕ) where
  pub add_hands_back : (item number : ℕ) → (add_call book ring item).back number ≡ record { refusal = number; book = book }
  unfolding add_call
  add_hands_back item number = refl

  pub run_hands_back : (counts : List ℕ) (number : ℕ)
      → (run_call book ring counts).back number ≡ record { refusal = number; place = place_with book.bound counts number; book = book }
  unfolding run_call
  run_hands_back counts number = refl

  pub total_hands_back : (window number : ℕ) → (total_call book ring window).back number ≡ record { refusal = number; figure = 0 }
  unfolding total_call
  total_hands_back window number = refl

-- THE FIGURE in its two cases, by any sums of the newest slots
module _ (book : Book) (sums held : ℕ → ℕ) (window : ℕ) where
  pub by_open : window ≤ book.phase → figure_by book sums held window ≡ reckoned book 0 (book.phase - window) (book.carry / book.tolerance)
  unfolding figure_by
  by_open h = rw (le-leb window book.phase h)

  pub by_slots : book.phase < window
      → figure_by book sums held window
      ≡ reckoned book (sums (slots_for book window)) (slots_for book window * block_of book - (window - book.phase))
      (held (newest (slots_of book) book.head (slots_for book window)))
  unfolding figure_by
  by_slots h = rw (lt-leb window book.phase h)

pub reckoned_is : (book : Book) (sum e g : ℕ)
    → reckoned book sum e g ≡ book.carry + book.tolerance * sum - (book.tolerance - 1) - e * book.bound * g
unfolding reckoned
reckoned_is book sum e g = refl

-- the slots that a window needs, and a quotient rounded up
pub for_is : (book : Book) (window : ℕ) → slots_for book window ≡ ceil_div (window - book.phase) (block_of book)
unfolding slots_for
for_is book window = refl

pub rounded_up : (a b : ℕ) → ceil_div a b ≡ (a + (b - 1)) / b
unfolding ceil_div
rounded_up a b = refl

-- ADDING COUNTS one after the other: none, and one before others
pub all_none : (book : Book) (ring : List ℕ) → (added_all book [] ≡ book) × (added_all_ring book ring [] ≡ ring)
unfolding added_all added_all_ring
all_none book ring = (refl, refl)

pub all_more : (book : Book) (ring : List ℕ) (count : ℕ) (later : List ℕ)
    → (added_all book (count ∷ later) ≡ added_all (added book count) later)
    × (added_all_ring book ring (count ∷ later) ≡ added_all_ring (added book count) (added_ring book ring count) later)
unfolding added_all added_all_ring
all_more book ring count later = (refl, refl)
