-- How the code judges a book with its ring and its row: 8 and 4 are passed exactly by a book with its ring, and then the numbers that were derived are
-- its own; 18 is passed exactly with an entry for each group.
-- Assumes nothing.
use Rattle.std.proofs.Common.{◌≡◌, ℕ, ◌≤◌, List, [], ◌∷◌, ◌++◌, Ok, Err, refl, sym, ap, ◌∙◌, ltb, ltb-false}
use Rattle.refusals.specs.Numbers.{no_book}
use Rattle.refusals.specs.declared.Refusal.{Refusal}
use Rattle.refusals.specs.First.{Fault, first_of}
use Rattle.refusals.specs.Call.{result_of}
use Rattle.refusals.proofs.Numbers.{number_not_0}
use Rattle.refusals.proofs.Laws.{first_goes_on, first_stops, first_passed, first_only}
use Rattle.refusals.proofs.Calls.{none_refuses}
use Rattle.book.specs.declared.Book.{Book}
use Rattle.book.specs.declared.shape.Shape.{Shape}
use Rattle.book.specs.Shape.{number_faults, shape_call}
use Rattle.book.specs.Resting.{awake}
use Rattle.book.specs.Record.{shape_for}
use Rattle.book.specs.Sound.{Sound, Usable}
use Rattle.book.specs.Calls.{record_faults, book_faults}
use Rattle.book.specs.Told.{as_shaped}
use Rattle.book.proofs.Promises.{usable_passes, shape_cases, shape_refusal, shape_known, ranges_pass, mark_known, mark_refusal}
use Rattle.sums.specs.Row.{entries_for, entries_of}
use Rattle.sums.specs.Calls.{row_fault}

-- 8 and 4 are passed by a book with its ring, of which so many bytes are lent
pub use_passes : (book : Book) (lent : ℕ) → Usable book lent → first_of (book_faults book lent) ≡ 0
use_passes book lent usable = none_refuses (book_faults book lent) (usable_passes book lent [] usable tt)

-- and the numbers that were derived of a book's L, n and D are its own
pub shape_of_book : (book : Book) {shape : Shape} → shape ≡ (result_of (shape_call book.bound book.length book.tolerance)).shape → Sound book
    → shape ≡ shape_for book
shape_of_book book is sound =
    is
    ∙ shape_cases (λ s. s ≡ shape_for book) book.bound book.length book.tolerance (λ ranges. refl)
    (λ none. absurd (none sound.ranges))

-- AS THE CODE ASKS, one after the other. The numbers of a record's L, n and D; where they have none, it is no book
pub numbers_are : (book : Book) {shape : Shape} → as_shaped (Ok shape) ≡ result_of (shape_call book.bound book.length book.tolerance)
    → shape ≡ shape_for book
numbers_are book told = (shape_known book.bound book.length book.tolerance told refl).1

pub no_numbers : (book : Book) (refusal : Refusal) → as_shaped (Err refusal) ≡ result_of (shape_call book.bound book.length book.tolerance)
    → no_book ≡ first_of (record_faults book)
no_numbers book refusal told =
    sym
    (first_only no_book (record_faults book) tt
    (λ none. (let ranges = (mark_known book awake (mark_refusal book awake ∙ none)).ranges in
    let passed = none_refuses (number_faults book.bound book.length book.tolerance) (ranges_pass book.bound book.length book.tolerance [] ranges tt) in
    number_not_0 refusal (shape_refusal book.bound book.length book.tolerance told ∙ passed))))

-- behind 4 comes 18, and what is asked later
pub row_next : (earlier later : List Fault) (entries lent : ℕ) {number : ℕ} → first_of earlier ≡ 0
    → number ≡ first_of (row_fault entries lent ∷ []) → (number ≡ 0 → ⊥) → number ≡ first_of (earlier ++ row_fault entries lent ∷ later)
row_next earlier later entries lent {number} passed found some =
    first_stops (row_fault entries lent ∷ []) later number found some ∙ sym (first_goes_on earlier (row_fault entries lent ∷ later) passed)

-- and where it is not given, the row has room
pub row_roomy : (entries lent : ℕ) → 0 ≡ first_of (row_fault entries lent ∷ []) → entries ≤ lent
row_roomy entries lent none = ltb-false lent entries (first_passed (ltb lent entries) 17 [] (sym none)).0

-- asked with the numbers at hand, it is asked of the book
pub entries_are : (book : Book) (lent : ℕ) {shape : Shape} → shape ≡ shape_for book
    → first_of (row_fault (entries_for shape.slots) lent ∷ []) ≡ first_of (row_fault (entries_of book) lent ∷ [])
entries_are book lent is = ap (λ (s : Shape). first_of (row_fault (entries_for s.slots) lent ∷ [])) is

pub row_has_room : (book : Book) (lent : ℕ) {shape : Shape} → shape ≡ shape_for book → 0 ≡ first_of (row_fault (entries_for shape.slots) lent ∷ [])
    → entries_of book ≤ lent
row_has_room book lent is none = row_roomy (entries_of book) lent (none ∙ entries_are book lent is)
