-- A RUN OF COUNTS IS ADDING THEM ONE BY ONE (promise C-11.1): a run that is not refused gives the record and leaves the ring that adding its
-- counts by one call each gives and leaves, and that is one record and one ring alone; and counts that a book that is awake takes one by
-- one, it takes as a run.
-- Assumes nothing.
use Rattle.std.proofs.Common.{◌≡◌, ℕ, false, List, [], ◌∷◌, length, sym, refl, ap, ◌∙◌}
use Rattle.refusals.specs.Call.{refusal_of, result_of, left_of}
use Rattle.book.specs.declared.Book.{Book}
use Rattle.book.specs.declared.told.Updated.{Updated}
use Rattle.book.specs.declared.told.Ran.{Ran}
use Rattle.book.specs.Resting.{awake}
use Rattle.book.specs.Sound.{Usable}
use Rattle.book.specs.Adding.{added, added_ring}
use Rattle.book.specs.RunOfCounts.{any_above, added_all, added_all_ring}
use Rattle.book.specs.OneByOne.{OneByOne, none, first}
use Rattle.book.specs.Calls.{add_call, run_call}
use Rattle.book.proofs.StaysABook.{added_same, added_mark, added_usable}
use Rattle.book.proofs.LookingAtAll.{above_cons, above_join, above_empty}
use Rattle.book.proofs.WhenTaken.{add_known, add_taken, add_gives, run_known, run_taken, run_gives}

-- counts of which none is above L are taken one by one by a book that is awake
taken_one_by_one : (book : Book) (ring counts : List ℕ) → Usable book (length ring) → any_above book.bound counts ≡ false
    → book.resting ≡ awake → OneByOne book ring counts (added_all book counts) (added_all_ring book ring counts)
unfolding added_all added_all_ring
taken_one_by_one book ring [] usable small up = none book ring
taken_one_by_one book ring (count ∷ later) usable small up =
    let fits = above_cons book.bound count later small in
    let taken = add_taken book ring count usable fits.0 up in
    let gives = add_gives book ring count taken in
    first book ring count later (added_all (added book count) later) (added_all_ring (added book count) (added_ring book ring count) later) taken
    (rw (ap (λ (u : Updated). u.book) gives.0, gives.1)
    (taken_one_by_one (added book count) (added_ring book ring count) later (added_usable book ring count usable fits.0)
    (rw (added_same book count).bound_same fits.1) (added_mark book count ∙ up)))

pub run_is_adding : (book : Book) (ring counts : List ℕ) → refusal_of (run_call book ring counts) ≡ 0
    → OneByOne book ring counts (result_of (run_call book ring counts)).book (left_of (run_call book ring counts))
run_is_adding book ring counts e =
    let known = run_known book ring counts e in
    let gives = run_gives book ring counts e in
    rw (ap (λ (r : Ran). r.book) gives.0, gives.1) (taken_one_by_one book ring counts known.0 known.1 known.2)

-- what adding one by one comes to …
comes_to : (book : Book) (ring counts : List ℕ) (last : Book) (left : List ℕ) → OneByOne book ring counts last left
    → (last ≡ added_all book counts) × (left ≡ added_all_ring book ring counts)
unfolding added_all added_all_ring
comes_to book ring counts last left (none b r) = (refl, refl)
comes_to book ring counts last left (first b r count later l m taken rest) =
    let gives = add_gives b r count taken in
    rw (ap (λ (u : Updated). u.book) gives.0, gives.1) at
    (comes_to (result_of (add_call b r count)).book (left_of (add_call b r count)) later l m rest)

-- … is one end alone
pub one_end : (book : Book) (ring counts : List ℕ) (last last' : Book) (left left' : List ℕ)
    → OneByOne book ring counts last left → OneByOne book ring counts last' left' → (last ≡ last') × (left ≡ left')
one_end book ring counts last last' left left' one other =
    let a = comes_to book ring counts last left one in
    let b = comes_to book ring counts last' left' other in
    (a.0 ∙ sym b.0, a.1 ∙ sym b.1)

-- THE OTHER WAY. Counts that are taken one by one are not above L
taken_small : (book : Book) (ring counts : List ℕ) (last : Book) (left : List ℕ) → OneByOne book ring counts last left
    → any_above book.bound counts ≡ false
taken_small book ring counts last left (none b r) = above_empty b.bound
taken_small book ring counts last left (first b r count later l m taken rest) =
    let gives = add_gives b r count taken in
    above_join b.bound count later (add_known b r count taken).1
    (rw (ap (λ (u : Updated). u.book) gives.0, (added_same b count).bound_same) at
    (taken_small (result_of (add_call b r count)).book (left_of (add_call b r count)) later l m rest))

-- so that a book takes them as a run, to the same end. (That the record is a book with its ring, and is awake, says more only where there is no
-- count at all.)
pub adding_is_run : (book : Book) (ring counts : List ℕ) (last : Book) (left : List ℕ) → Usable book (length ring) → book.resting ≡ awake
    → OneByOne book ring counts last left
    → (refusal_of (run_call book ring counts) ≡ 0) × ((result_of (run_call book ring counts)).book ≡ last) × (left_of (run_call book ring counts) ≡ left)
adding_is_run book ring counts last left usable up one =
    let taken = run_taken book ring counts usable (taken_small book ring counts last left one) up in
    let same = one_end book ring counts _ last _ left (run_is_adding book ring counts taken) one in
    (taken, same.0, same.1)
