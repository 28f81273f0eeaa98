-- DARK HOURS (promises C-15.1 to C-15.4): what the resting mark does. Each is said of every record and ring that it names, whatever else they
-- hold; a mark other than 0 is one that rests.
-- Assumes nothing.
use Rattle.std.proofs.Common.{◌≡◌, ℕ, ◌<◌, ◌≤◌, ◌↔◌, List, [], ◌∷◌, length, sym, refl, ap, ◌∙◌, arith}
use Rattle.refusals.specs.Numbers.{no_book, book_rests}
use Rattle.refusals.specs.First.{first_of}
use Rattle.refusals.specs.Call.{Call, refusal_of, result_of, left_of}
use Rattle.refusals.proofs.Laws.{first_only}
use Rattle.refusals.proofs.Calls.{none_refuses, result_cases, result_taken, result_refused, left_refused}
use Rattle.book.specs.declared.Book.{Book}
use Rattle.book.specs.declared.told.Updated.{Updated}
use Rattle.book.specs.declared.told.Ran.{Ran}
use Rattle.book.specs.declared.verdicts.Verdict.TheVariants.{Resting}
use Rattle.book.specs.Answers.{Told}
use Rattle.book.specs.Adding.{added}
use Rattle.book.specs.RunOfCounts.{added_all}
use Rattle.book.specs.Figure.{figure}
use Rattle.book.specs.Verdict.{verdict_of, verdict_now, verdict_number, refusal_in, window_in, value_in, ruling_number}
use Rattle.book.specs.Resting.{awake, at_rest, marked}
use Rattle.book.specs.Sound.{Sound, Usable}
use Rattle.book.specs.Calls.{record_faults, book_faults, open_call, add_call, run_call, mark_call, rest_call, wake_call, verdict_call}
use Rattle.book.proofs.AwakeOrAtRest.{awake_passes, rest_holds}
use Rattle.book.proofs.WhenTaken.{item_17, run_17, usable_passes, mark_known, mark_taken, mark_gives, verdict_taken, verdict_gives}
use Rattle.book.proofs.StaysABook.{added_mark}
use Rattle.book.proofs.VerdictRule.{tells_resting, resting_by, carries_figure}

-- AN OPENING leaves the mark cleared, also in the zeros of a refused one
pub opening_awake : (bound n tolerance : ℕ) (ring : List ℕ) → (result_of (open_call bound n tolerance ring)).book.resting ≡ awake
unfolding open_call
opening_awake bound n tolerance ring =
    result_cases (λ (r : Updated). r.book.resting ≡ awake) (open_call bound n tolerance ring) (λ e. refl) (λ number e. refl)

-- RESTING AND WAKING are refused with 8 alone, where the record is no book; otherwise they set the mark and change nothing else
pub mark_done : (book : Book) (mark : ℕ) → Sound book → result_of (mark_call book mark) ≡ record { refusal = 0; book = marked book mark }
mark_done book mark sound = mark_gives book mark (mark_taken book mark sound)

pub mark_8 : (book : Book) (mark : ℕ) → (Sound book → ⊥) → result_of (mark_call book mark) ≡ record { refusal = no_book; book = book }
unfolding mark_call
mark_8 book mark unsound =
    let some : first_of (record_faults book) ≡ 0 → ⊥ = λ e. unsound (mark_known book mark e) in
    let eight : no_book ≡ first_of (record_faults book) = sym (first_only no_book (record_faults book) tt some) in
    sym (result_refused (mark_call book mark) eight (λ e. omega arith))

-- Of two marks that are set one after the other the last one counts …
pub last_mark : (book : Book) (first last : ℕ) → result_of (mark_call (result_of (mark_call book first)).book last) ≡ result_of (mark_call book last)
unfolding mark_call
last_mark book first last =
    result_cases (λ (r : Updated). result_of (mark_call r.book last) ≡ result_of (mark_call book last)) (mark_call book first)
    (λ taken. sym (result_taken (mark_call (marked book first) last) (sym taken) refl) ∙ result_taken (mark_call book last) (sym taken) refl)
    (λ number e. refl)

-- … and the mark that a record has already changes nothing
pub mark_it_has : (book : Book) → (result_of (mark_call book book.resting)).book ≡ book
unfolding mark_call
mark_it_has book = result_cases (λ (r : Updated). r.book ≡ book) (mark_call book book.resting) (λ e. refl) (λ number e. refl)

-- so either may come twice
pub rest_twice : (book : Book) → result_of (rest_call (result_of (rest_call book)).book) ≡ result_of (rest_call book)
rest_twice book = last_mark book at_rest at_rest

pub wake_twice : (book : Book) → result_of (wake_call (result_of (wake_call book)).book) ≡ result_of (wake_call book)
wake_twice book = last_mark book awake awake

-- and a record whose mark is 0 comes back when it has rested and is woken
pub rest_then_wake : (book : Book) → book.resting ≡ awake → (result_of (wake_call (result_of (rest_call book)).book)).book ≡ book
rest_then_wake book up =
    ap (λ (r : Updated). r.book) (last_mark book at_rest awake)
    ∙ ap (λ (mark : ℕ). (result_of (mark_call book mark)).book) (sym up)
    ∙ mark_it_has book

-- ADDING AND RUNS hand the mark back as it came, refused or not
all_added_mark : (book : Book) (counts : List ℕ) → (added_all book counts).resting ≡ book.resting
unfolding added_all
all_added_mark book [] = refl
all_added_mark book (count ∷ later) = all_added_mark (added book count) later ∙ added_mark book count

module _ (book : Book) (ring : List ℕ) where
  pub add_leaves_mark : (item : ℕ) → (result_of (add_call book ring item)).book.resting ≡ book.resting
  unfolding add_call
  add_leaves_mark item =
      result_cases (λ (r : Updated). r.book.resting ≡ book.resting) (add_call book ring item) (λ e. added_mark book item) (λ number e. refl)

  pub run_leaves_mark : (counts : List ℕ) → (result_of (run_call book ring counts)).book.resting ≡ book.resting
  unfolding run_call
  run_leaves_mark counts =
      result_cases (λ (r : Ran). r.book.resting ≡ book.resting) (run_call book ring counts) (λ e. all_added_mark book counts) (λ number e. refl)

  -- AT REST a book takes nothing: every item and every run, an empty one too, is refused with 17 once 8 and 4 are passed
  module _ (usable : Usable book (length ring)) (down : book.resting ≡ awake → ⊥) where
    passed : first_of (book_faults book (length ring)) ≡ 0
    passed = none_refuses (book_faults book (length ring)) (usable_passes book (length ring) [] usable tt)

    -- what comes back with 17
    with_17 : {Result : Type 0} (call : Call Result (List ℕ)) → refusal_of call ≡ book_rests
        → (result_of call ≡ call.back book_rests) × (left_of call ≡ call.lent)
    with_17 call found =
        (sym (result_refused call (sym found) (λ e. omega arith)), sym (left_refused call (sym found) (λ e. omega arith)))

    pub add_at_rest : (item : ℕ)
        → (result_of (add_call book ring item) ≡ record { refusal = book_rests; book = book }) × (left_of (add_call book ring item) ≡ ring)
    unfolding add_call
    add_at_rest item = with_17 (add_call book ring item) (item_17 book ring passed down item)

    pub run_at_rest : (counts : List ℕ)
        → (result_of (run_call book ring counts) ≡ record { refusal = book_rests; place = 0; book = book }) × (left_of (run_call book ring counts) ≡ ring)
    unfolding run_call
    run_at_rest counts = with_17 (run_call book ring counts) (run_17 book ring passed down counts)

  -- THE VERDICT is resting with the figure while it rests, and otherwise goes by the figure
  module _ (window amount : ℕ) (usable : Usable book (length ring)) (asked : 0 < amount) (some : 0 < window) (kept : window ≤ book.kept) where
    gives : result_of (verdict_call book ring window amount)
        ≡ Told (record { window = window; verdict = verdict_now book amount (figure book ring window) })
    gives = verdict_gives book ring window amount (verdict_taken book ring window amount usable asked some kept)

    pub verdict_at_rest : (book.resting ≡ awake → ⊥)
        → result_of (verdict_call book ring window amount) ≡ Told (record { window = window; verdict = Resting (figure book ring window) })
    unfolding verdict_now
    verdict_at_rest down = gives ∙ rw (rest_holds book down)

    pub verdict_awake : book.resting ≡ awake
        → result_of (verdict_call book ring window amount)
        ≡ Told (record { window = window; verdict = verdict_of book.tolerance amount (figure book ring window) })
    unfolding verdict_now
    verdict_awake up = gives ∙ rw (awake_passes book up)

    -- in the numbers of SCOPE, Verdict: no refusal, the window, its figure, and 4 exactly while the book rests
    pub told_in_numbers : let ruling = result_of (verdict_call book ring window amount) in
        (refusal_in ruling ≡ 0)
        × (window_in ruling ≡ window)
        × (value_in ruling ≡ figure book ring window)
        × ((ruling_number ruling ≡ 4) ↔ (book.resting ≡ awake → ⊥))
    told_in_numbers =
        rw gives (
          refl,
          refl,
          carries_figure book amount (figure book ring window),
          (
            resting_by book amount (figure book ring window),
            λ down. sym (ap verdict_number (tells_resting book amount (figure book ring window) down refl)),
          ),
        )
