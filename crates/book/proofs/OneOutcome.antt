-- UNIQUENESS of the results themselves, of every public call: each form in which results are seen (specs/Told.antt) tells them apart, so that
-- what is settled of the numbers (proofs/Demand1.antt) is settled of the result.
-- Assumes nothing.
use Rattle.std.proofs.Common.{◌≡◌, ℕ, List, sym, refl, ap, ◌∙◌, arith}
use Rattle.std.specs.Prelude.{Result, Ok, Err}
use contract.Lifetimes.{Lfts}
use Rattle.refusals.specs.Numbers.{item_too_large}
use Rattle.refusals.specs.Call.{result_of}
use Rattle.refusals.specs.Demand1.{Settles}
use Rattle.refusals.specs.declared.Refusal.{Refusal}
use Rattle.refusals.proofs.Numbers.{number_not_0, number_once}
use Rattle.refusals.proofs.OneOutcome.{seen_apart, one_outcome}
use Rattle.book.specs.declared.Book.{Book}
use Rattle.book.specs.declared.BothFigures.{BothFigures}
use Rattle.book.specs.declared.RunRefusal.{RunRefusal}
use Rattle.book.specs.declared.RunRefusal.TheVariants as run_refusals
use Rattle.book.specs.declared.told.Updated.{Updated}
use Rattle.book.specs.declared.told.Ran.{Ran}
use Rattle.book.specs.declared.told.Figure.{Figure}
use Rattle.book.specs.declared.told.Window.{Window}
use Rattle.book.specs.declared.shape.Shape.{Shape}
use Rattle.book.specs.declared.shape.Shaped.{Shaped}
use Rattle.book.specs.declared.verdicts.Notice.{Notice}
use Rattle.book.specs.Answers.{Figures, Ruling, Told, Refused}
use Rattle.book.specs.Shape.{no_shape}
use Rattle.book.specs.Record.{no_book_at_all}
use Rattle.book.specs.Verdict.{refusal_in}
use Rattle.book.specs.Told.{as_updated, as_ran, as_shaped, as_figure, as_figures, as_window, as_ruling}
use Rattle.book.specs.Calls.{run_call}
use Rattle.book.proofs.RunRefused.{run_7}
use Rattle.book.proofs.AsWritten.{run_number}
use Rattle.book.proofs.Demand1.{derive_promised, open_promised, add_promised, run_promised, rest_promised, wake_promised, total_promised, two_totals_promised, far_promised, verdict_promised}
use Rattle.book.proofs.shape.derive.Reads as derive_reads
use Rattle.book.proofs.open.Reads as open_reads
use Rattle.book.proofs.add.Reads as add_reads
use Rattle.book.proofs.run.Reads as run_reads
use Rattle.book.proofs.rest.Reads as rest_reads
use Rattle.book.proofs.wake.Reads as wake_reads
use Rattle.book.proofs.total.Reads as total_reads
use Rattle.book.proofs.two_totals.Reads as two_totals_reads
use Rattle.book.proofs.how_far_back.Reads as far_reads
use Rattle.book.proofs.verdict.Reads as verdict_reads

-- EACH FORM is that of one result: of a record to go on with …
pub updated_apart : (before : Book) (r r' : Result Book Refusal) → as_updated before r ≡ as_updated before r' → r ≡ r'
updated_apart before =
    seen_apart _ (λ number. record { refusal = number; book = before }) (λ (u : Updated). u.refusal) (λ book. refl) (λ number. refl)
    (λ x y e. ap (λ (u : Updated). u.book) e)

-- … of the numbers of a book …
shaped_apart : (r r' : Result Shape Refusal) → as_shaped r ≡ as_shaped r' → r ≡ r'
shaped_apart =
    seen_apart _ (λ number. record { refusal = number; shape = no_shape }) (λ (s : Shaped). s.refusal) (λ shape. refl) (λ number. refl)
    (λ x y e. ap (λ (s : Shaped). s.shape) e)

-- … of a figure, of two, and of a window …
figure_apart : (r r' : Result ℕ Refusal) → as_figure r ≡ as_figure r' → r ≡ r'
figure_apart =
    seen_apart _ (λ number. record { refusal = number; figure = 0 }) (λ (f : Figure). f.refusal) (λ figure. refl) (λ number. refl)
    (λ x y e. ap (λ (f : Figure). f.figure) e)

figures_apart : (r r' : Result BothFigures Refusal) → as_figures r ≡ as_figures r' → r ≡ r'
figures_apart =
    seen_apart _ (λ number. record { refusal = number; shorter = 0; longer = 0 }) (λ (f : Figures). f.refusal) (λ totals. refl) (λ number. refl)
    (λ x y e. λ i. record { shorter = (e i).shorter; longer = (e i).longer })

window_apart : (r r' : Result ℕ Refusal) → as_window r ≡ as_window r' → r ≡ r'
window_apart =
    seen_apart _ (λ number. record { refusal = number; window = 0 }) (λ (w : Window). w.refusal) (λ window. refl) (λ number. refl)
    (λ x y e. ap (λ (w : Window). w.window) e)

-- … and of what the page is told
abbrev notice_or : Notice → Ruling → Notice
notice_or other (Told notice) = notice
notice_or other (Refused number) = other

ruling_apart : (r r' : Result Notice Refusal) → as_ruling r ≡ as_ruling r' → r ≡ r'
ruling_apart = seen_apart Told Refused refusal_in (λ notice. refl) (λ number. refl) (λ x y e. ap (notice_or x) e)

-- OF A RUN two results can look alike, 7 with no place and a count above L at place 0. Where with 7 comes a place, neither is told
pub ran_apart : (before : Book) (told : Ran) → (told.refusal ≡ item_too_large → told.place ≡ 0 → ⊥) → (r r' : Result Book RunRefusal)
    → as_ran before r ≡ told → as_ran before r' ≡ told → r ≡ r'
ran_apart before told placed = by
  where
    number : {one other : Ran} → one ≡ told → other ≡ told → one.refusal ≡ other.refusal
    number e e' = ap (λ (ran : Ran). ran.refusal) (e ∙ sym e')

    place : {one other : Ran} → one ≡ told → other ≡ told → one.place ≡ other.place
    place e e' = ap (λ (ran : Ran). ran.place) (e ∙ sym e')

    -- a refusal that stands beside a count above L
    mixed : {one other : Ran} → one ≡ told → other ≡ told → one.place ≡ 0 → other.refusal ≡ item_too_large → ⊥
    mixed e e' none seven = placed (sym (ap (λ (ran : Ran). ran.refusal) e') ∙ seven) (sym (ap (λ (ran : Ran). ran.place) e) ∙ none)

    by : (r r' : Result Book RunRefusal) → as_ran before r ≡ told → as_ran before r' ≡ told → r ≡ r'
    by (Ok x) (Ok y) e e' = ap Ok (ap (λ (ran : Ran). ran.book) (e ∙ sym e'))
    by (Ok x) (Err (run_refusals.Refused refusal)) e e' = absurd (number_not_0 refusal (sym (number e e')))
    by (Ok x) (Err (run_refusals.CountTooLarge at)) e e' = absurd (let n : 0 ≡ item_too_large = number e e' in omega arith)
    by (Err (run_refusals.Refused refusal)) (Ok y) e e' = absurd (number_not_0 refusal (number e e'))
    by (Err (run_refusals.Refused one)) (Err (run_refusals.Refused other)) e e' =
        ap (λ (refusal : Refusal). Err (run_refusals.Refused refusal)) (number_once one other (number e e'))
    by (Err (run_refusals.Refused refusal)) (Err (run_refusals.CountTooLarge at)) e e' = absurd (mixed e e' refl refl)
    by (Err (run_refusals.CountTooLarge at)) (Ok y) e e' = absurd (let n : item_too_large ≡ 0 = number e e' in omega arith)
    by (Err (run_refusals.CountTooLarge at)) (Err (run_refusals.Refused refusal)) e e' = absurd (mixed e' e refl refl)
    by (Err (run_refusals.CountTooLarge one)) (Err (run_refusals.CountTooLarge other)) e e' =
        ap (λ (at : ℕ). Err (run_refusals.CountTooLarge at)) (place e e')

-- with 7 a run tells a place
pub run_placed : (book : Book) (ring counts : List ℕ)
    → (result_of (run_call book ring counts)).refusal ≡ item_too_large → (result_of (run_call book ring counts)).place ≡ 0 → ⊥
run_placed book ring counts seven none =
    let told = run_7 book ring counts (sym (run_number book ring counts) ∙ seven) in
    let at = ap (λ (ran : Ran). ran.place) told.1 in
    omega (arith, told.0.low, at, none)

-- THE CALLS. Nothing is lent
module _ (κs : Lfts 0) where
  pub derive_settled : Settles (derive_reads.Post κs) (λ a r. r) (λ a e. tt {0})
  derive_settled = one_outcome _ _ _ (derive_promised κs).settled (λ a r r' e e' p p'. shaped_apart r r')

  pub rest_settled : Settles (rest_reads.Post κs) (λ a r. r) (λ a e. tt {0})
  rest_settled = one_outcome _ _ _ (rest_promised κs).settled (λ a r r' e e' p p'. updated_apart a.0 r r')

  pub wake_settled : Settles (wake_reads.Post κs) (λ a r. r) (λ a e. tt {0})
  wake_settled = one_outcome _ _ _ (wake_promised κs).settled (λ a r r' e e' p p'. updated_apart a.0 r r')

-- In `a` stand the arguments in their order, the ring among them, in `e` the same as the call returns.
module _ (κs : Lfts 1) where
  pub open_settled : Settles (open_reads.Post κs) (λ a r. r) (λ a e. e.1.1.1.0.now)
  open_settled = one_outcome _ _ _ (open_promised κs).settled (λ a r r' e e' p p'. updated_apart no_book_at_all r r')

  pub add_settled : Settles (add_reads.Post κs) (λ a r. r) (λ a e. e.1.0.now)
  add_settled = one_outcome _ _ _ (add_promised κs).settled (λ a r r' e e' p p'. updated_apart a.0 r r')

  pub total_settled : Settles (total_reads.Post κs) (λ a r. r) (λ a e. a.1.0.now)
  total_settled = one_outcome _ _ _ (total_promised κs).settled (λ a r r' e e' p p'. figure_apart r r')

  pub two_totals_settled : Settles (two_totals_reads.Post κs) (λ a r. r) (λ a e. a.1.0.now)
  two_totals_settled = one_outcome _ _ _ (two_totals_promised κs).settled (λ a r r' e e' p p'. figures_apart r r')

  pub far_settled : Settles (far_reads.Post κs) (λ a r. r) (λ a e. a.1.0.now)
  far_settled = one_outcome _ _ _ (far_promised κs).settled (λ a r r' e e' p p'. window_apart r r')

  pub verdict_settled : Settles (verdict_reads.Post κs) (λ a r. r) (λ a e. a.1.0.now)
  verdict_settled = one_outcome _ _ _ (verdict_promised κs).settled (λ a r r' e e' p p'. ruling_apart r r')

-- a run of counts, which are lent beside the ring
pub run_settled : (κs : Lfts 2) → Settles (run_reads.Post κs) (λ a r. r) (λ a e. e.1.0.now)
run_settled κs =
    one_outcome _ _ _ (run_promised κs).settled
    (λ a r r' e e' p p' alike. ran_apart a.0 _ (run_placed a.0 a.1.0.now a.1.1.0.now) r r' p.0 p'.0)
