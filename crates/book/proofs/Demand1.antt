-- Demand 1 and uniqueness of each public call: what its statement says is what its row says.
-- `Post` is the statement itself, as it stands at the function in src/; a ring that is only read is left as it came.
-- Assumes nothing.
use Rattle.std.proofs.Common.{◌≡◌, ℕ, List, refl}
use contract.Lifetimes.{Lfts}
use Rattle.refusals.specs.Call.{left_of}
use Rattle.refusals.specs.Demand1.{Tells, Promised}
use Rattle.refusals.proofs.Calls.{asks_leaves, promised, tells}
use Rattle.book.specs.declared.Book.{Book}
use Rattle.book.specs.declared.told.Updated.{Updated}
use Rattle.book.specs.declared.told.Ran.{Ran}
use Rattle.book.specs.declared.told.Figure.{Figure}
use Rattle.book.specs.Answers.{Figures}
use Rattle.book.specs.declared.told.Window.{Window}
use Rattle.book.specs.declared.shape.Shaped.{Shaped}
use Rattle.book.specs.declared.verdicts.Notice.{Notice}
use Rattle.book.specs.Answers.{Ruling}
use Rattle.book.specs.Answers.{Told, Refused}
use Rattle.book.specs.Verdict.{refusal_in}
use Rattle.book.specs.Resting.{awake, at_rest}
use Rattle.book.specs.Record.{no_book_at_all}
use Rattle.book.specs.Told.{as_updated, as_ran, as_shaped, as_figure, as_figures, as_window, as_ruling}
use Rattle.book.specs.Shape.{shape_call}
use Rattle.book.specs.Calls.{open_call, add_call, run_call, mark_call, rest_call, wake_call, total_call, two_totals_call, how_far_call, verdict_call}
use Rattle.book.proofs.shape.derive.Reads as derive-reads
use Rattle.book.proofs.open.Reads as open_reads
use Rattle.book.proofs.add.Reads as add_reads
use Rattle.book.proofs.run.Reads as run_reads
use Rattle.book.proofs.rest.Reads as rest-reads
use Rattle.book.proofs.wake.Reads as wake-reads
use Rattle.book.proofs.total.Reads as total_reads
use Rattle.book.proofs.two_totals.Reads as two-totals-reads
use Rattle.book.proofs.how_far_back.Reads as far_reads
use Rattle.book.proofs.verdict.Reads as verdict-reads

-- an opening tells its refusal
pub open_tells : (bound n tolerance : ℕ) (ring : List ℕ) → Tells (λ (r : Updated). r.refusal) (open_call bound n tolerance ring)
unfolding open_call
open_tells bound n tolerance ring = tells tt refl (λ number. refl)

-- the other rows tell theirs too, and a call that only asks leaves the ring
pub derive_tells : (bound n tolerance : ℕ) → Tells (λ (r : Shaped). r.refusal) (shape_call bound n tolerance)
unfolding shape_call
derive_tells bound n tolerance = tells tt refl (λ number. refl)

pub mark_tells : (book : Book) (mark : ℕ) → Tells (λ (r : Updated). r.refusal) (mark_call book mark)
unfolding mark_call
mark_tells book mark = tells tt refl (λ number. refl)

pub shape_leaves : (bound n tolerance : ℕ) → tt ≡ left_of (shape_call bound n tolerance)
unfolding shape_call
shape_leaves bound n tolerance = asks_leaves (shape_call bound n tolerance) refl

pub mark_leaves : (book : Book) (mark : ℕ) → tt ≡ left_of (mark_call book mark)
unfolding mark_call
mark_leaves book mark = asks_leaves (mark_call book mark) refl

module _ (book : Book) (ring : List ℕ) where
  pub add_tells : (item : ℕ) → Tells (λ (r : Updated). r.refusal) (add_call book ring item)
  unfolding add_call
  add_tells item = tells tt refl (λ number. refl)

  pub run_tells : (counts : List ℕ) → Tells (λ (r : Ran). r.refusal) (run_call book ring counts)
  unfolding run_call
  run_tells counts = tells tt refl (λ number. refl)

  pub total_tells : (window : ℕ) → Tells (λ (r : Figure). r.refusal) (total_call book ring window)
  unfolding total_call
  total_tells window = tells tt refl (λ number. refl)

  pub total_leaves : (window : ℕ) → ring ≡ left_of (total_call book ring window)
  unfolding total_call
  total_leaves window = asks_leaves (total_call book ring window) refl

  pub two_totals_tells : (window more : ℕ) → Tells (λ (r : Figures). r.refusal) (two_totals_call book ring window more)
  unfolding two_totals_call
  two_totals_tells window more = tells tt refl (λ number. refl)

  pub two_totals_leaves : (window more : ℕ) → ring ≡ left_of (two_totals_call book ring window more)
  unfolding two_totals_call
  two_totals_leaves window more = asks_leaves (two_totals_call book ring window more) refl

  pub far_tells : (amount : ℕ) → Tells (λ (r : Window). r.refusal) (how_far_call book ring amount)
  unfolding how_far_call
  far_tells amount = tells tt refl (λ number. refl)

  pub far_leaves : (amount : ℕ) → ring ≡ left_of (how_far_call book ring amount)
  unfolding how_far_call
  far_leaves amount = asks_leaves (how_far_call book ring amount) refl

-- the numbers of a book: nothing is lent
module _ (κs : Lfts 0) where
  pub derive_promised : Promised (derive-reads.Post κs) (λ a r. as_shaped r) (λ a e. tt) (λ a. shape_call a.0 a.1.0 a.1.1.0) (λ (r : Shaped). r.refusal)
  derive_promised = promised _ _ _ _ (λ a r e p. (p, shape_leaves a.0 a.1.0 a.1.1.0)) _ (λ a. derive_tells a.0 a.1.0 a.1.1.0)

  -- resting and waking: the record alone
  pub rest_promised : Promised (rest-reads.Post κs) (λ a r. as_updated a.0 r) (λ a e. tt) (λ a. rest_call a.0) (λ (r : Updated). r.refusal)
  rest_promised = promised _ _ _ _ (λ a r e p. (p, mark_leaves a.0 at_rest)) _ (λ a. mark_tells a.0 at_rest)

  pub wake_promised : Promised (wake-reads.Post κs) (λ a r. as_updated a.0 r) (λ a e. tt) (λ a. wake_call a.0) (λ (r : Updated). r.refusal)
  wake_promised = promised _ _ _ _ (λ a r e p. (p, mark_leaves a.0 awake)) _ (λ a. mark_tells a.0 awake)

-- a verdict, with any reading of its number
module _ (book : Book) (ring : List ℕ) (window amount : ℕ) where
  pub verdict_leaves : ring ≡ left_of (verdict_call book ring window amount)
  unfolding verdict_call
  verdict_leaves = asks_leaves (verdict_call book ring window amount) refl

  pub verdict_tells : {number_in : Ruling → ℕ} → ((notice : Notice) → number_in (Told notice) ≡ 0)
      → ((number : ℕ) → number_in (Refused number) ≡ number) → Tells number_in (verdict_call book ring window amount)
  unfolding verdict_call
  verdict_tells told refused = tells tt (told _) refused

-- In `a` stand the arguments in their order, the ring among them, in `e` the same as the call returns.
module _ (κs : Lfts 1) where
  pub open_promised : Promised (open_reads.Post κs) (λ a r. as_updated no_book_at_all r) (λ a e. e.1.1.1.0.now)
      (λ a. open_call a.0 a.1.0 a.1.1.0 a.1.1.1.0.now) (λ (r : Updated). r.refusal)
  open_promised = promised _ _ _ _ (λ a r e p. p) _ (λ a. open_tells _ _ _ _)

  pub add_promised : Promised (add_reads.Post κs) (λ a r. as_updated a.0 r) (λ a e. e.1.0.now) (λ a. add_call a.0 a.1.0.now a.1.1.0)
      (λ (r : Updated). r.refusal)
  add_promised = promised _ _ _ _ (λ a r e p. p) _ (λ a. add_tells _ _ _)

  pub total_promised : Promised (total_reads.Post κs) (λ a r. as_figure r) (λ a e. a.1.0.now) (λ a. total_call a.0 a.1.0.now a.1.1.0)
      (λ (r : Figure). r.refusal)
  total_promised = promised _ _ _ _ (λ a r e p. (p, total_leaves _ _ _)) _ (λ a. total_tells _ _ _)

  pub two_totals_promised : Promised (two-totals-reads.Post κs) (λ a r. as_figures r) (λ a e. a.1.0.now)
      (λ a. two_totals_call a.0 a.1.0.now a.1.1.0 a.1.1.1.0) (λ (r : Figures). r.refusal)
  two_totals_promised = promised _ _ _ _ (λ a r e p. (p, two_totals_leaves _ _ _ _)) _ (λ a. two_totals_tells _ _ _ _)

  pub far_promised : Promised (far_reads.Post κs) (λ a r. as_window r) (λ a e. a.1.0.now) (λ a. how_far_call a.0 a.1.0.now a.1.1.0)
      (λ (r : Window). r.refusal)
  far_promised = promised _ _ _ _ (λ a r e p. (p, far_leaves _ _ _)) _ (λ a. far_tells _ _ _)

  pub verdict_promised : Promised (verdict-reads.Post κs) (λ a r. as_ruling r) (λ a e. a.1.0.now)
      (λ a. verdict_call a.0 a.1.0.now a.1.1.0 a.1.1.1.0) refusal_in
  verdict_promised =
      promised _ _ _ _ (λ a r e p. (p, verdict_leaves _ _ _ _)) _ (λ a. verdict_tells _ _ _ _ (λ notice. refl) (λ number. refl))

-- a run of counts, which are lent beside the ring
pub run_promised : (κs : Lfts 2) → Promised (run_reads.Post κs) (λ a r. as_ran a.0 r) (λ a e. e.1.0.now)
    (λ a. run_call a.0 a.1.0.now a.1.1.0.now) (λ (r : Ran). r.refusal)
run_promised κs = promised _ _ _ _ (λ a r e p. p) _ (λ a. run_tells _ _ _)
