-- What a verdict (SCOPE, Verdict) means over the true totals: live, the window truly holds the amount; frozen, it truly holds less; resting,
-- nothing but that the book rests (SCOPE, Dark hours); and the figure that any of them carries is within demand 2.
use Rattle.std.specs.Prelude.{ℕ, ◌≤◌, ◌<◌, List, ◌≡◌}
use Rattle.refusals.specs.Call.{result_of}
use Rattle.book.specs.declared.Book.{Book}
use Rattle.book.specs.declared.verdicts.Verdict.{Verdict}
use Rattle.book.specs.declared.verdicts.Verdict.TheVariants.{Live, Frozen, Resting}
use Rattle.book.specs.Answers.{Told}
use Rattle.book.specs.Figure.{figure}
use Rattle.book.specs.Verdict.{verdict_now, figure_in}
use Rattle.book.specs.Resting.{awake}
use Rattle.book.specs.Calls.{verdict_call}
use Rattle.demands.specs.History.{true_total}
use Rattle.demands.specs.Demand2.{Bounds}

module _ (book : Book) (ring : List ℕ) (window v : ℕ) where
  -- the page is told this window with this verdict
  abbrev pub Says : Verdict → Type 0
  Says verdict = result_of (verdict_call book ring window v) ≡ Told (record { window = window; verdict = verdict })

  pub record VerdictMeans (items : List ℕ) : Type 0 where
    -- a verdict is told, by the rule of SCOPE, Verdict, over the figure, or resting …
    pub told : Says (verdict_now book v (figure book ring window))
    -- … and means this
    pub live_holds : (f : ℕ) → Says (Live f) → v ≤ true_total window items
    pub frozen_less : (f : ℕ) → Says (Frozen f) → true_total window items < v
    pub resting_while : (book.resting ≡ awake → ⊥) → Says (Resting (figure book ring window))
    pub resting_only : (f : ℕ) → Says (Resting f) → book.resting ≡ awake → ⊥
    pub figure_within : (verdict : Verdict) → Says verdict → Bounds (figure_in verdict) (true_total window items) book.tolerance
