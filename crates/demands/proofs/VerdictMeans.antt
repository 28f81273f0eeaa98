-- What a verdict means over the true totals (promises 3.6, C-15.4): of a good book, for a window from 1 to kept and an amount of 1 or more, one
-- is told; live, the window truly holds the amount; frozen, it truly holds less; resting comes exactly while the book rests.
-- Assumes nothing.
use Prim.Native.Nat.{ℕ, ◌≤◌, ◌<◌}
use native.Mathlib.Omega.{arith}
use mathlib.Core.List.{List}
use mathlib.Core.Path.{◌≡◌, sym, ap, subst, ◌∙◌}
use Rattle.book.specs.declared.Book.{Book}
use Rattle.book.specs.declared.verdicts.Verdict.{Verdict}
use Rattle.book.specs.declared.verdicts.Verdict.TheVariants.{Live, Frozen}
use Rattle.book.specs.declared.verdicts.Notice.{Notice}
use Rattle.book.specs.Answers.{Ruling}
use Rattle.book.specs.Answers.{Told}
use Rattle.book.specs.Figure.{figure}
use Rattle.book.specs.Verdict.{verdict_now, verdict_number, figure_in}
use Rattle.book.proofs.Promises.{verdict_gives, verdict_at_rest, live_by, frozen_by, resting_by, by_figure, carries_figure}
use Rattle.demands.specs.History.{Good, true_total}
use Rattle.demands.specs.Demand2.{Bounds}
use Rattle.demands.specs.VerdictMeans.{Says, VerdictMeans}
use Rattle.demands.proofs.GoodUsable.{good_usable, verdict_told}
use Rattle.demands.proofs.Demand2.{good_bounds}

told_same : {a b : Notice} → ◌≡◌ {A = Ruling} (Told a) (Told b) → a ≡ b
told_same e = cc

module _ (book : Book) (ring items : List ℕ) (good : Good book ring items) (window v : ℕ) (some : 0 < window) (asked : 0 < v)
    (kept : window ≤ book.kept) where
  gives : Says book ring window v (verdict_now book v (figure book ring window))
  gives = verdict_gives book ring window v (verdict_told book ring items good window v some asked kept)

  -- so whatever it says is that verdict
  said : {verdict : Verdict} → Says book ring window v verdict → verdict_now book v (figure book ring window) ≡ verdict
  said e = ap (λ (n : Notice). n.verdict) (told_same (sym gives ∙ e))

  bounds : Bounds (figure book ring window) (true_total window items) book.tolerance
  bounds = good_bounds book ring items good window kept

  pub verdict_means : VerdictMeans book ring window v items
  verdict_means =
      record {
        told = gives;
        live_holds = λ f e. (let by_rule = by_figure book v (figure book ring window) (Live f) (said e) (λ four. omega arith) in
            omega (arith, live_by book.tolerance v (figure book ring window) f by_rule, bounds.not_above));
        frozen_less = λ f e. (let by_rule = by_figure book v (figure book ring window) (Frozen f) (said e) (λ four. omega arith) in
            omega (arith, frozen_by book.tolerance v (figure book ring window) f by_rule, bounds.not_far_below));
        resting_while = verdict_at_rest book ring window v (good_usable book ring items good) asked some kept;
        resting_only = λ f e. resting_by book v (figure book ring window) (ap verdict_number (said e));
        figure_within = λ verdict e.
            subst (λ f. Bounds f (true_total window items) book.tolerance)
            (sym (carries_figure book v (figure book ring window)) ∙ ap figure_in (said e)) bounds;
      }
