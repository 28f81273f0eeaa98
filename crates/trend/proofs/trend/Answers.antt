-- `trend::trend`: two totals seen as one number, and no step leaves the range of its type, whatever record and ring.
-- Assumes nothing.
use Rattle.std.proofs.Common.{◌≡◌, ℕ, ◌*◌, ◌^◌, ◌<◌, List, sym, ap, subst, ◌∙◌, arith, w64, ℤ}
use Rattle.std.proofs.lemmas.Result.{err_from_is_err_and}
use Rattle.refusals.specs.Call.{result_of}
use Rattle.book.specs.declared.Book.{Book}
use Rattle.book.specs.Answers.{Figures}
use Rattle.book.specs.Calls.{two_totals_call}
use Rattle.trend.proofs.Differences.{taken_fits, taken_is}
use Rattle.trend.proofs.TotalsAsTrend.{as_trend, both_small, totals_as_trend}
use Rattle.trend.proofs.trend.Goals as goal

-- both figures are far from 2^63
small : (book : Book) (ring : List ℕ) (window : ℕ) (both : Figures) → both ≡ result_of (two_totals_call book ring window window)
    → (both.shorter < 2 ^ 56) × (both.longer < 2 ^ 56)
small book ring window both e =
    subst (λ (r : Figures). (r.shorter < 2 ^ 56) × (r.longer < 2 ^ 56)) (sym e) (both_small book ring window window)

pub returns-in_err-both : goal.returns-in_err-both
returns-in_err-both c =
    let p = err_from_is_err_and c.from_residual.result c.from_residual.ensures.1 in
    rw (p.1, p.2) (ap as_trend c.in_err-both.ensures ∙ totals_as_trend c.args.book c.args.ring.now c.args.window)

pub overflow_mul-result : goal.overflow_mul-result
overflow_mul-result c = omega (arith, small _ _ _ _ c.in_ok-both.ensures)

pub overflow_cast-result : goal.overflow_cast-result
overflow_cast-result c = record { sfits = omega (arith, small _ _ _ _ c.in_ok-both.ensures) }

pub overflow_cast-result-2 : goal.overflow_cast-result-2
overflow_cast-result-2 c = record { sfits = omega (arith, small _ _ _ _ c.in_ok-both.ensures) }

pub overflow_sub-result : goal.overflow_sub-result
overflow_sub-result c =
    let s = small _ _ _ _ c.in_ok-both.ensures in
    taken_fits w64 (2 * c.in_ok-both.both.shorter) c.in_ok-both.both.longer (omega (arith, s)) (omega (arith, s))

pub returns : goal.returns
returns c =
    let s = small _ _ _ _ c.in_ok-both.ensures in
    ap (λ (t : ℤ). record { refusal = 0; trend = t })
    (taken_is w64 (2 * c.in_ok-both.both.shorter) c.in_ok-both.both.longer (omega (arith, s)) (omega (arith, s)))
    ∙ ap as_trend c.in_ok-both.ensures ∙ totals_as_trend c.args.book c.args.ring.now c.args.window
