-- Calls that change nothing are calls of a good book's history (promise 2.2): a refused item or run, a total, two totals at once, how far back, a
-- verdict, a trend.
-- Each is seen by the record that its caller goes on with: the one that comes back, or, where the result has none, the one that went in.
-- Assumes nothing.
use Prim.Native.Nat.{ℕ}
use mathlib.Core.List.{List}
use mathlib.Core.Logic.{inl, inr}
use mathlib.Core.Path.{◌≡◌, refl}
use Rattle.refusals.specs.Call.{Call, refusal_of, result_of, left_of, seen_as}
use Rattle.book.specs.declared.Book.{Book}
use Rattle.book.specs.declared.told.Updated.{Updated}
use Rattle.book.specs.declared.told.Ran.{Ran}
use Rattle.book.specs.Calls.{add_call, run_call, total_call, two_totals_call, how_far_call, verdict_call}
use Rattle.book.proofs.Promises.{add_back, run_back, total_asks, two_totals_asks, far_asks, verdict_asks}
use Rattle.trend.specs.Trend.{trend_call}
use Rattle.trend.proofs.Promises.{trend_asks}
use Rattle.demands.specs.History.{Good, otherwise}

module _ (book : Book) (ring items : List ℕ) (good : Good book ring items) where
  -- a call that only asks, whatever it gives
  asked : {Result : Type 0} (call : Call Result (List ℕ)) → (call.left ≡ ring) × (call.lent ≡ ring)
      → Good (result_of (seen_as (λ r. book) call)) (left_of (seen_as (λ r. book) call)) items
  asked call same =
      otherwise book ring items good (seen_as (λ r. book) call) (record { hands_back = λ number. refl; lent_is = same.1 }) (inr (refl, same.0))

  -- a call that is refused and hands the record back, wherever its result holds it
  refused : {Result : Type 0} (record_in : Result → Book) (call : Call Result (List ℕ))
      → ((number : ℕ) → record_in (call.back number) ≡ book) × (call.lent ≡ ring) → (refusal_of call ≡ 0 → ⊥)
      → Good (result_of (seen_as record_in call)) (left_of (seen_as record_in call)) items
  refused record_in call back some =
      otherwise book ring items good (seen_as record_in call) (record { hands_back = back.0; lent_is = back.1 }) (inl some)

  pub after_refused_item : (item : ℕ) → (refusal_of (add_call book ring item) ≡ 0 → ⊥)
      → Good (result_of (seen_as (λ (r : Updated). r.book) (add_call book ring item)))
      (left_of (seen_as (λ (r : Updated). r.book) (add_call book ring item))) items
  after_refused_item item = refused (λ (r : Updated). r.book) (add_call book ring item) (add_back book ring item)

  pub after_refused_run : (counts : List ℕ) → (refusal_of (run_call book ring counts) ≡ 0 → ⊥)
      → Good (result_of (seen_as (λ (r : Ran). r.book) (run_call book ring counts)))
      (left_of (seen_as (λ (r : Ran). r.book) (run_call book ring counts))) items
  after_refused_run counts = refused (λ (r : Ran). r.book) (run_call book ring counts) (run_back book ring counts)

  pub after_total : (window : ℕ) → Good (result_of (seen_as (λ r. book) (total_call book ring window))) (left_of (seen_as (λ r. book) (total_call book ring window))) items
  after_total window = asked (total_call book ring window) (total_asks book ring window)

  pub after_two_totals : (window more : ℕ)
      → Good (result_of (seen_as (λ r. book) (two_totals_call book ring window more))) (left_of (seen_as (λ r. book) (two_totals_call book ring window more))) items
  after_two_totals window more = asked (two_totals_call book ring window more) (two_totals_asks book ring window more)

  pub after_how_far : (amount : ℕ) → Good (result_of (seen_as (λ r. book) (how_far_call book ring amount))) (left_of (seen_as (λ r. book) (how_far_call book ring amount))) items
  after_how_far amount = asked (how_far_call book ring amount) (far_asks book ring amount)

  pub after_verdict : (window amount : ℕ)
      → Good (result_of (seen_as (λ r. book) (verdict_call book ring window amount))) (left_of (seen_as (λ r. book) (verdict_call book ring window amount))) items
  after_verdict window amount = asked (verdict_call book ring window amount) (verdict_asks book ring window amount)

  pub after_trend : (window : ℕ) → Good (result_of (seen_as (λ r. book) (trend_call book ring window))) (left_of (seen_as (λ r. book) (trend_call book ring window))) items
  after_trend window = asked (trend_call book ring window) (trend_asks book ring window)
