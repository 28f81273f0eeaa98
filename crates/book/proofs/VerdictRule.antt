-- What a verdict that is told says of the figure, and of the book's rest.
-- Assumes nothing.
use Rattle.std.proofs.Common.{◌≡◌, ℕ, ◌+◌, ◌-◌, ◌<◌, ◌≤◌, Bool, true, false, cond, ltb, leb, sym, refl, ap, arith, ltb-true, leb-true}
use Rattle.book.specs.declared.Book.{Book}
use Rattle.book.specs.declared.verdicts.Verdict.{Verdict}
use Rattle.book.specs.declared.verdicts.Verdict.TheVariants.{Live, Frozen, Undecided, Resting}
use Rattle.book.specs.Resting.{awake, rests}
use Rattle.book.specs.Verdict.{verdict_of, verdict_now, verdict_number, figure_in}
use Rattle.book.proofs.AwakeOrAtRest.{awake_passes, rest_holds}

-- live: the figure reaches v
pub live_by : (D v f g : ℕ) → verdict_of D v f ≡ Live g → v ≤ f
unfolding verdict_of
live_by D v f g e = by (leb v f) (ltb (f + D - 1) v) refl e
  where
    by : (a b : Bool) → leb v f ≡ a → cond a (Live f) (cond b (Frozen f) (Undecided f)) ≡ Live g → v ≤ f
    by true b q r = leb-true v f q
    by false true q r = absurd (let z : ◌≡◌ {A = ℕ} 0 1 = cc in omega arith)
    by false false q r = absurd (let z : ◌≡◌ {A = ℕ} 0 1 = cc in omega arith)

-- frozen: it is short of v by more than D − 1
pub frozen_by : (D v f g : ℕ) → verdict_of D v f ≡ Frozen g → f + D - 1 < v
unfolding verdict_of
frozen_by D v f g e = by (leb v f) (ltb (f + D - 1) v) refl e
  where
    by : (a b : Bool) → ltb (f + D - 1) v ≡ b → cond a (Live f) (cond b (Frozen f) (Undecided f)) ≡ Frozen g → f + D - 1 < v
    by true b q r = absurd (let z : ◌≡◌ {A = ℕ} 0 1 = cc in omega arith)
    by false true q r = ltb-true (f + D - 1) v q
    by false false q r = absurd (let z : ◌≡◌ {A = ℕ} 0 1 = cc in omega arith)

-- the rule over the figure has three verdicts, and resting is none of them
three_by_figure : (D v f : ℕ) → verdict_number (verdict_of D v f) ≡ 4 → ⊥
unfolding verdict_of
three_by_figure D v f = by (leb v f) (ltb (f + D - 1) v)
  where
    by : (a b : Bool) → verdict_number (cond a (Live f) (cond b (Frozen f) (Undecided f))) ≡ 4 → ⊥
    by true b e = omega arith
    by false true e = omega arith
    by false false e = omega arith

module _ (book : Book) (v f : ℕ) where
  -- resting with the figure is told of a book that rests …
  pub tells_resting : {g : ℕ} → (book.resting ≡ awake → ⊥) → g ≡ f → Resting g ≡ verdict_now book v f
  unfolding verdict_now
  tells_resting down same = rw (rest_holds book down) (ap Resting same)

  -- … and only of one that rests …
  pub resting_by : verdict_number (verdict_now book v f) ≡ 4 → book.resting ≡ awake → ⊥
  unfolding verdict_now
  resting_by e up = three_by_figure book.tolerance v f (rw (awake_passes book up) at e)

  -- … and any other verdict goes by the figure
  pub by_figure : (verdict : Verdict) → verdict_now book v f ≡ verdict → (verdict_number verdict ≡ 4 → ⊥) → verdict_of book.tolerance v f ≡ verdict
  unfolding verdict_now
  by_figure verdict e other = by (rests book) e
    where
      by : (b : Bool) → cond b (Resting f) (verdict_of book.tolerance v f) ≡ verdict → verdict_of book.tolerance v f ≡ verdict
      by true q = absurd (other (sym (ap verdict_number q)))
      by false q = q

  -- whatever it is, it carries the figure
  pub carries_figure : figure_in (verdict_now book v f) ≡ f
  unfolding verdict_now verdict_of
  carries_figure = by (rests book) (leb v f) (ltb (f + book.tolerance - 1) v)
    where
      by : (r a b : Bool) → figure_in (cond r (Resting f) (cond a (Live f) (cond b (Frozen f) (Undecided f)))) ≡ f
      by true a b = refl
      by false true b = refl
      by false false true = refl
      by false false false = refl
