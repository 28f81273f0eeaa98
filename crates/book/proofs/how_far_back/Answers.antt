-- A refusal comes with 0, also where nothing reaches the amount, and without one the window is there.
use Rattle.std.proofs.Common.{◌≡◌, ℕ, zero, suc, List, [], ◌∷◌, length, Result, Ok, Err, sym, refl, ap, ◌∙◌, arith, rules, eq-eqb, ne_eqb}
use Rattle.std.specs.Option.{ok_or}
use Rattle.refusals.specs.declared.Refusal.{Refusal}
use Rattle.refusals.specs.declared.Refusal.TheVariants.{ZeroAsked, NotReached}
use Rattle.refusals.specs.Call.{result_of}
use Rattle.book.specs.declared.Book.{Book}
use Rattle.book.specs.declared.known.Known.{Known}
use Rattle.book.specs.HowFar.{how_far_back}
use Rattle.book.specs.OrNone.{unless_0}
use Rattle.book.specs.Calls.{zero_fault, reach_fault, how_far_call}
use Rattle.book.specs.Judged.{Judged}
use Rattle.book.specs.Told.{as_window}
use Rattle.book.proofs.JudgedFirst.{JudgedFirst, judged_first}
use Rattle.book.proofs.how_far_back.Goals as goal

module _ (book : Book) (ring : List ℕ) (amount : ℕ) {found : Result Known Refusal} (told : Judged book (length ring) found) where
  judged : JudgedFirst book ring found (zero_fault amount ∷ reach_fault (how_far_back book ring amount) ∷ []) (how_far_call book ring amount)
  unfolding how_far_call
  judged = judged_first book ring _ _ (how_far_call book ring amount) refl told

  -- the window is named, or 9 is given
  named : {known : Known} → found ≡ Ok known → (amount ≡ 0 → ⊥)
      → as_window (ok_or (unless_0 (how_far_back book ring amount)) NotReached) ≡ result_of (how_far_call book ring amount)
  unfolding how_far_call
  named passed some = by (how_far_back book ring amount) refl
    where
      by : (window : ℕ) → how_far_back book ring amount ≡ window
          → as_window (ok_or (unless_0 window) NotReached) ≡ result_of (how_far_call book ring amount)
      by zero e = (judged.own_refused _ passed NotReached (rw (ne_eqb amount 0 some, e))).0
      by (suc window) e =
          let reached = ne_eqb (how_far_back book ring amount) 0 (λ z. omega (arith, z, e)) in
          ap (λ (w : ℕ). record { refusal = 0; window = w }) (sym e) ∙ (judged.taken _ passed (rw (ne_eqb amount 0 some, reached))).0

pub returns-in_err-known : goal.returns-in_err-known
unfolding how_far_call
returns-in_err-known c =
    let back : c.from_residual.result ≡ Err c.in_err-known.field-0.0 = search rules in
    ap as_window back ∙ ((judged c.args.book c.args.ring.now c.args.amount c.usable.ensures).refused _ c.in_err-known.was).0

pub returns-then-amount-eq0 : goal.returns-then-amount-eq0
unfolding how_far_call
returns-then-amount-eq0 c =
    let zero = eq-eqb c.args.amount 0 c.if-amount-eq0.true in
    ((judged c.args.book c.args.ring.now c.args.amount c.usable.ensures).own_refused _ c.in_ok-known.was ZeroAsked (rw zero)).0

pub returns : goal.returns
returns c =
    let same = (judged c.args.book c.args.ring.now c.args.amount c.usable.ensures).same _ c.in_ok-known.was in
    let told = c.how_far.ensures ∙ ap (λ (b : Book). unless_0 (how_far_back b c.args.ring.now c.args.amount)) same in
    let found : c.ok_or.result ≡ ok_or (unless_0 (how_far_back c.args.book c.args.ring.now c.args.amount)) NotReached = cc in
    ap as_window found ∙ named c.args.book c.args.ring.now c.args.amount c.usable.ensures c.in_ok-known.was c.if-amount-eq0.false
