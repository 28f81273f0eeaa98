-- A refusal hands the record back and leaves the ring, with the place of the first count above L where there is one; and without a refusal all
-- counts are added.
use Rattle.std.proofs.Common.{◌≡◌, ℕ, zero, suc, List, [], ◌∷◌, length, Some, None, Result, Err, sym, refl, ap, ◌∙◌, arith, rules}
use Rattle.refusals.specs.declared.Refusal.{Refusal}
use Rattle.refusals.specs.declared.Refusal.TheVariants.{ItemTooLarge}
use Rattle.refusals.specs.Refused.{number_in}
use Rattle.refusals.specs.Numbers.{item_too_large}
use Rattle.book.specs.declared.Book.{Book}
use Rattle.book.specs.declared.RunRefusal.TheVariants.{Refused}
use Rattle.book.specs.declared.known.Known.{Known}
use Rattle.book.specs.OrNone.{unless_0}
use Rattle.book.specs.RunOfCounts.{any_above, added_all, added_all_ring}
use Rattle.book.specs.Calls.{counts_fault, run_call}
use Rattle.book.specs.Judged.{JudgedTaking}
use Rattle.book.specs.Told.{as_ran}
use Rattle.book.proofs.JudgedFirst.{JudgedFirst, judged_first}
use Rattle.book.proofs.LookingAtAll.{place_0, place_some}
use Rattle.book.proofs.RunRefused.{judged_no_place}
use Rattle.book.proofs.run.Goals as goal

judged : (book : Book) (ring counts : List ℕ) {found : Result Known Refusal} → JudgedTaking book (length ring) found
    → JudgedFirst book ring found (counts_fault book counts ∷ []) (run_call book ring counts)
unfolding run_call
judged book ring counts told = judged_first book ring _ _ (run_call book ring counts) refl told

-- what the search for a place tells
named : (found n : ℕ) → Some found ≡ unless_0 n → (found ≡ n) × (n ≡ 0 → ⊥)
named found zero e = absurd cc
named found (suc n) e = (cc, λ z. omega (arith, z))

none : (n : ℕ) → None ≡ unless_0 n → n ≡ 0
none zero e = refl
none (suc n) e = absurd cc

pub returns-in_err-known : goal.returns-in_err-known
unfolding run_call
returns-in_err-known c =
    let a = c.args in
    let refusal = c.in_err-known.field-0.0 in
    let back : c.from_residual.result ≡ Err (Refused refusal) = search rules in
    let refused = (judged a.book a.ring.now a.counts.now c.takes.ensures).refused _ c.in_err-known.was in
    let nowhere = judged_no_place a.book (length a.ring.now) a.counts.now (sym (ap number_in c.in_err-known.was) ∙ c.takes.ensures.refusal_is) in
    (ap (as_ran a.book) back ∙ rw nowhere at refused.0, refused.1)

pub returns-in-Some : goal.returns-in-Some
unfolding run_call
returns-in-Some c =
    let a = c.args in
    let place = named _ _ (sym c.in-Some.is ∙ c.place_above.ensures) in
    let above = place_some a.book.bound a.counts.now place.1 in
    let refused = (judged a.book a.ring.now a.counts.now c.takes.ensures).own_refused _ c.in_ok-known.was ItemTooLarge (rw above) in
    (ap (λ (p : ℕ). record { refusal = item_too_large; place = p; book = a.book }) place.0 ∙ refused.0, refused.1)

pub add_all-requires : goal.add_all-requires
add_all-requires c =
    let a = c.args in
    let missing = none _ (sym c.in_default.is ∙ c.place_above.ensures) in
    let j = judged a.book a.ring.now a.counts.now c.takes.ensures in
    let same = j.same _ c.in_ok-known.was in
    (j.room _ c.in_ok-known.was, ap (λ (b : Book). any_above b.bound a.counts.now) same ∙ place_0 a.book.bound a.counts.now missing)

pub returns : goal.returns
unfolding run_call
returns c =
    let a = c.args in
    let missing = none _ (sym c.in_default.is ∙ c.place_above.ensures) in
    let j = judged a.book a.ring.now a.counts.now c.takes.ensures in
    let same = j.same _ c.in_ok-known.was in
    let given = j.taken _ c.in_ok-known.was (rw (place_0 a.book.bound a.counts.now missing)) in (
      ap (λ (b : Book). record { refusal = 0; place = 0; book = b }) (c.add_all.ensures.0 ∙ ap (λ (b : Book). added_all b a.counts.now) same)
          ∙ given.0,
      c.add_all.ensures.1 ∙ ap (λ (b : Book). added_all_ring b a.ring.now a.counts.now) same ∙ given.1,
    )
