-- Uniqueness of the results themselves (promise U.1): a form in which results are seen tells them apart, so that a statement which settles how a
-- result looks settles the result.
-- Assumes nothing.
use Rattle.std.proofs.Common.{◌≡◌, ℕ, refl, sym, ap, ◌∙◌}
use Rattle.std.specs.Prelude.{Result, Ok, Err}
use Rattle.refusals.specs.declared.Refusal.{Refusal}
use Rattle.refusals.specs.Refused.{number_of, number_in, in_numbers}
use Rattle.refusals.specs.Demand1.{Settles}
use Rattle.refusals.proofs.Numbers.{number_not_0, number_once}

-- A result in numbers is the one result that looks so, where what is given can be told apart in its form, and each form tells its number.
pub seen_apart : {T Told : Type 0} (given : T → Told) (back : ℕ → Told) (number : Told → ℕ)
    → ((x : T) → number (given x) ≡ 0) → ((n : ℕ) → number (back n) ≡ n) → ((x y : T) → given x ≡ given y → x ≡ y)
    → (r r' : Result T Refusal) → in_numbers given back r ≡ in_numbers given back r' → r ≡ r'
seen_apart given back number none own apart (Ok x) (Ok y) e = ap Ok (apart x y e)
seen_apart given back number none own apart (Ok x) (Err refusal) e =
    absurd (number_not_0 refusal (sym (own (number_of refusal)) ∙ sym (ap number e) ∙ none x))
seen_apart given back number none own apart (Err refusal) (Ok y) e =
    absurd (number_not_0 refusal (sym (own (number_of refusal)) ∙ ap number e ∙ none y))
seen_apart given back number none own apart (Err one) (Err other) e =
    ap Err (number_once one other (sym (own (number_of one)) ∙ ap number e ∙ own (number_of other)))

-- the number alone tells them apart where nothing is given
pub number_apart : (r r' : Result (Unit {0}) Refusal) → number_in r ≡ number_in r' → r ≡ r'
number_apart (Ok x) (Ok y) e = refl
number_apart (Ok x) (Err refusal) e = absurd (number_not_0 refusal (sym e))
number_apart (Err refusal) (Ok y) e = absurd (number_not_0 refusal e)
number_apart (Err one) (Err other) e = ap Err (number_once one other e)

-- UNIQUENESS of the result itself, and not of its form alone
pub one_outcome : {Args Result Exit Shown Lent : Type 0} (Post : Args → Result → Exit → Type 0) (shown : Args → Result → Shown)
    (after : Args → Exit → Lent) → Settles Post shown after
    → ((a : Args) (r r' : Result) (e e' : Exit) → Post a r e → Post a r' e' → shown a r ≡ shown a r' → r ≡ r')
    → Settles Post (λ a r. r) after
one_outcome Post shown after settled apart a r r' e e' p p' =
    let s = settled a r r' e e' p p' in
    (apart a r r' e e' p p' s.0, s.1)
