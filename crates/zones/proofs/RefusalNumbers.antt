-- Which numbers the refusals of zones are: 8 of a record, 17 or 7 of taking a count.
-- Assumes nothing.
use Prim.Native.Nat.{ℕ, zero, suc}
use native.Mathlib.Omega.{arith}
use mathlib.Core.Bool.{Bool, true, false, cond}
use mathlib.Core.List.{List, [], ◌∷◌}
use mathlib.Core.Logic.{◌⊎◌, inl, inr}
use mathlib.Core.Path.{◌≡◌, refl, sym, ap, ◌∙◌}
use Rattle.std.specs.Prelude.{Result, Ok, Err, is_err}
use lib.Dec.{ltb}
use Rattle.refusals.specs.declared.Refusal.{Refusal}
use Rattle.refusals.specs.Numbers.{no_book, book_rests, item_too_large}
use Rattle.refusals.specs.Refused.{number_in}
use Rattle.refusals.specs.First.{or_else}
use Rattle.refusals.proofs.Laws.{first_only}
use Rattle.refusals.proofs.Numbers.{number_not_0}
use Rattle.book.specs.declared.Book.{Book}
use Rattle.book.specs.Resting.{rests}
use Rattle.book.specs.Calls.{record_faults}
use Rattle.zones.specs.Named.{names_zone}
use Rattle.zones.specs.Lowest.{record_refusal, taking_refusal, record_refusals, taking_refusals, refusal_of_lowest}

-- what holds of both numbers holds of the one before the other
or_else_either : (P : ℕ → Type 0) (a b : ℕ) → P a → P b → P (or_else a b)
or_else_either P zero b pa pb = pb
or_else_either P (suc a) b pa pb = pa

-- a record's refusal is 8, if there is one, and so is the lowest
pub records_8 : (zones : List Book) → (refusal_of_lowest (record_refusals zones) ≡ 0 → ⊥) → refusal_of_lowest (record_refusals zones) ≡ no_book
unfolding record_refusals refusal_of_lowest
records_8 [] = λ some. absurd (some refl)
records_8 (book ∷ zones) =
    or_else_either (λ number. (number ≡ 0 → ⊥) → number ≡ no_book) (record_refusal book) (refusal_of_lowest (record_refusals zones))
    (first_only no_book (record_faults book) tt) (records_8 zones)

-- TAKING: the refusal of a zone with a count is 17 or 7, if there is one
taking_17_or_7 : (book : Book) (item : ℕ) → (taking_refusal book item ≡ 0 → ⊥)
    → (taking_refusal book item ≡ book_rests) ⊎ (taking_refusal book item ≡ item_too_large)
taking_17_or_7 book item = by (rests book) (ltb book.bound item)
  where
    by : (a b : Bool) → let n = or_else (cond a book_rests 0) (or_else (cond b item_too_large 0) 0) in
        (n ≡ 0 → ⊥) → (n ≡ book_rests) ⊎ (n ≡ item_too_large)
    by true b some = inl refl
    by false true some = inr refl
    by false false some = absurd (some refl)

-- and so is the lowest
pub takings_17_or_7 : (zones : List Book) (counts : List ℕ) → (refusal_of_lowest (taking_refusals zones counts) ≡ 0 → ⊥)
    → (refusal_of_lowest (taking_refusals zones counts) ≡ book_rests) ⊎ (refusal_of_lowest (taking_refusals zones counts) ≡ item_too_large)
unfolding taking_refusals refusal_of_lowest
takings_17_or_7 [] counts = λ some. absurd (some refl)
takings_17_or_7 (book ∷ zones) [] = λ some. absurd (some refl)
takings_17_or_7 (book ∷ zones) (count ∷ counts) =
    or_else_either (λ number. (number ≡ 0 → ⊥) → (number ≡ book_rests) ⊎ (number ≡ item_too_large))
    (taking_refusal book count) (refusal_of_lowest (taking_refusals zones counts))
    (taking_17_or_7 book count) (takings_17_or_7 zones counts)

-- so it is never 8
pub takings_not_8 : (zones : List Book) (counts : List ℕ) → refusal_of_lowest (taking_refusals zones counts) ≡ no_book → ⊥
takings_not_8 zones counts e = by (takings_17_or_7 zones counts (λ none. omega (arith, e, none)))
  where
    by : (refusal_of_lowest (taking_refusals zones counts) ≡ book_rests) ⊎ (refusal_of_lowest (taking_refusals zones counts) ≡ item_too_large) → ⊥
    by (inl f) = omega (arith, e, f)
    by (inr f) = omega (arith, e, f)

-- a record's own refusal names its zone, and so does that of taking a count
pub record_names : (book : Book) → (record_refusal book ≡ 0 → ⊥) → names_zone (record_refusal book) ≡ true
record_names book some = ap names_zone (first_only no_book (record_faults book) tt some)

pub taking_names : (book : Book) (item : ℕ) → (taking_refusal book item ≡ 0 → ⊥) → names_zone (taking_refusal book item) ≡ true
taking_names book item some = by (taking_17_or_7 book item some)
  where
    by : (taking_refusal book item ≡ book_rests) ⊎ (taking_refusal book item ≡ item_too_large) → names_zone (taking_refusal book item) ≡ true
    by (inl e) = ap names_zone e
    by (inr e) = ap names_zone e

-- so an answer that tells such a refusal, or none, names a zone exactly where it is refused
pub err_names : {T : Type 0} (answer : Result T Refusal) (number : ℕ) → number_in answer ≡ number → ((number ≡ 0 → ⊥) → names_zone number ≡ true)
    → is_err answer ≡ names_zone (number_in answer)
err_names (Ok given) number is names = refl
err_names (Err refusal) number is names = sym (ap names_zone is ∙ names (λ none. number_not_0 refusal (is ∙ none)))
