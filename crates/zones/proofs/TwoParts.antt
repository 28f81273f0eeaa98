-- Zones judged in two parts, those below one of them and the rest: what is told of the first part goes before what is told of the rest, and their bytes
-- are added up.
-- Assumes nothing.
use Prim.Native.Nat.{ℕ, zero, suc, ◌+◌, ◌≤◌}
use native.Mathlib.Nat.{add-zero}
use native.Mathlib.Omega.{arith}
use mathlib.Core.List.{List, [], ◌∷◌}
use mathlib.Core.Path.{◌≡◌, refl, sym, ap, ◌∙◌}
use lib.ListN.{length, take, drop}
use Rattle.refusals.specs.Call.{by_refusal}
use Rattle.book.specs.declared.Book.{Book}
use Rattle.book.specs.Record.{bytes_of}
use Rattle.zones.specs.declared.told.Zoned.{Zoned}
use Rattle.zones.specs.Stretches.{stretch_start, all_bytes}
use Rattle.zones.specs.Lowest.{record_refusal, record_refusals, refusal_of_lowest, lowest_zone}
use Rattle.zones.specs.InARow.{told_of, lowest_from}

-- what is told first, and where that is nothing, what is told later
abbrev pub then_told : Zoned → Zoned → Zoned
then_told first later = by_refusal first.refusal later (λ number. first)

-- a refusal that is told first is told
pub told_first : (first later : Zoned) → (first.refusal ≡ 0 → ⊥) → first ≡ then_told first later
told_first first later some = by first.refusal some
  where
    by : (n : ℕ) → (n ≡ 0 → ⊥) → first ≡ by_refusal n later (λ number. first)
    by zero ne = absurd (ne refl)
    by (suc n) ne = refl

-- THE LOWEST of a list is that of its first part, or of the rest
lowest_apart : (first k : ℕ) (numbers : List ℕ)
    → lowest_from first numbers ≡ then_told (lowest_from first (take k numbers)) (lowest_from (first + k) (drop k numbers))
unfolding refusal_of_lowest lowest_zone
lowest_apart first zero numbers = ap (λ (zone : ℕ). lowest_from zone numbers) (sym (add-zero first))
lowest_apart first (suc k) [] = refl
lowest_apart first (suc k) (suc number ∷ later) = refl
lowest_apart first (suc k) (zero ∷ later) =
    moved first later ∙ lowest_apart (suc first) k later
    ∙ (λ i. then_told (sym (moved first (take k later)) i) (lowest_from (further i) (drop k later)))
  where
    -- behind a 0 it stands one place further
    moved : (from : ℕ) (numbers : List ℕ) → lowest_from from (zero ∷ numbers) ≡ lowest_from (suc from) numbers
    moved from numbers =
        let e : from + suc (lowest_zone numbers) ≡ suc from + lowest_zone numbers = omega arith in
        ap (told_of (refusal_of_lowest numbers)) e

    further : suc first + k ≡ first + suc k
    further = omega arith

records_take : (k : ℕ) (zones : List Book) → take k (record_refusals zones) ≡ record_refusals (take k zones)
unfolding record_refusals
records_take zero zones = refl
records_take (suc k) [] = refl
records_take (suc k) (book ∷ zones) = ap (λ (l : List ℕ). record_refusal book ∷ l) (records_take k zones)

records_drop : (k : ℕ) (zones : List Book) → drop k (record_refusals zones) ≡ record_refusals (drop k zones)
unfolding record_refusals
records_drop zero zones = refl
records_drop (suc k) [] = refl
records_drop (suc k) (book ∷ zones) = records_drop k zones

-- ZONES in two parts, those below zone `low` and the rest
pub record Parted (zones : List Book) (low : ℕ) (before rest : List Book) : Type 0 where
  pub front : before ≡ take low zones
  pub back : rest ≡ drop low zones

start_at : (k : ℕ) (zones : List Book) → k ≤ length zones → stretch_start zones k ≡ all_bytes (take k zones)
unfolding stretch_start
start_at zero zones within = refl
start_at (suc k) [] within = absurd (omega arith)
start_at (suc k) (book ∷ zones) within = ap (λ (n : ℕ). bytes_of book + n) (start_at k zones (omega arith))

bytes_at : (k : ℕ) (zones : List Book) → all_bytes zones ≡ all_bytes (take k zones) + all_bytes (drop k zones)
unfolding stretch_start
bytes_at zero zones = omega arith
bytes_at (suc k) [] = refl
bytes_at (suc k) (book ∷ zones) = omega (arith, bytes_at k zones)

module _ {zones before rest : List Book} {low : ℕ} (parts : Parted zones low before rest) where
  -- the lowest that is no book
  pub books_apart : lowest_from 0 (record_refusals zones)
      ≡ then_told (lowest_from 0 (record_refusals before)) (lowest_from low (record_refusals rest))
  books_apart =
      let from : 0 + low ≡ low = omega arith in
      lowest_apart 0 low (record_refusals zones)
      ∙ (λ i. then_told (lowest_from 0 (records_take low zones i)) (lowest_from (from i) (records_drop low zones i)))
      ∙ (λ i. then_told (lowest_from 0 (record_refusals (sym parts.front i))) (lowest_from low (record_refusals (sym parts.back i))))

  -- the rest starts behind the first part
  pub start_apart : low ≤ length zones → all_bytes before ≡ stretch_start zones low
  start_apart within = ap (λ (l : List Book). all_bytes l) parts.front ∙ sym (start_at low zones within)

  -- and both together are all
  pub bytes_apart : all_bytes before + all_bytes rest ≡ all_bytes zones
  bytes_apart = (λ i. all_bytes (parts.front i) + all_bytes (parts.back i)) ∙ sym (bytes_at low zones)
