-- A header is read exactly where the bytes that are seen have its form, and what has been read does not change when more bytes come.
-- Assumes nothing.
use Prim.Native.Nat.{ℕ}
use mathlib.Core.List.{List, [], ◌∷◌, ◌++◌}
use mathlib.Core.Path.{◌≡◌, refl, sym, ap, ◌∙◌}
use Rattle.refusals.specs.Numbers.{ends_too_early}
use Rattle.image.specs.Bytes.{letter_p}
use Rattle.image.specs.Tests.{Test}
use Rattle.image.specs.Seen.{Seen, bytes_of, reach}
use Rattle.image.specs.Step.{Step, stopped, found}
use Rattle.image.specs.Fields.{header_fields}
use Rattle.image.specs.Format.{Header}
use Rattle.image.proofs.SeenLists.{reach_is}
use Rattle.image.proofs.ByteByByte.{Place, in_sign, Onward, goes, fails, ends, onward, carried, walk, header_walks}
use Rattle.image.proofs.BodyForms.{Formed, walk_found}
use Rattle.image.proofs.BodyRead.{header_read}

-- the bytes that a header took, and what they are
pub record HeaderTaken (sign : ℕ) (tests : List Test) (l : List Seen) (numbers : List ℕ) (used : ℕ) (rest : List Seen) : Type 0 where
  pub taken : List Seen
  pub split : l ≡ taken ++ rest
  pub header : Header sign tests numbers (bytes_of taken)
  pub uses : used ≡ reach taken

pub header_of : {sign : ℕ} {tests : List Test} {numbers : List ℕ} {l : List Seen} {used : ℕ} {rest : List Seen}
    → (f : Formed (letter_p ∷ sign ∷ []) tests numbers l used rest) → Header sign tests numbers (bytes_of f.taken)
header_of f =
    record {
      fields = f.fields;
      last = f.last;
      split = f.shape;
      written = f.written;
      writes = f.writes;
      passes = f.passes;
      one = f.one;
    }

pub header_sound : (end sign : ℕ) (tests : List Test) (l : List Seen) {numbers : List ℕ} {used : ℕ} {rest : List Seen}
    → header_fields end sign tests l ≡ found numbers used rest → HeaderTaken sign tests l numbers used rest
header_sound end sign tests l e =
    let f = walk_found end (letter_p ∷ sign ∷ []) tests l (sym (header_walks end sign tests l) ∙ e) in
    record { taken = f.taken; split = f.split; header = header_of f; uses = sym (f.uses 0) ∙ reach_is f.taken }

pub header_complete : (end sign : ℕ) (tests : List Test) (taken rest : List Seen) {numbers : List ℕ}
    → Header sign tests numbers (bytes_of taken) → header_fields end sign tests (taken ++ rest) ≡ found numbers (reach taken) rest
header_complete end sign tests taken rest {numbers} h =
    header_walks end sign tests (taken ++ rest)
    ∙ header_read end (letter_p ∷ sign ∷ []) taken rest h.fields h.last h.split h.written h.one tests (rw h.writes h.passes)
    ∙ λ i. found (h.writes i) (reach_is taken i) rest

-- a step with its rest changed, and nothing else
abbrev pub on_rest : {A : Type 0} → (List Seen → List Seen) → Step A → Step A
on_rest change (stopped refusal) = stopped refusal
on_rest change (found value used rest) = found value used (change rest)

-- a walk that does not wait for a byte is the same over more bytes, whatever a missing byte would give there
pub walk_longer : (end : ℕ) (place : Place) (l more : List Seen) → (walk ends_too_early place l ≡ stopped ends_too_early → ⊥)
    → walk end place (l ++ more) ≡ on_rest (λ rest. rest ++ more) (walk ends_too_early place l)
unfolding walk
walk_longer end place [] more goes_on = absurd (goes_on refl)
walk_longer end place (seen ∷ l) more goes_on = by (onward place seen.byte) (λ next. walk_longer end next l more) goes_on
  where
    by : (next : Onward)
        → ((place : Place) → (walk ends_too_early place l ≡ stopped ends_too_early → ⊥) → walk end place (l ++ more) ≡ on_rest (λ rest. rest ++ more) (walk ends_too_early place l))
        → (carried seen l (λ next. walk ends_too_early next l) next ≡ stopped ends_too_early → ⊥)
        → carried seen (l ++ more) (λ next. walk end next (l ++ more)) next ≡ on_rest (λ rest. rest ++ more) (carried seen l (λ next. walk ends_too_early next l) next)
    by (goes next) again goes_on = again next goes_on
    by (fails refusal) again goes_on = refl
    by (ends numbers) again goes_on = refl

pub header_longer : (end sign : ℕ) (tests : List Test) (l more : List Seen)
    → (header_fields ends_too_early sign tests l ≡ stopped ends_too_early → ⊥)
    → header_fields end sign tests (l ++ more) ≡ on_rest (λ rest. rest ++ more) (header_fields ends_too_early sign tests l)
header_longer end sign tests l more goes_on =
    header_walks end sign tests (l ++ more)
    ∙ walk_longer end (in_sign (letter_p ∷ sign ∷ []) tests) l more (λ waits. goes_on (header_walks ends_too_early sign tests l ∙ waits))
    ∙ ap (on_rest (λ rest. rest ++ more)) (sym (header_walks ends_too_early sign tests l))
