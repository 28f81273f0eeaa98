-- Where the walk over a header stands after some bytes, what it does whatever the numbers are, and that it can always be completed.
-- Assumes nothing.
use Prim.Native.Nat.{ℕ}
use mathlib.Core.Bool.{Bool, true, false, cond}
use mathlib.Core.List.{List, [], ◌∷◌, ◌++◌}
use mathlib.Core.Path.{◌≡◌, refl, ap, ◌∙◌, subst}
use mathlib.Core.Logic.{◌⊎◌, inl, inr}
use lib.Dec.{eqb}
use Rattle.refusals.specs.Numbers.{wrong_byte, number_out_of_range}
use Rattle.decimals.specs.Decimal.{digit}
use Rattle.image.specs.Bytes.{white}
use Rattle.image.specs.Tests.{Test}
use Rattle.image.specs.Seen.{Seen}
use Rattle.image.specs.Step.{stopped, found}
use Rattle.image.proofs.ByteByByte.{Place, in_sign, in_gap, in_digits, Onward, goes, fails, ends, entering, onward, carried, walk}

-- where it stands
abbrev pub further_on : (Place → Onward) → Onward → Onward
further_on again (goes place) = again place
further_on again (fails refusal) = fails refusal
further_on again (ends numbers) = ends numbers

unfoldable pub after : Place → List Seen → Onward
after place [] = goes place
after place (seen ∷ l) = further_on (λ next. after next l) (onward place seen.byte)

-- what that says of the walk
module _ (end : ℕ) where
  pub walk_on : (place : Place) (l rest : List Seen) {next : Place} → after place l ≡ goes next → walk end place (l ++ rest) ≡ walk end next rest
  unfolding after walk
  walk_on place [] rest e = ap (λ (p : Place). walk end p rest) (cc)
  walk_on place (seen ∷ l) rest {next} e = by (onward place seen.byte) (λ p. walk_on p l rest) e
    where
      by : (o : Onward) → ((p : Place) → after p l ≡ goes next → walk end p (l ++ rest) ≡ walk end next rest)
          → further_on (λ p. after p l) o ≡ goes next → carried seen (l ++ rest) (λ p. walk end p (l ++ rest)) o ≡ walk end next rest
      by (goes p) again e = again p e
      by (fails refusal) again e = cc
      by (ends numbers) again e = cc

  pub walk_fails : (place : Place) (l rest : List Seen) {refusal : ℕ} → after place l ≡ fails refusal → walk end place (l ++ rest) ≡ stopped refusal
  unfolding after walk
  walk_fails place [] rest e = cc
  walk_fails place (seen ∷ l) rest {refusal} e = by (onward place seen.byte) (λ p. walk_fails p l rest) e
    where
      by : (o : Onward) → ((p : Place) → after p l ≡ fails refusal → walk end p (l ++ rest) ≡ stopped refusal)
          → further_on (λ p. after p l) o ≡ fails refusal → carried seen (l ++ rest) (λ p. walk end p (l ++ rest)) o ≡ stopped refusal
      by (goes p) again e = again p e
      by (fails other) again e = ap stopped (cc)
      by (ends numbers) again e = cc

  pub walk_ends : (place : Place) (l : List Seen) {numbers : List ℕ} → after place l ≡ ends numbers
      → (used : ℕ) × (rest : List Seen) × (walk end place l ≡ found numbers used rest)
  unfolding after walk
  walk_ends place [] e = cc
  walk_ends place (seen ∷ l) {numbers} e = by (onward place seen.byte) (λ p. walk_ends p l) e
    where
      by : (o : Onward) → ((p : Place) → after p l ≡ ends numbers → (used : ℕ) × (rest : List Seen) × (walk end p l ≡ found numbers used rest))
          → further_on (λ p. after p l) o ≡ ends numbers
          → (used : ℕ) × (rest : List Seen) × (carried seen l (λ p. walk end p l) o ≡ found numbers used rest)
      by (goes p) again e = again p e
      by (fails other) again e = cc
      by (ends others) again e = (seen.upto, l, ap (λ (n : List ℕ). found n seen.upto l) (cc))

-- one byte more
pub after_one : (place : Place) (l : List Seen) (seen : Seen) {next : Place} → after place l ≡ goes next
    → after place (l ++ (seen ∷ [])) ≡ onward next seen.byte
unfolding after
after_one place [] seen {next} e =
    let same : place ≡ next = cc in
    ap (λ (p : Place). further_on (λ q. goes q) (onward p seen.byte)) same ∙ by (onward next seen.byte)
  where
    by : (o : Onward) → further_on (λ q. goes q) o ≡ o
    by (goes p) = refl
    by (fails refusal) = refl
    by (ends numbers) = refl
after_one place (first ∷ l) seen {next} e = by (onward place first.byte) (λ p. after_one p l seen) e
  where
    by : (o : Onward) → ((p : Place) → after p l ≡ goes next → after p (l ++ (seen ∷ [])) ≡ onward next seen.byte)
        → further_on (λ p. after p l) o ≡ goes next → further_on (λ p. after p (l ++ (seen ∷ []))) o ≡ onward next seen.byte
    by (goes p) again e = again p e
    by (fails refusal) again e = cc
    by (ends numbers) again e = cc

-- a walk that fails does so at some byte
pub record FailsAt (place : Place) (l : List Seen) (refusal : ℕ) : Type 0 where
  pub first : List Seen
  pub stands : Place
  pub seen : Seen
  pub rest : List Seen
  pub split : l ≡ first ++ (seen ∷ rest)
  pub comes : after place first ≡ goes stands
  pub there : onward stands seen.byte ≡ fails refusal

pub fails_at : (place : Place) (l : List Seen) {refusal : ℕ} → after place l ≡ fails refusal → FailsAt place l refusal
unfolding after
fails_at place [] e = cc
fails_at place (seen ∷ l) {refusal} e = by (onward place seen.byte) refl (λ p. fails_at p l) e
  where
    by : (o : Onward) → onward place seen.byte ≡ o → ((p : Place) → after p l ≡ fails refusal → FailsAt p l refusal)
        → further_on (λ p. after p l) o ≡ fails refusal → FailsAt place (seen ∷ l) refusal
    by (goes p) is again e =
        let f = again p e in
        record {
          first = seen ∷ f.first;
          stands = f.stands;
          seen = f.seen;
          rest = f.rest;
          split = ap (λ (m : List Seen). seen ∷ m) f.split;
          comes = ap (further_on (λ q. after q f.first)) is ∙ f.comes;
          there = f.there;
        }
    by (fails other) is again e =
        let same : other ≡ refusal = cc in
        record { first = []; stands = place; seen = seen; rest = l; split = refl; comes = refl; there = is ∙ ap fails same }
    by (ends numbers) is again e = cc

-- and with 11 or 12
abbrev pub Numbered : Onward → Type 0
Numbered (goes place) = Unit {0}
Numbered (fails refusal) = (refusal ≡ wrong_byte) ⊎ (refusal ≡ number_out_of_range)
Numbered (ends numbers) = Unit {0}

cond_numbered : (b : Bool) (x y : Onward) → Numbered x → Numbered y → Numbered (cond b x y)
cond_numbered true x y nx ny = nx
cond_numbered false x y nx ny = ny

entering_numbered : (numbers : List ℕ) (tests : List Test) → Numbered (entering numbers tests)
entering_numbered numbers [] = tt
entering_numbered numbers (test ∷ tests) = tt

onward_numbered : (place : Place) (byte : ℕ) → Numbered (onward place byte)
onward_numbered (in_sign [] tests) byte = cond_numbered (white byte) _ _ (entering_numbered [] tests) (inl refl)
onward_numbered (in_sign (sign ∷ signs) tests) byte = cond_numbered (eqb sign byte) _ _ tt (inl refl)
onward_numbered (in_gap numbers test tests) byte = cond_numbered (white byte) _ _ tt (cond_numbered (digit byte) _ _ tt (inl refl))
onward_numbered (in_digits numbers value test tests) byte =
    cond_numbered (white byte) _ _ (cond_numbered (test value) _ _ (entering_numbered (numbers ++ (value ∷ [])) tests) (inr refl))
    (cond_numbered (digit byte) _ _ tt (inl refl))

pub onward_fails : (place : Place) (byte : ℕ) {refusal : ℕ} → onward place byte ≡ fails refusal → (refusal ≡ wrong_byte) ⊎ (refusal ≡ number_out_of_range)
onward_fails place byte e = subst Numbered e (onward_numbered place byte)

pub fails_numbered : (place : Place) (l : List Seen) {refusal : ℕ} → after place l ≡ fails refusal → (refusal ≡ wrong_byte) ⊎ (refusal ≡ number_out_of_range)
fails_numbered place l {refusal} e =
    let f = fails_at place l e in
    onward_fails f.stands f.seen.byte f.there
