-- Laws of calls as data: what a refusal number leads to, demand 1 and uniqueness, each once for every call of every crate.
-- Assumes nothing.
use Prim.Native.Nat.{ℕ, zero, suc, ◌<◌}
use native.Mathlib.Omega.{arith}
use mathlib.Core.Bool.{Bool, true, false, not, ◌&&◌}
use mathlib.Core.List.{List, [], ◌∷◌, ◌++◌}
use mathlib.Core.Logic.{◌⊎◌, inl, inr}
use mathlib.Core.Path.{◌≡◌, refl, sym, ap, ◌∙◌}
use borrow.Author.Tests.{eqb-false}
use lib.Dec.{T, eqb}
use Rattle.refusals.specs.First.{Fault, ◌gives◌, is_refusal, passed_on, first_of, unless_refused}
use Rattle.refusals.specs.Call.{Call, refusal_of, by_refusal, result_of, left_of, seen_as}
use Rattle.refusals.specs.Demand1.{NoneHolds, FirstThatHolds, Numbered, SomeHolds, Tells, Demand1, States, MeetsDemand1, Settles, Promised}

-- THE FIRST FAULT. Without one that holds the list gives 0 …
pub none_refuses : (faults : List Fault) → NoneHolds faults → first_of faults ≡ 0
none_refuses [] h = refl
none_refuses ((holds gives number) ∷ later) h = rw h.0 (none_refuses later h.1)

-- … and only then
pub nothing_holds : (faults : List Fault) → Numbered faults → first_of faults ≡ 0 → NoneHolds faults
nothing_holds [] n e = tt
nothing_holds ((true gives zero) ∷ later) n e = absurd (omega (arith, n.0 refl))
nothing_holds ((true gives suc number) ∷ later) n e = absurd (omega arith)
nothing_holds ((false gives number) ∷ later) n e = (refl, nothing_holds later n.1 e)

-- the number that a list gives is that of the first fault that holds …
pub first_holds : (faults : List Fault) (number : ℕ) → Numbered faults → first_of faults ≡ suc number → FirstThatHolds faults (suc number)
first_holds [] number n e = absurd (omega arith)
first_holds ((true gives zero) ∷ later) number n e = absurd (omega (arith, n.0 refl))
first_holds ((true gives suc own) ∷ later) number n e =
    record { earlier = []; later = later; split = ap (λ (k : ℕ). (true gives k) ∷ later) e; none_earlier = tt }
first_holds ((false gives own) ∷ later) number n e =
    let r = first_holds later number n.1 e in
    record {
      earlier = (false gives own) ∷ r.earlier;
      later = r.later;
      split = ap (λ (l : List Fault). (false gives own) ∷ l) r.split;
      none_earlier = (refl, r.none_earlier);
    }

-- … and the first fault that holds gives its number (promise B.4)
pub first_is_given : (faults : List Fault) (number : ℕ) → Numbered faults → FirstThatHolds faults number → first_of faults ≡ number
first_is_given faults number n f = ap first_of f.split ∙ by f.earlier f.none_earlier (rw f.split at n)
  where
    alone : (k : ℕ) → 0 < k → first_of ((true gives k) ∷ f.later) ≡ k
    alone zero h = absurd (omega arith)
    alone (suc k) h = refl

    by : (earlier : List Fault) → NoneHolds earlier → Numbered (earlier ++ (true gives number) ∷ f.later)
        → first_of (earlier ++ (true gives number) ∷ f.later) ≡ number
    by [] none own = alone number (own.0 refl)
    by ((holds gives other) ∷ earlier) none own = rw none.0 (by earlier none.1 own.1)

-- a refusal that is passed on has its number where it holds
pub passed_on_numbered : (number : ℕ) → is_refusal number ≡ true → 0 < number
passed_on_numbered zero e = absurd (let z : ◌≡◌ {A = ℕ} 0 1 = cc in omega arith)
passed_on_numbered (suc number) e = omega arith

-- and where it does not hold the number is 0
pub passed_on_none : (number : ℕ) → is_refusal number ≡ false → number ≡ 0
passed_on_none zero e = refl
passed_on_none (suc number) e = absurd (let z : ◌≡◌ {A = ℕ} 0 1 = cc in omega arith)

-- a refusal that is passed on stands before what comes later; without one, that decides
pub passed_on_first : (number : ℕ) (later : List Fault) → (number ≡ 0 → ⊥) → number ≡ first_of (passed_on number ∷ later)
passed_on_first zero later ne = absurd (ne refl)
passed_on_first (suc number) later ne = refl

pub passed_on_past : (number : ℕ) (later : List Fault) → number ≡ 0 → first_of (passed_on number ∷ later) ≡ first_of later
passed_on_past number later e = rw e

-- alone in a list it is the list's refusal
pub passed_on_alone : (number : ℕ) → first_of (passed_on number ∷ []) ≡ number
passed_on_alone zero = refl
passed_on_alone (suc number) = refl

-- numbers that are written out are seen by a test not to be 0
abbrev pub none_is0 : List Fault → Bool
none_is0 [] = true
none_is0 ((holds gives number) ∷ later) = not (eqb number 0) && none_is0 later

pub written_out : (faults : List Fault) → T (none_is0 faults) → Numbered faults
written_out [] t = tt
written_out ((holds gives number) ∷ later) t = by (eqb number 0) refl t (written_out later)
  where
    by : (b : Bool) → eqb number 0 ≡ b → T (not b && none_is0 later) → (T (none_is0 later) → Numbered later)
        → Numbered ((holds gives number) ∷ later)
    by true e t rest = absurd t
    by false e t rest = (λ h. (let ne = eqb-false number 0 e in omega (arith, ne)), rest t)

-- A RESULT, as the code returns it: n is the refusal that it found
module _ {Result Lent : Type 0} (call : Call Result Lent) {n : ℕ} (found : n ≡ refusal_of call) where
  pub result_taken : n ≡ 0 → call.given ≡ result_of call
  unfolding result_of
  result_taken none = rw (sym found ∙ none)

  pub left_taken : n ≡ 0 → call.left ≡ left_of call
  unfolding left_of
  left_taken none = rw (sym found ∙ none)

  pub result_refused : (n ≡ 0 → ⊥) → call.back n ≡ result_of call
  unfolding result_of
  result_refused some = ap call.back found ∙ by (refusal_of call) (λ e. some (found ∙ e))
    where
      by : (m : ℕ) → (m ≡ 0 → ⊥) → call.back m ≡ by_refusal m call.given call.back
      by zero ne = absurd (ne refl)
      by (suc m) ne = refl

  pub left_refused : (n ≡ 0 → ⊥) → call.lent ≡ left_of call
  unfolding left_of
  left_refused some = by (refusal_of call) (λ e. some (found ∙ e))
    where
      by : (m : ℕ) → (m ≡ 0 → ⊥) → call.lent ≡ unless_refused m call.left call.lent
      by zero ne = absurd (ne refl)
      by (suc m) ne = refl

-- what holds of the result that is given, and of each that comes back, holds of the result
pub result_cases : {Result Lent : Type 0} (P : Result → Type 0) (call : Call Result Lent) → (refusal_of call ≡ 0 → P call.given)
    → ((number : ℕ) → refusal_of call ≡ suc number → P (call.back (suc number))) → P (result_of call)
unfolding result_of
result_cases P call taken refused = by (refusal_of call) refl
  where
    by : (m : ℕ) → refusal_of call ≡ m → P (by_refusal m call.given call.back)
    by zero e = taken e
    by (suc m) e = refused m e

-- two calls with the same refusal, of which one gives and hands back what the other does, have the same result …
pub same_result : {Result Lent Lent' : Type 0} (call : Call Result Lent) (other : Call Result Lent') → refusal_of call ≡ refusal_of other
    → call.given ≡ other.given → call.back ≡ other.back → result_of call ≡ result_of other
unfolding result_of
same_result call other same given back = λ i. by_refusal (same i) (given i) (back i)

-- … and leave the same of a part that both were lent
pub same_left : {Result Result' Lent Part : Type 0} (part : Lent → Part) (call : Call Result Lent) (other : Call Result' Part)
    → refusal_of call ≡ refusal_of other → part call.left ≡ other.left → part call.lent ≡ other.lent → part (left_of call) ≡ left_of other
unfolding left_of
same_left part call other same left lent = by (refusal_of call) ∙ (λ i. unless_refused (same i) (left i) (lent i))
  where
    by : (m : ℕ) → part (unless_refused m call.left call.lent) ≡ unless_refused m (part call.left) (part call.lent)
    by zero = refl
    by (suc m) = refl

-- a call that only asks leaves what was lent, refused or not
pub asks_leaves : {Result Lent : Type 0} (call : Call Result Lent) → call.left ≡ call.lent → call.lent ≡ left_of call
unfolding left_of
asks_leaves call same = by (refusal_of call)
  where
    by : (m : ℕ) → call.lent ≡ unless_refused m call.left call.lent
    by zero = sym same
    by (suc m) = refl

-- … and where its result and what it leaves are the same with a refusal and without, that is what comes of it
pub result_asked : {Result Lent : Type 0} (call : Call Result Lent) (same : Result) → call.given ≡ same → ((number : ℕ) → call.back number ≡ same)
    → result_of call ≡ same
result_asked call same given back = result_cases (λ r. r ≡ same) call (λ e. given) (λ number e. back (suc number))

pub left_asked : {Result Lent : Type 0} (call : Call Result Lent) (same : Lent) → call.left ≡ same → call.lent ≡ same → left_of call ≡ same
left_asked call same left lent = sym (asks_leaves call (left ∙ sym lent)) ∙ lent

-- the result in another form is the form of the result
pub seen_result : {Result Seen Lent : Type 0} (form : Result → Seen) (call : Call Result Lent)
    → form (result_of call) ≡ result_of (seen_as form call)
unfolding result_of
seen_result form call = by (refusal_of call)
  where
    by : (m : ℕ) → form (by_refusal m call.given call.back) ≡ by_refusal m (form call.given) (λ number. form (call.back number))
    by zero = refl
    by (suc m) = refl

-- and what it leaves is the same
pub seen_left : {Result Seen Lent : Type 0} (form : Result → Seen) (call : Call Result Lent) → left_of call ≡ left_of (seen_as form call)
unfolding left_of
seen_left form call = refl

-- what a result tells of its refusal, where the numbers of the faults are written out
pub tells : {Result Lent : Type 0} {number_in : Result → ℕ} {call : Call Result Lent} → T (none_is0 call.faults)
    → number_in call.given ≡ 0 → ((number : ℕ) → number_in (call.back number) ≡ number) → Tells number_in call
tells {call} out none own = record { numbered = written_out call.faults out; given_0 = λ h. none; back_own = own }

-- DEMAND 1, for whatever is the result of a row and what it leaves
module _ {Result Lent : Type 0} (number_in : Result → ℕ) (call : Call Result Lent) (tells : Tells number_in call) where
  -- the number that a result tells is the refusal
  pub result_number : number_in (result_of call) ≡ refusal_of call
  result_number =
      result_cases (λ r. number_in r ≡ refusal_of call) call
      (λ e. tells.given_0 (nothing_holds call.faults tells.numbered e) ∙ sym e)
      (λ number e. tells.back_own (suc number) ∙ sym e)

  decides : NoneHolds call.faults ⊎ SomeHolds call.faults
  decides = by (first_of call.faults) refl
    where
      by : (m : ℕ) → first_of call.faults ≡ m → NoneHolds call.faults ⊎ SomeHolds call.faults
      by zero e = inl (nothing_holds call.faults tells.numbered e)
      by (suc m) e = inr (record { number = suc m; first = first_holds call.faults m tells.numbered e })

  first_not_0 : (number : ℕ) → FirstThatHolds call.faults number → number ≡ 0 → ⊥
  first_not_0 number f e = by f.earlier (rw f.split at tells.numbered)
    where
      by : (earlier : List Fault) → Numbered (earlier ++ (true gives number) ∷ f.later) → ⊥
      by [] own = omega (arith, own.0 refl)
      by (fault ∷ earlier) own = by earlier (later fault own)
        where
          later : (fault : Fault) → Numbered (fault ∷ (earlier ++ (true gives number) ∷ f.later))
              → Numbered (earlier ++ (true gives number) ∷ f.later)
          later (holds gives other) own = own.1

  pub row_demand_1 : Demand1 number_in call (result_of call) (left_of call)
  row_demand_1 =
      record {
        decided = decides;
        taken = λ h. (let e = none_refuses call.faults h in
            (result_number ∙ e, sym (result_taken call (sym e) refl), sym (left_taken call (sym e) refl)));
        none = λ e. nothing_holds call.faults tells.numbered (sym result_number ∙ e);
        refused = λ number f. (let e = first_is_given call.faults number tells.numbered f in
            (result_number ∙ e, sym (result_refused call (sym e) (first_not_0 number f)), sym (left_refused call (sym e) (first_not_0 number f))));
      }

module _ {Args Result Exit Shown Lent : Type 0} (Post : Args → Result → Exit → Type 0) (shown : Args → Result → Shown) (after : Args → Exit → Lent)
    (call : Args → Call Shown Lent) (states : States Post shown after call) where
  -- of every function whose statement says what a row says
  pub demand_1 : (number_in : Shown → ℕ) → ((a : Args) → Tells number_in (call a)) → MeetsDemand1 Post shown after call number_in
  demand_1 number_in tells a r e p =
      let s = states a r e p in
      rw (s.0, s.1) (row_demand_1 number_in (call a) (tells a))

  -- UNIQUENESS: and its statement allows one outcome
  pub settled : Settles Post shown after
  settled a r r' e e' p p' =
      let s = states a r e p in
      let s' = states a r' e' p' in
      (s.0 ∙ sym s'.0, s.1 ∙ sym s'.1)

  pub promised : (number_in : Shown → ℕ) → ((a : Args) → Tells number_in (call a)) → Promised Post shown after call number_in
  promised number_in tells = record { demand_1 = demand_1 number_in tells; settled = settled }

-- and of every function that gives a row's result in another form
pub seen_promised : {Args Result Exit Own Shown Lent : Type 0} (Post : Args → Result → Exit → Type 0) (shown : Args → Result → Shown)
    (after : Args → Exit → Lent) (form : Own → Shown) (call : Args → Call Own Lent)
    → ((a : Args) (r : Result) (e : Exit) → Post a r e → (shown a r ≡ form (result_of (call a))) × (after a e ≡ left_of (call a)))
    → (number_in : Shown → ℕ) → ((a : Args) → Tells (λ r. number_in (form r)) (call a))
    → Promised Post shown after (λ a. seen_as form (call a)) number_in
unfolding left_of
seen_promised Post shown after form call says number_in tells =
    promised Post shown after (λ a. seen_as form (call a)) (λ a r e p. ((says a r e p).0 ∙ seen_result form (call a), (says a r e p).1)) number_in
    (λ a. record { numbered = (tells a).numbered; given_0 = (tells a).given_0; back_own = (tells a).back_own })
