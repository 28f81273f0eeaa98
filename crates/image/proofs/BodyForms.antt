-- The numbers of a header, from the white byte before them on: what the walk over them finds, and what it finds out of range, has the
-- form of the format; and what has that form is found so.
-- Assumes nothing.
use Prim.Native.Nat.{ℕ}
use mathlib.Core.Bool.{Bool, true, false, cond, not}
use mathlib.Core.List.{List, [], ◌∷◌, ◌++◌, append_assoc, append-nil}
use mathlib.Core.Path.{◌≡◌, refl, sym, ap, ◌∙◌}
use native.Mathlib.Omega.{arith}
use borrow.Author.Tests.{eqb-true}
use lib.Dec.{eqb}
use Rattle.refusals.specs.Numbers.{wrong_byte, number_out_of_range}
use Rattle.decimals.specs.Decimal.{value_of}
use Rattle.image.specs.Bytes.{white}
use Rattle.image.specs.Tests.{Test, failing}
use Rattle.image.specs.Seen.{Seen, bytes_of}
use Rattle.image.specs.Step.{Step, stopped, found}
use Rattle.image.specs.Format.{Field, Written, bytes_in, numbers_in, AllPass}
use Rattle.image.proofs.SeenLists.{bytes_append, reach_from, reach_append}
use Rattle.image.proofs.StepsApart.{stopped_apart}
use Rattle.image.proofs.ByteByByte.{in_sign, in_gap, goes, fails, entering, carried, walk}
use Rattle.image.proofs.NumberForms.{NumberAt, judgement, number_walk, NumberStory, whole, broken, short, number_story}

-- the walk behind a white byte
abbrev pub walk_behind : ℕ → List ℕ → List Test → Seen → List Seen → Step (List ℕ)
walk_behind end numbers tests seen l = carried seen l (λ next. walk end next l) (entering numbers tests)

-- what is seen begins with these signs, then fields that write these numbers, which pass these tests, one white byte, and the rest
pub record Formed (signs : List ℕ) (tests : List Test) (values : List ℕ) (l : List Seen) (used : ℕ) (rest : List Seen) : Type 0 where
  pub taken : List Seen
  pub fields : List Field
  pub last : ℕ
  pub split : l ≡ taken ++ rest
  pub shape : bytes_of taken ≡ signs ++ (bytes_in fields ++ (last ∷ []))
  pub written : Written fields
  pub writes : numbers_in fields ≡ values
  pub passes : AllPass tests values
  pub one : white last ≡ true
  pub uses : (u : ℕ) → reach_from u taken ≡ used

-- the same from a white byte on, with no sign
abbrev Body : List Test → List ℕ → Seen → List Seen → ℕ → List Seen → Type 0
Body tests values seen l used rest = Formed [] tests values (seen ∷ l) used rest

joined : {A : Type 0} (a b c d : List A) → a ++ (b ++ (c ++ d)) ≡ (a ++ (b ++ c)) ++ d
joined a b c d = sym (append_assoc a (b ++ c) d ∙ ap (λ (m : List _). a ++ m) (append_assoc b c d))

-- the last byte alone, and a number more before a body
last_alone : (seen : Seen) (l : List Seen) (used : ℕ) (rest : List Seen) → white seen.byte ≡ true → l ≡ rest → seen.upto ≡ used
    → Body [] [] seen l used rest
last_alone seen l used rest w same reaches = record {
  taken = seen ∷ [];
  fields = [];
  last = seen.byte;
  split = ap (λ (m : List Seen). seen ∷ m) same;
  shape = refl;
  written = tt;
  writes = refl;
  passes = tt;
  one = w;
  uses = λ u. reaches;
}

number_more : (test : Test) (tests : List Test) (values : List ℕ) (seen : Seen) (l : List Seen) (used : ℕ) (rest : List Seen)
    → white seen.byte ≡ true → (n : NumberAt l) → test (value_of 0 (bytes_of n.digits)) ≡ true
    → Body tests values n.last n.rest used rest → Body (test ∷ tests) (value_of 0 (bytes_of n.digits) ∷ values) seen l used rest
number_more test tests values seen l used rest w n passing body =
    let inner_bytes : bytes_of (n.gap ++ (n.digits ++ body.taken)) ≡ bytes_of n.gap ++ (bytes_of n.digits ++ (bytes_in body.fields ++ (body.last ∷ []))) =
    bytes_append n.gap (n.digits ++ body.taken)
    ∙ ap (λ (m : List ℕ). bytes_of n.gap ++ m) (bytes_append n.digits body.taken ∙ ap (λ (m : List ℕ). bytes_of n.digits ++ m) body.shape) in
    record {
      taken = seen ∷ (n.gap ++ (n.digits ++ body.taken));
      fields = record { gap = seen.byte ∷ bytes_of n.gap; digits = bytes_of n.digits } ∷ body.fields;
      last = body.last;
      split = ap (λ (m : List Seen). seen ∷ m) (n.split
          ∙ ap (λ (m : List Seen). n.gap ++ (n.digits ++ m)) body.split ∙ joined n.gap n.digits body.taken rest);
      shape = ap (λ (m : List ℕ). seen.byte ∷ m)
          (inner_bytes ∙ joined (bytes_of n.gap) (bytes_of n.digits) (bytes_in body.fields) (body.last ∷ []));
      written = ((record { all = (w, n.blank); not_none = omega arith }, n.number), body.written);
      writes = ap (λ (m : List ℕ). value_of 0 (bytes_of n.digits) ∷ m) body.writes;
      passes = (passing, body.passes);
      one = body.one;
      uses = λ u. reach_append seen.upto n.gap (n.digits ++ body.taken)
          ∙ reach_append (reach_from seen.upto n.gap) n.digits body.taken ∙ body.uses _;
    }

-- a number in the bytes comes to its judgement
judged_at : (end : ℕ) (numbers : List ℕ) (test : Test) (tests : List Test) (l : List Seen) (n : NumberAt l)
    → walk end (in_gap numbers test tests) l ≡ judgement end numbers test tests (value_of 0 (bytes_of n.digits)) n.last n.rest
judged_at end numbers test tests l n =
    ap (walk end (in_gap numbers test tests)) n.split
    ∙ number_walk end numbers test tests n.gap n.digits n.last n.rest n.blank n.number n.ended

-- what is found has the form of the format …
record FoundBody (tests : List Test) (numbers values : List ℕ) (seen : Seen) (l : List Seen) (used : ℕ) (rest : List Seen) : Type 0 where
  later : List ℕ
  body : Body tests later seen l used rest
  all_are : numbers ++ later ≡ values

body_found : (end : ℕ) (tests : List Test) (numbers : List ℕ) (seen : Seen) (l : List Seen) {values : List ℕ} {used : ℕ} {rest : List Seen}
    → white seen.byte ≡ true → walk_behind end numbers tests seen l ≡ found values used rest
    → FoundBody tests numbers values seen l used rest
body_found end [] numbers seen l {values} {used} {rest} w e =
    record { later = []; body = last_alone seen l used rest w (cc) (cc); all_are = append-nil numbers ∙ cc }
body_found end (test ∷ tests) numbers seen l {values} {used} {rest} w e =
    by (λ n v e. body_found end tests (numbers ++ (v ∷ [])) n.last n.rest n.ended e) (number_story end l)
  where
    judged : (n : NumberAt l) (t : Bool) → test (value_of 0 (bytes_of n.digits)) ≡ t → (v : ℕ) → value_of 0 (bytes_of n.digits) ≡ v
        → (walk_behind end (numbers ++ (v ∷ [])) tests n.last n.rest ≡ found values used rest
        → FoundBody tests (numbers ++ (v ∷ [])) values n.last n.rest used rest)
        → carried n.last n.rest (λ next. walk end next n.rest) (cond t (entering (numbers ++ (v ∷ [])) tests) (fails number_out_of_range)) ≡ found values used rest
        → FoundBody (test ∷ tests) numbers values seen l used rest
    judged n true passing v is again e =
        let f = again e in
        record {
          later = value_of 0 (bytes_of n.digits) ∷ f.later;
          body = number_more test tests f.later seen l used rest w n passing f.body;
          all_are = ap (λ (x : ℕ). numbers ++ (x ∷ f.later)) is ∙ sym (append_assoc numbers (v ∷ []) f.later) ∙ f.all_are;
        }
    judged n false passing v is again e = cc

    by : ((n : NumberAt l) (v : ℕ) → walk_behind end (numbers ++ (v ∷ [])) tests n.last n.rest ≡ found values used rest
        → FoundBody tests (numbers ++ (v ∷ [])) values n.last n.rest used rest)
        → NumberStory end l → FoundBody (test ∷ tests) numbers values seen l used rest
    by again (broken stops) = cc (sym (stops numbers test tests) ∙ e)
    by again (short stops) = cc (sym (stops numbers test tests) ∙ e)
    by again (whole n) =
        let v = value_of 0 (bytes_of n.digits) in
        judged n (test v) refl v refl (again n v) (sym (judged_at end numbers test tests l n) ∙ e)

-- … and so has what is out of range, up to the white byte behind it
pub record OverFormed (signs : List ℕ) (tests : List Test) (l : List Seen) : Type 0 where
  pub before : List Test
  pub test : Test
  pub after : List Test
  pub tests_are : tests ≡ before ++ (test ∷ after)
  pub values : List ℕ
  pub used : ℕ
  pub rest : List Seen
  pub formed : Formed signs (before ++ (failing test ∷ [])) values l used rest

abbrev OverBody : List Test → Seen → List Seen → Type 0
OverBody tests seen l = OverFormed [] tests (seen ∷ l)

body_over : (end : ℕ) → (end ≡ number_out_of_range → ⊥) → (tests : List Test) (numbers : List ℕ) (seen : Seen) (l : List Seen)
    → white seen.byte ≡ true → walk_behind end numbers tests seen l ≡ stopped number_out_of_range → OverBody tests seen l
body_over end other [] numbers seen l w e = cc (sym e)
body_over end other (test ∷ tests) numbers seen l w e =
    by (λ n v e. body_over end other tests (numbers ++ (v ∷ [])) n.last n.rest n.ended e) (number_story end l)
  where
    judged : (n : NumberAt l) (t : Bool) → test (value_of 0 (bytes_of n.digits)) ≡ t → (v : ℕ)
        → (walk_behind end (numbers ++ (v ∷ [])) tests n.last n.rest ≡ stopped number_out_of_range → OverBody tests n.last n.rest)
        → carried n.last n.rest (λ next. walk end next n.rest) (cond t (entering (numbers ++ (v ∷ [])) tests) (fails number_out_of_range)) ≡ stopped number_out_of_range
        → OverBody (test ∷ tests) seen l
    judged n true passing v again e =
        let o = again e in
        record {
          before = test ∷ o.before;
          test = o.test;
          after = o.after;
          tests_are = ap (λ (m : List Test). test ∷ m) o.tests_are;
          values = value_of 0 (bytes_of n.digits) ∷ o.values;
          used = o.used;
          rest = o.rest;
          formed = number_more test (o.before ++ (failing o.test ∷ [])) o.values seen l o.used o.rest w n passing o.formed;
        }
    judged n false passing v again e =
        record {
          before = [];
          test = test;
          after = tests;
          tests_are = refl;
          values = value_of 0 (bytes_of n.digits) ∷ [];
          used = n.last.upto;
          rest = n.rest;
          formed = number_more (failing test) [] [] seen l n.last.upto n.rest w n (ap not passing)
              (last_alone n.last n.rest n.last.upto n.rest n.ended refl refl);
        }

    by : ((n : NumberAt l) (v : ℕ) → walk_behind end (numbers ++ (v ∷ [])) tests n.last n.rest ≡ stopped number_out_of_range → OverBody tests n.last n.rest)
        → NumberStory end l → OverBody (test ∷ tests) seen l
    by again (broken stops) = stopped_apart wrong_byte number_out_of_range (λ same. omega arith) (sym (stops numbers test tests) ∙ e)
    by again (short stops) = stopped_apart end number_out_of_range other (sym (stops numbers test tests) ∙ e)
    by again (whole n) =
        let v = value_of 0 (bytes_of n.digits) in
        judged n (test v) refl v (again n v) (sym (judged_at end numbers test tests l n) ∙ e)

-- the same from the sign on: one sign more before a form
sign_more : {signs : List ℕ} {tests : List Test} {values : List ℕ} {l : List Seen} {used : ℕ} {rest : List Seen} (sign : ℕ) (seen : Seen)
    → sign ≡ seen.byte → Formed signs tests values l used rest → Formed (sign ∷ signs) tests values (seen ∷ l) used rest
sign_more {signs} sign seen same f = record {
  taken = seen ∷ f.taken;
  fields = f.fields;
  last = f.last;
  split = ap (λ (m : List Seen). seen ∷ m) f.split;
  shape = λ i. sym same i ∷ f.shape i;
  written = f.written;
  writes = f.writes;
  passes = f.passes;
  one = f.one;
  uses = λ u. f.uses seen.upto;
}

pub walk_found : (end : ℕ) (signs : List ℕ) (tests : List Test) (l : List Seen) {values : List ℕ} {used : ℕ} {rest : List Seen}
    → walk end (in_sign signs tests) l ≡ found values used rest → Formed signs tests values l used rest
unfolding walk
walk_found end signs tests [] e = cc
walk_found end [] tests (seen ∷ l) {values} {used} {rest} e = by (white seen.byte) refl e
  where
    by : (w : Bool) → white seen.byte ≡ w
        → carried seen l (λ next. walk end next l) (cond w (entering [] tests) (fails wrong_byte)) ≡ found values used rest
        → Formed [] tests values (seen ∷ l) used rest
    by true w e =
        let f = body_found end tests [] seen l w e in
        rw (← f.all_are) f.body
    by false w e = cc
walk_found end (sign ∷ signs) tests (seen ∷ l) {values} {used} {rest} e = by (eqb sign seen.byte) refl (walk_found end signs tests l) e
  where
    by : (b : Bool) → eqb sign seen.byte ≡ b
        → (walk end (in_sign signs tests) l ≡ found values used rest → Formed signs tests values l used rest)
        → carried seen l (λ next. walk end next l) (cond b (goes (in_sign signs tests)) (fails wrong_byte)) ≡ found values used rest
        → Formed (sign ∷ signs) tests values (seen ∷ l) used rest
    by true b again e = sign_more sign seen (eqb-true sign seen.byte b) (again e)
    by false b again e = cc

pub walk_over : (end : ℕ) → (end ≡ number_out_of_range → ⊥) → (signs : List ℕ) (tests : List Test) (l : List Seen)
    → walk end (in_sign signs tests) l ≡ stopped number_out_of_range → OverFormed signs tests l
unfolding walk
walk_over end other signs tests [] e = stopped_apart end number_out_of_range other e
walk_over end other [] tests (seen ∷ l) e = by (white seen.byte) refl e
  where
    by : (w : Bool) → white seen.byte ≡ w
        → carried seen l (λ next. walk end next l) (cond w (entering [] tests) (fails wrong_byte)) ≡ stopped number_out_of_range
        → OverFormed [] tests (seen ∷ l)
    by true w e = body_over end other tests [] seen l w e
    by false w e = stopped_apart wrong_byte number_out_of_range (λ same. omega arith) e
walk_over end other (sign ∷ signs) tests (seen ∷ l) e = by (eqb sign seen.byte) refl (walk_over end other signs tests l) e
  where
    by : (b : Bool) → eqb sign seen.byte ≡ b → (walk end (in_sign signs tests) l ≡ stopped number_out_of_range → OverFormed signs tests l)
        → carried seen l (λ next. walk end next l) (cond b (goes (in_sign signs tests)) (fails wrong_byte)) ≡ stopped number_out_of_range
        → OverFormed (sign ∷ signs) tests (seen ∷ l)
    by true b again e =
        let o = again e in
        record {
          before = o.before;
          test = o.test;
          after = o.after;
          tests_are = o.tests_are;
          values = o.values;
          used = o.used;
          rest = o.rest;
          formed = sign_more sign seen (eqb-true sign seen.byte b) o.formed;
        }
    by false b again e = stopped_apart wrong_byte number_out_of_range (λ same. omega arith) e
