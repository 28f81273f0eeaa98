-- What has the form of the format is read so, whatever follows: numbers that pass are found, and one that fails is out of range.
-- Assumes nothing.
use Prim.Native.Nat.{ℕ}
use mathlib.Core.Bool.{Bool, true, false, not}
use mathlib.Core.List.{List, [], ◌∷◌, ◌++◌, append_assoc, append-nil}
use mathlib.Core.Path.{◌≡◌, refl, sym, ap, ◌∙◌}
use native.Mathlib.Omega.{arith}
use borrow.Author.Tests.{eq-eqb}
use Rattle.refusals.specs.Numbers.{number_out_of_range}
use Rattle.decimals.specs.Decimal.{digit, value_of}
use Rattle.image.specs.Bytes.{white}
use Rattle.image.specs.Tests.{Test, failing}
use Rattle.image.specs.Seen.{Seen, bytes_of}
use Rattle.image.specs.Step.{stopped, found}
use Rattle.image.specs.Format.{AllOf, Some, Field, Written, bytes_in, numbers_in, AllPass}
use Rattle.image.proofs.SeenLists.{Parted, parted, reach_from, reach_append}
use Rattle.image.proofs.ByteByByte.{in_sign, in_gap, walk}
use Rattle.image.proofs.NumberForms.{judgement, number_walk}
use Rattle.image.proofs.BodyForms.{walk_behind}

-- the byte behind a field is white: the first byte of the next one's white space, or the header's last
white_next : (fields : List Field) (last : ℕ) → Written fields → white last ≡ true → (byte : ℕ) (later : List ℕ)
    → byte ∷ later ≡ bytes_in fields ++ (last ∷ []) → white byte ≡ true
white_next [] last written w byte later e = let same : byte ≡ last = cc in rw same w
white_next (field ∷ fields) last written w byte later e = by field.gap written.0.0 e
  where
    by : (gap : List ℕ) → Some white gap → byte ∷ later ≡ (gap ++ (field.digits ++ bytes_in fields)) ++ (last ∷ []) → white byte ≡ true
    by [] some e = let z = some.not_none in absurd (omega arith)
    by (first ∷ gap) some e = let same : byte ≡ first = cc in rw same some.all.0

-- a field in what is seen behind the first white byte: the rest of its white space, its digits, and a white byte, with which the next begins
record FieldAt (field : Field) (l : List Seen) (tail : List ℕ) : Type 0 where
  gap : List Seen
  digits : List Seen
  last : Seen
  rest : List Seen
  split : l ≡ gap ++ (digits ++ (last ∷ rest))
  blank : AllOf white (bytes_of gap)
  digits_are : bytes_of digits ≡ field.digits
  tail_is : last.byte ∷ bytes_of rest ≡ tail

field_at : (field : Field) (byte : ℕ) (l : List Seen) (first : ℕ) (tail : List ℕ) → Some white field.gap
    → byte ∷ bytes_of l ≡ field.gap ++ (field.digits ++ (first ∷ tail)) → FieldAt field l (first ∷ tail)
field_at field byte l first tail some e = by field.gap some e
  where
    by₂ : (gap : List ℕ) → AllOf white gap → (p : Parted l gap (field.digits ++ (first ∷ tail)))
        → (q : Parted p.second field.digits (first ∷ tail)) → (r : List Seen) → q.second ≡ r → bytes_of r ≡ first ∷ tail
        → FieldAt field l (first ∷ tail)
    by₂ gap all p q [] is e = cc
    by₂ gap all p q (seen ∷ rest) is e = record {
      gap = p.first;
      digits = q.first;
      last = seen;
      rest = rest;
      split = p.split ∙ ap (λ (m : List Seen). p.first ++ m) (q.split ∙ ap (λ (m : List Seen). q.first ++ m) is);
      blank = rw p.first_is all;
      digits_are = q.first_is;
      tail_is = e;
    }

    by : (gap : List ℕ) → Some white gap → byte ∷ bytes_of l ≡ gap ++ (field.digits ++ (first ∷ tail)) → FieldAt field l (first ∷ tail)
    by [] some e = let z = some.not_none in absurd (omega arith)
    by (white-byte ∷ gap) some e =
        let p = parted l gap (field.digits ++ (first ∷ tail)) (cc) in
        let q = parted p.second field.digits (first ∷ tail) p.second_is in
        by₂ gap some.all.1 p q q.second refl q.second_is

-- a field is walked over: what is left begins with the white byte behind it, at which its number is judged
record Walked (end : ℕ) (numbers : List ℕ) (test : Test) (tests : List Test) (value : ℕ) (l rest : List Seen) (tail : List ℕ) : Type 0 where
  next : Seen
  left : List Seen
  tail_is : bytes_of (next ∷ left) ≡ tail
  judges : walk end (in_gap numbers test tests) (l ++ rest) ≡ judgement end numbers test tests value next (left ++ rest)
  reaches : (used : ℕ) → reach_from used l ≡ reach_from next.upto left

first_of : (a : List ℕ) (b : ℕ) → (first : ℕ) × (tail : List ℕ) × (a ++ (b ∷ []) ≡ first ∷ tail)
first_of [] b = (b, [], refl)
first_of (x ∷ a) b = (x, a ++ (b ∷ []), refl)

module _ (end : ℕ) (numbers : List ℕ) (test : Test) (tests : List Test) where
  walked : (field : Field) (fields : List Field) (last byte : ℕ) (l rest : List Seen)
      → byte ∷ bytes_of l ≡ bytes_in (field ∷ fields) ++ (last ∷ []) → Written (field ∷ fields) → white last ≡ true
      → Walked end numbers test tests (value_of 0 field.digits) l rest (bytes_in fields ++ (last ∷ []))
  walked field fields last byte l rest e written w =
      let next = first_of (bytes_in fields) last in
      let tail_is : bytes_in fields ++ (last ∷ []) ≡ next.0 ∷ next.1 = next.2 in
      let whole : byte ∷ bytes_of l ≡ field.gap ++ (field.digits ++ (next.0 ∷ next.1)) =
      e ∙ append_assoc field.gap (field.digits ++ bytes_in fields) (last ∷ [])
      ∙ ap (λ (m : List ℕ). field.gap ++ m) (append_assoc field.digits (bytes_in fields) (last ∷ []) ∙ ap (λ (m : List ℕ). field.digits ++ m) tail_is) in
      let at = field_at field byte l next.0 next.1 written.0.0 whole in
      let ended : white at.last.byte ≡ true =
      white_next fields last written.1 w at.last.byte (bytes_of at.rest) (at.tail_is ∙ sym tail_is) in
      let number : Some digit (bytes_of at.digits) = rw at.digits_are written.0.1 in
      let here : l ++ rest ≡ at.gap ++ (at.digits ++ (at.last ∷ (at.rest ++ rest))) =
      ap (λ (m : List Seen). m ++ rest) at.split
      ∙ append_assoc at.gap (at.digits ++ (at.last ∷ at.rest)) rest
      ∙ ap (λ (m : List Seen). at.gap ++ m) (append_assoc at.digits (at.last ∷ at.rest) rest) in
      record {
        next = at.last;
        left = at.rest;
        tail_is = at.tail_is ∙ sym tail_is;
        judges = ap (walk end (in_gap numbers test tests)) here
            ∙ number_walk end numbers test tests at.gap at.digits at.last (at.rest ++ rest) at.blank number ended
            ∙ ap (λ (m : List ℕ). judgement end numbers test tests (value_of 0 m) at.last (at.rest ++ rest)) at.digits_are;
        reaches = λ used. ap (reach_from used) at.split
            ∙ reach_append used at.gap (at.digits ++ (at.last ∷ at.rest))
            ∙ reach_append (reach_from used at.gap) at.digits (at.last ∷ at.rest);
      }

none_left : (l : List Seen) (byte last : ℕ) → ◌≡◌ {A = List ℕ} (byte ∷ bytes_of l) (last ∷ []) → l ≡ []
none_left [] byte last e = refl
none_left (seen ∷ l) byte last e = cc

-- numbers that pass are found
body_read : (end : ℕ) (fields : List Field) (tests : List Test) (numbers : List ℕ) (last : ℕ) (seen : Seen) (l rest : List Seen)
    → bytes_of (seen ∷ l) ≡ bytes_in fields ++ (last ∷ []) → Written fields → white last ≡ true → AllPass tests (numbers_in fields)
    → walk_behind end numbers tests seen (l ++ rest) ≡ found (numbers ++ numbers_in fields) (reach_from seen.upto l) rest
body_read end [] [] numbers last seen l rest e written w passes =
    rw (none_left l seen.byte last e) (ap (λ (m : List ℕ). found m seen.upto rest) (sym (append-nil numbers)))
body_read end [] (test ∷ tests) numbers last seen l rest e written w passes = absurd passes
body_read end (field ∷ fields) [] numbers last seen l rest e written w passes = absurd passes
body_read end (field ∷ fields) (test ∷ tests) numbers last seen l rest e written w passes =
    let v = value_of 0 field.digits in
    let k = walked end numbers test tests field fields last seen.byte l rest e written w in
    k.judges
    ∙ rw passes.0
    (body_read end fields tests (numbers ++ (v ∷ [])) last k.next k.left rest k.tail_is written.1 w passes.1
    ∙ λ i. found (append_assoc numbers (v ∷ []) (numbers_in fields) i) (sym (k.reaches seen.upto) i) rest)

-- one that fails, behind numbers that pass, is out of range
over_read : (end : ℕ) (fields : List Field) (before : List Test) (test : Test) (after : List Test) (numbers : List ℕ) (last : ℕ) (seen : Seen)
    (l rest : List Seen)
    → bytes_of (seen ∷ l) ≡ bytes_in fields ++ (last ∷ []) → Written fields → white last ≡ true
    → AllPass (before ++ (failing test ∷ [])) (numbers_in fields)
    → walk_behind end numbers (before ++ (test ∷ after)) seen (l ++ rest) ≡ stopped number_out_of_range
over_read end [] [] test after numbers last seen l rest e written w passes = absurd passes
over_read end [] (first ∷ before) test after numbers last seen l rest e written w passes = absurd passes
over_read end (field ∷ fields) [] test after numbers last seen l rest e written w passes =
    let k = walked end numbers test after field fields last seen.byte l rest e written w in
    k.judges ∙ rw (fails_it (test (value_of 0 field.digits)) passes.0)
  where
    fails_it : (b : Bool) → not b ≡ true → b ≡ false
    fails_it true e = sym e
    fails_it false e = refl
over_read end (field ∷ fields) (first ∷ before) test after numbers last seen l rest e written w passes =
    let v = value_of 0 field.digits in
    let k = walked end numbers first (before ++ (test ∷ after)) field fields last seen.byte l rest e written w in
    k.judges
    ∙ rw passes.0 (over_read end fields before test after (numbers ++ (v ∷ [])) last k.next k.left rest k.tail_is written.1 w passes.1)

-- over the signs the walk comes to the white byte behind them
record SignWalked (end : ℕ) (signs : List ℕ) (tests : List Test) (taken : List Seen) (tail : List ℕ) : Type 0 where
  next : Seen
  left : List Seen
  tail_is : bytes_of (next ∷ left) ≡ tail
  walks : (rest : List Seen) → walk end (in_sign signs tests) (taken ++ rest) ≡ walk_behind end [] tests next (left ++ rest)
  reaches : (used : ℕ) → reach_from used taken ≡ reach_from next.upto left

sign_walked : (end : ℕ) (signs : List ℕ) (tests : List Test) (taken : List Seen) (first : ℕ) (tail : List ℕ) → white first ≡ true
    → bytes_of taken ≡ signs ++ (first ∷ tail) → SignWalked end signs tests taken (first ∷ tail)
unfolding walk
sign_walked end [] tests [] first tail w e = cc
sign_walked end (sign ∷ signs) tests [] first tail w e = cc
sign_walked end [] tests (seen ∷ taken) first tail w e =
    let same : seen.byte ≡ first = cc in
    record { next = seen; left = taken; tail_is = e; walks = λ rest. rw (ap white same ∙ w); reaches = λ used. refl }
sign_walked end (sign ∷ signs) tests (seen ∷ taken) first tail w e =
    let same : seen.byte ≡ sign = cc in
    let again = sign_walked end signs tests taken first tail w (cc) in
    record {
      next = again.next;
      left = again.left;
      tail_is = again.tail_is;
      walks = λ rest. rw (eq-eqb sign seen.byte (sym same)) (again.walks rest);
      reaches = λ used. again.reaches seen.upto;
    }

module _ (end : ℕ) (signs : List ℕ) (taken rest : List Seen) (fields : List Field) (last : ℕ)
    (shape : bytes_of taken ≡ signs ++ (bytes_in fields ++ (last ∷ []))) (written : Written fields) (one : white last ≡ true) where
  at_body : (tests : List Test) → SignWalked end signs tests taken (bytes_in fields ++ (last ∷ []))
  at_body tests =
      let next = first_of (bytes_in fields) last in
      let w = white_next fields last written one next.0 next.1 (sym next.2) in
      rw next.2 (sign_walked end signs tests taken next.0 next.1 w (shape ∙ ap (λ (m : List ℕ). signs ++ m) next.2))

  -- a whole header is found …
  pub header_read : (tests : List Test) → AllPass tests (numbers_in fields)
      → walk end (in_sign signs tests) (taken ++ rest) ≡ found (numbers_in fields) (reach_from 0 taken) rest
  header_read tests passes =
      let k = at_body tests in
      k.walks rest
      ∙ body_read end fields tests [] last k.next k.left rest k.tail_is written one passes
      ∙ ap (λ (used : ℕ). found (numbers_in fields) used rest) (sym (k.reaches 0))

  -- … and one whose last number fails is out of range there
  pub header_over_read : (before : List Test) (test : Test) (after : List Test) → AllPass (before ++ (failing test ∷ [])) (numbers_in fields)
      → walk end (in_sign signs (before ++ (test ∷ after))) (taken ++ rest) ≡ stopped number_out_of_range
  header_over_read before test after passes =
      let k = at_body (before ++ (test ∷ after)) in
      k.walks rest ∙ over_read end fields before test after [] last k.next k.left rest k.tail_is written one passes
