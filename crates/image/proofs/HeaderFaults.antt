-- Promise B.7 for headers: a reading stops with 11 exactly at a wrong byte, with 12 exactly at a number out of range, and for want of a byte
-- exactly where the bytes run out, each said of the bytes alone.
-- Assumes nothing.
use Prim.Native.Nat.{ℕ, suc, ◌<◌}
use mathlib.Core.Bool.{Bool, true, false}
use mathlib.Core.List.{List, [], ◌∷◌, ◌++◌, append-nil}
use mathlib.Core.Path.{◌≡◌, refl, sym, ap, ◌∙◌}
use mathlib.Core.Logic.{◌⊎◌, inl, inr}
use native.Mathlib.Omega.{arith}
use borrow.Author.Tests.{eqb-true, eqb-false}
use lib.Dec.{eqb}
use lib.ListN.{length}
use Rattle.refusals.specs.Numbers.{wrong_byte, number_out_of_range, ends_too_early}
use Rattle.image.specs.Bytes.{letter_p}
use Rattle.image.specs.Tests.{any_numbers}
use Rattle.image.specs.Seen.{Seen, bytes_of}
use Rattle.image.specs.Step.{Step, stopped, found}
use Rattle.image.specs.Fields.{header_fields}
use Rattle.image.specs.Kinds.{Kind}
use Rattle.image.specs.FirstFault.{Complete, Begun, Over, NothingOver, OutOfRange, WrongByte, RunsOut}
use Rattle.image.proofs.SeenLists.{bytes_append, seen_as, bytes_seen_lem, parted}
use Rattle.image.proofs.StepsApart.{stopped_apart}
use Rattle.image.proofs.ByteByByte.{Place, in_sign, Onward, goes, fails, ends, onward, carried, walk, header_walks}
use Rattle.image.proofs.BodyForms.{walk_found, walk_over}
use Rattle.image.proofs.BodyRead.{header_read, header_over_read}
use Rattle.image.proofs.HeaderExact.{header_of, on_rest, walk_longer}
use Rattle.image.proofs.WalkStands.{after, walk_on, walk_fails, walk_ends, after_one, FailsAt, fails_at, onward_fails, fails_numbered}
use Rattle.image.proofs.AnyNumbers.{never_fails, never_wrong, loosened, loosened_on, loosened_twice, onward_loosened, GoesOrEnds, going, ending, out_of_range_loosened, after_loosened, completing, completing_some, completed}

module _ (kind : Kind) where
  -- where every header begins, with the kind's tests and whatever its numbers are
  abbrev beginning : Place
  beginning = in_sign (letter_p ∷ kind.sign ∷ []) kind.tests

  abbrev loose : Place
  loose = loosened beginning

  -- a header whatever its numbers is found by the loose walk, and what that finds is one
  complete_walks : (end : ℕ) (l : List Seen) → Complete kind (bytes_of l) → (numbers : List ℕ) × (used : ℕ) × (walk end loose l ≡ found numbers used [])
  complete_walks end l c =
      let h = c.header in
      let finds = header_read end (letter_p ∷ kind.sign ∷ []) l [] h.fields h.last h.split h.written h.one (any_numbers kind.tests) (rw h.writes h.passes) in
      (_, _, ap (walk end loose) (sym (append-nil l)) ∙ finds)

  walks_complete : (end : ℕ) (l : List Seen) {numbers : List ℕ} {used : ℕ} → walk end loose l ≡ found numbers used [] → Complete kind (bytes_of l)
  walks_complete end l {numbers} e =
      let f = walk_found end (letter_p ∷ kind.sign ∷ []) (any_numbers kind.tests) l e in
      let all : l ≡ f.taken = f.split ∙ append-nil f.taken in
      record { numbers = numbers; header = rw (ap bytes_of all) (header_of f) }

  -- where the loose walk stands somewhere, a header has begun …
  goes_begun : (l : List Seen) {place : Place} → after loose l ≡ goes place → Begun kind (bytes_of l)
  goes_begun l {place} e =
      let same : after loose l ≡ goes (loosened place) =
      ap (λ (p : Place). after p l) (sym (loosened_twice beginning)) ∙ after_loosened loose l (λ f. never_fails (sym e ∙ f)) ∙ ap loosened_on e in
      let more = completing place in
      let c = completed ends_too_early place in
      let finds : walk ends_too_early loose (l ++ more) ≡ found c.numbers c.used [] = walk_on ends_too_early loose l more same ∙ c.finds in
      record {
        more = bytes_of more;
        not_none = rw (bytes_length more) (completing_some place);
        completes = rw (← bytes_append l more) (walks_complete ends_too_early (l ++ more) finds);
      }
    where
      bytes_length : (m : List Seen) → length (bytes_of m) ≡ length m
      bytes_length [] = refl
      bytes_length (seen ∷ m) = ap suc (bytes_length m)

  -- … and where one has begun, the loose walk waits for a byte
  begun_waits : (l : List Seen) → Begun kind (bytes_of l) → walk ends_too_early loose l ≡ stopped ends_too_early
  begun_waits l b = by (walk ends_too_early loose l) refl
    where
      whole : Complete kind (bytes_of (l ++ seen_as b.more))
      whole = rw (bytes_append l (seen_as b.more), bytes_seen_lem b.more) b.completes

      longer : (step : Step (List ℕ)) → walk ends_too_early loose l ≡ step → (step ≡ stopped ends_too_early → ⊥)
          → (numbers : List ℕ) × (used : ℕ) × (on_rest (λ rest. rest ++ seen_as b.more) step ≡ found numbers used [])
      longer step is goes_on =
          let w = complete_walks ends_too_early (l ++ seen_as b.more) whole in
          let same = walk_longer ends_too_early loose l (seen_as b.more) (λ waits. goes_on (sym is ∙ waits)) in
          (w.0, w.1, ap (on_rest (λ rest. rest ++ seen_as b.more)) (sym is) ∙ sym same ∙ w.2)

      nothing_more : (rest : List Seen) (more : List ℕ) → 0 < length more → rest ++ seen_as more ≡ [] → ⊥
      nothing_more [] [] some e = omega arith
      nothing_more [] (byte ∷ more) some e = let z : ◌≡◌ {A = ℕ} 0 1 = cc in omega arith
      nothing_more (seen ∷ rest) more some e = let z : ◌≡◌ {A = ℕ} 0 1 = cc in omega arith

      waits : (k : ℕ) → walk ends_too_early loose l ≡ stopped k → (same : Bool) → eqb k ends_too_early ≡ same → ◌≡◌ {A = Step (List ℕ)} (stopped k) (stopped ends_too_early)
      waits k is true e = ap stopped (eqb-true k ends_too_early e)
      waits k is false e = cc (longer (stopped k) is (λ f. eqb-false k ends_too_early e (cc))).2

      by : (step : Step (List ℕ)) → walk ends_too_early loose l ≡ step → step ≡ stopped ends_too_early
      by (stopped k) is = waits k is (eqb k ends_too_early) refl
      by (found numbers used rest) is =
          let w = longer (found numbers used rest) is (λ e. cc (sym e)) in
          absurd (nothing_more rest b.more b.not_none (rest_of w.2))
        where
          rest_of : {n m : List ℕ} {u v : ℕ} {a c : List Seen} → found n u a ≡ found m v c → a ≡ c
          rest_of e = cc

  -- some first part of the bytes is over exactly where the walk finds a number out of range
  over_walks : (end : ℕ) (first rest : List Seen) → Over kind (bytes_of first) → walk end beginning (first ++ rest) ≡ stopped number_out_of_range
  over_walks end first rest o =
      let h = o.header in
      rw o.tests_are
      (header_over_read end (letter_p ∷ kind.sign ∷ []) first rest h.fields h.last h.split h.written h.one o.before o.test o.after
      (rw h.writes h.passes))

  over_stops : (end : ℕ) (l : List Seen) → OutOfRange kind (bytes_of l) → walk end beginning l ≡ stopped number_out_of_range
  over_stops end l r =
      let p = parted l r.first r.rest r.split in
      ap (walk end beginning) p.split ∙ over_walks end p.first p.second (rw p.first_is r.over)

  stops_over : (end : ℕ) → (end ≡ number_out_of_range → ⊥) → (l : List Seen) → walk end beginning l ≡ stopped number_out_of_range → OutOfRange kind (bytes_of l)
  stops_over end other l e =
      let o = walk_over end other (letter_p ∷ kind.sign ∷ []) kind.tests l e in
      let f = o.formed in
      record {
        first = bytes_of f.taken;
        rest = bytes_of o.rest;
        split = ap bytes_of f.split ∙ bytes_append f.taken o.rest;
        over = record {
          before = o.before;
          test = o.test;
          after = o.after;
          tests_are = o.tests_are;
          numbers = o.values;
          header = header_of f;
        };
      }

  -- the bytes run out exactly where the walk still stands somewhere: so far a header can come, and no number is out of range
  goes_loose : (l : List Seen) {place : Place} → after beginning l ≡ goes place → after loose l ≡ goes (loosened place)
  goes_loose l {place} e = after_loosened beginning l (λ f. never_fails (sym e ∙ f)) ∙ ap loosened_on e

  waits_there : (l : List Seen) {place : Place} → after beginning l ≡ goes place → walk ends_too_early beginning l ≡ stopped ends_too_early
  unfolding walk
  waits_there l e = ap (walk ends_too_early beginning) (sym (append-nil l)) ∙ walk_on ends_too_early beginning l [] e

  goes_nothing_over : (l : List Seen) {place : Place} → after beginning l ≡ goes place → NothingOver kind (bytes_of l)
  goes_nothing_over l e first rest split over =
      stopped_apart ends_too_early number_out_of_range (λ same. omega arith)
      (sym (waits_there l e) ∙ over_stops ends_too_early l record { first = first; rest = rest; split = split; over = over })

  goes_runs_out : (l : List Seen) {place : Place} → after beginning l ≡ goes place → RunsOut kind (bytes_of l)
  goes_runs_out l e = record { begun = goes_begun l (goes_loose l e); nothing_over = goes_nothing_over l e }

  loose_fails : (l : List Seen) → after beginning l ≡ fails wrong_byte → walk ends_too_early loose l ≡ stopped wrong_byte
  loose_fails l is =
      let loosely : after loose l ≡ fails wrong_byte = after_loosened beginning l (λ f. never_wrong (sym is ∙ f)) ∙ ap loosened_on is in
      ap (walk ends_too_early loose) (sym (append-nil l)) ∙ walk_fails ends_too_early loose l [] loosely

  record Stands (l : List Seen) : Type 0 where
    place : Place
    comes : after beginning l ≡ goes place

  runs_out_stands : (l : List Seen) → RunsOut kind (bytes_of l) → Stands l
  runs_out_stands l r = by (after beginning l) refl
    where
      waits : walk ends_too_early loose l ≡ stopped ends_too_early
      waits = begun_waits l r.begun

      out_of_range : after beginning l ≡ fails number_out_of_range → Stands l
      out_of_range is =
          let o = stops_over ends_too_early (λ e. omega arith) l (ap (walk ends_too_early beginning) (sym (append-nil l)) ∙ walk_fails ends_too_early beginning l [] is) in
          absurd (r.nothing_over o.first o.rest o.split o.over)

      wrong : after beginning l ≡ fails wrong_byte → Stands l
      wrong is = stopped_apart wrong_byte ends_too_early (λ e. omega arith) (sym (loose_fails l is) ∙ waits)

      failing_with : (k : ℕ) → after beginning l ≡ fails k → (k ≡ wrong_byte) ⊎ (k ≡ number_out_of_range) → Stands l
      failing_with k is (inl e) = wrong (is ∙ ap fails e)
      failing_with k is (inr e) = out_of_range (is ∙ ap fails e)

      by : (o : Onward) → after beginning l ≡ o → Stands l
      by (goes place) is = record { place = place; comes = is }
      by (fails k) is = failing_with k is (fails_numbered beginning l is)
      by (ends numbers) is =
          let loosely : after loose l ≡ ends numbers = after_loosened beginning l (λ f. unlike_ends (sym is ∙ f)) ∙ ap loosened_on is in
          cc (sym waits ∙ (walk_ends ends_too_early loose l loosely).2)
        where
          unlike_ends : ends numbers ≡ fails number_out_of_range → ⊥
          unlike_ends e = cc

  -- a byte is wrong exactly where the walk fails with 11
  fails_wrong_byte : (l : List Seen) → FailsAt beginning l wrong_byte → WrongByte kind (bytes_of l)
  fails_wrong_byte l f =
      let with_it : after beginning (f.first ++ (f.seen ∷ [])) ≡ fails wrong_byte = after_one beginning f.first f.seen f.comes ∙ f.there in
      let stops = loose_fails (f.first ++ (f.seen ∷ [])) with_it in
      let bytes_are = bytes_append f.first (f.seen ∷ []) in
      record {
        first = bytes_of f.first;
        byte = f.seen.byte;
        rest = bytes_of f.rest;
        split = ap bytes_of f.split ∙ bytes_append f.first (f.seen ∷ f.rest);
        begun = goes_begun f.first (goes_loose f.first f.comes);
        nothing_over = goes_nothing_over f.first f.comes;
        not_begun = λ b. stopped_apart wrong_byte ends_too_early (λ e. omega arith) (sym stops ∙ begun_waits (f.first ++ (f.seen ∷ [])) (rw bytes_are b));
        not_complete = λ c. cc (sym stops ∙ (complete_walks ends_too_early (f.first ++ (f.seen ∷ [])) (rw bytes_are c)).2);
      }

  -- one byte more of a header whatever its numbers: it has begun with it, or is whole
  module _ (first : List Seen) (seen : Seen) {place : Place} (comes : after beginning first ≡ goes place) where
    goes_with : {next : Place} → onward (loosened place) seen.byte ≡ goes next → Begun kind (bytes_of (first ++ (seen ∷ [])))
    goes_with e = goes_begun (first ++ (seen ∷ [])) (after_one loose first seen (goes_loose first comes) ∙ e)

    ends_with : {numbers : List ℕ} → onward (loosened place) seen.byte ≡ ends numbers → Complete kind (bytes_of (first ++ (seen ∷ [])))
    unfolding walk
    ends_with e =
        walks_complete ends_too_early (first ++ (seen ∷ []))
        (walk_on ends_too_early loose first (seen ∷ []) (goes_loose first comes) ∙ ap (carried seen [] (λ next. walk ends_too_early next [])) e)

    either_with : GoesOrEnds (onward (loosened place) seen.byte) → (Begun kind (bytes_of (first ++ (seen ∷ []))) → ⊥)
        → (Complete kind (bytes_of (first ++ (seen ∷ []))) → ⊥) → ⊥
    either_with (going next e) not_begun not_complete = not_begun (goes_with e)
    either_with (ending numbers e) not_begun not_complete = not_complete (ends_with e)

    -- where it neither has begun nor is whole with it, the byte is wrong
    wrong_with : (Begun kind (bytes_of (first ++ (seen ∷ []))) → ⊥) → (Complete kind (bytes_of (first ++ (seen ∷ []))) → ⊥)
        → onward place seen.byte ≡ fails wrong_byte
    wrong_with not_begun not_complete = by (onward place seen.byte) refl
      where
        loosely : (o : Onward) → onward place seen.byte ≡ o → (o ≡ fails number_out_of_range → ⊥) → onward (loosened place) seen.byte ≡ loosened_on o
        loosely o is in_range = onward_loosened place seen.byte (λ f. in_range (sym is ∙ f)) ∙ ap loosened_on is

        failing_with : (k : ℕ) → onward place seen.byte ≡ fails k → (k ≡ wrong_byte) ⊎ (k ≡ number_out_of_range) → fails k ≡ fails wrong_byte
        failing_with k is (inl e) = ap fails e
        failing_with k is (inr e) = absurd (either_with (out_of_range_loosened place seen.byte (is ∙ ap fails e)) not_begun not_complete)

        by : (o : Onward) → onward place seen.byte ≡ o → o ≡ fails wrong_byte
        by (goes next) is =
            absurd (not_begun (goes_with (loosely (goes next) is (λ e. (let z : ◌≡◌ {A = ℕ} 0 1 = cc in omega arith)))))
        by (ends numbers) is =
            absurd (not_complete (ends_with (loosely (ends numbers) is (λ e. (let z : ◌≡◌ {A = ℕ} 0 1 = cc in omega arith)))))
        by (fails k) is = failing_with k is (onward_fails place seen.byte is)

  wrong_byte_stops : (end : ℕ) (l : List Seen) → WrongByte kind (bytes_of l) → walk end beginning l ≡ stopped wrong_byte
  unfolding walk
  wrong_byte_stops end l w =
      let p = parted l w.first (w.byte ∷ w.rest) w.split in
      ap (walk end beginning) p.split ∙ by p.first p.first_is p.second p.second_is
    where
      by : (first : List Seen) → bytes_of first ≡ w.first → (second : List Seen) → bytes_of second ≡ w.byte ∷ w.rest
          → walk end beginning (first ++ second) ≡ stopped wrong_byte
      by first first_is [] e = cc
      by first first_is (seen ∷ second) e =
          let s = runs_out_stands first record { begun = rw first_is w.begun; nothing_over = rw first_is w.nothing_over } in
          let byte_is : seen.byte ≡ w.byte = cc in
          let bytes_are : bytes_of (first ++ (seen ∷ [])) ≡ w.first ++ (w.byte ∷ []) = bytes_append first (seen ∷ []) ∙ λ i. first_is i ++ (byte_is i ∷ []) in
          walk_on end beginning first (seen ∷ second) s.comes
          ∙ ap (carried seen second (λ next. walk end next second))
          (wrong_with first seen s.comes (λ b. w.not_begun (rw (← bytes_are) b)) (λ c. w.not_complete (rw (← bytes_are) c)))

  runs_out_stops : (end : ℕ) (l : List Seen) → RunsOut kind (bytes_of l) → walk end beginning l ≡ stopped end
  unfolding walk
  runs_out_stops end l r = ap (walk end beginning) (sym (append-nil l)) ∙ walk_on end beginning l [] (runs_out_stands l r).comes

  -- a reading that stops does so at a wrong byte, at a number out of range, or because the bytes run out
  pub data HeaderFault (end : ℕ) (bytes : List ℕ) (refusal : ℕ) : Type 0 where
    at_wrong_byte : refusal ≡ wrong_byte → WrongByte kind bytes → HeaderFault end bytes refusal
    at_number : refusal ≡ number_out_of_range → OutOfRange kind bytes → HeaderFault end bytes refusal
    at_end : refusal ≡ end → RunsOut kind bytes → HeaderFault end bytes refusal

  pub header_fault : (end : ℕ) → (end ≡ number_out_of_range → ⊥) → (l : List Seen) {refusal : ℕ}
      → header_fields end kind.sign kind.tests l ≡ stopped refusal → HeaderFault end (bytes_of l) refusal
  unfolding walk
  header_fault end other l {refusal} e = by (after beginning l) refl
    where
      stops : walk end beginning l ≡ stopped refusal
      stops = sym (header_walks end kind.sign kind.tests l) ∙ e

      refusal_of_lem : {j k : ℕ} → ◌≡◌ {A = Step (List ℕ)} (stopped j) (stopped k) → j ≡ k
      refusal_of_lem e = cc

      failing_with : (k : ℕ) → after beginning l ≡ fails k → refusal ≡ k → (k ≡ wrong_byte) ⊎ (k ≡ number_out_of_range) → HeaderFault end (bytes_of l) refusal
      failing_with k is same (inl e) = at_wrong_byte (same ∙ e) (fails_wrong_byte l (fails_at beginning l (is ∙ ap fails e)))
      failing_with k is same (inr e) = at_number (same ∙ e) (stops_over end other l (stops ∙ ap stopped (same ∙ e)))

      by : (o : Onward) → after beginning l ≡ o → HeaderFault end (bytes_of l) refusal
      by (goes place) is =
          at_end (refusal_of_lem (sym stops ∙ ap (walk end beginning) (sym (append-nil l)) ∙ walk_on end beginning l [] is)) (goes_runs_out l is)
      by (fails k) is =
          failing_with k is (refusal_of_lem (sym stops ∙ ap (walk end beginning) (sym (append-nil l)) ∙ walk_fails end beginning l [] is)) (fails_numbered beginning l is)
      by (ends numbers) is = cc (sym stops ∙ (walk_ends end beginning l is).2)

  pub fault_stops : (end : ℕ) (l : List Seen) {refusal : ℕ} → HeaderFault end (bytes_of l) refusal
      → header_fields end kind.sign kind.tests l ≡ stopped refusal
  fault_stops end l (at_wrong_byte is w) = header_walks end kind.sign kind.tests l ∙ wrong_byte_stops end l w ∙ ap stopped (sym is)
  fault_stops end l (at_number is o) = header_walks end kind.sign kind.tests l ∙ over_stops end l o ∙ ap stopped (sym is)
  fault_stops end l (at_end is r) = header_walks end kind.sign kind.tests l ∙ runs_out_stops end l r ∙ ap stopped (sym is)
