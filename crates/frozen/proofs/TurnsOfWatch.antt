-- What the program needs of watch's outcomes: where a turn waits, the input is not over and the ring is as it was; the image of a row has
-- no more bytes than an image may have; a turn takes bytes at hand alone.
-- Assumes nothing.
use Prim.Native.Nat.{ℕ, ◌≤◌}
use mathlib.Core.Bool.{Bool, true, false}
use mathlib.Core.List.{List}
use mathlib.Core.Path.{◌≡◌, refl, sym, ap, ◌∙◌}
use native.Mathlib.Omega.{arith}
use borrow.Author.Tests.{ltb-true, ltb-false}
use lib.Dec.{ltb}
use lib.ListN.{length, take, drop, take-append-drop}
use lib.Seq.{length-take-le}
use Rattle.image.specs.Seen.{limit}
use Rattle.watch.specs.Answers.{Turn, Row, Refused, Ends, Wait}
use Rattle.watch.specs.declared.State.{State}
use Rattle.watch.specs.declared.Line.{Line}
use Rattle.watch.specs.Turn.{Outcome, outcome_of}
use Rattle.watch.proofs.OutcomeCases.{outcome_cases}
use Rattle.watch.proofs.Streaming.{decided_no_wait, wait_short, outcome_stays, row_used}
use Rattle.frozen.specs.Round.{used_by}

module _ (state : State) (ring last rest : List ℕ) (over : Bool) where
  pub wait_leaves : (outcome_of state ring last rest over).turn ≡ Wait → (over ≡ false) × ((outcome_of state ring last rest over).ring ≡ ring)
  wait_leaves =
      outcome_cases state ring last rest over (λ o. o.turn ≡ Wait → (over ≡ false) × (o.ring ≡ ring)) (λ go why e. (go, refl))
      (λ done none e. absurd cc) (λ some whole e. absurd (decided_no_wait state ring last rest e))

  -- the first 24,576 bytes give the same row
  pub row_within : (line : Line) → (outcome_of state ring last rest over).turn ≡ Row line → line.used ≤ limit
  row_within line row = by (ltb limit (length rest)) refl
    where
      short : List ℕ
      short = take limit rest

      by : (b : Bool) → ltb limit (length rest) ≡ b → line.used ≤ limit
      by false e = omega (arith, ltb-false limit (length rest) e, (row_used state ring last rest over line row).1)
      by true e =
          let many : length short ≡ limit = length-take-le limit rest (omega (arith, ltb-true limit (length rest) e)) in
          let stays = outcome_stays state ring last short (drop limit rest)
          (λ wait. let few = wait_short state ring last short wait in omega (arith, few, many)) over in
          let all = ap (λ (l : List ℕ). outcome_of state ring last l over) (take-append-drop limit rest) in
          let same : (outcome_of state ring last short false).turn ≡ Row line = ap (λ (o : Outcome). o.turn) (sym stays ∙ all) ∙ row in
          omega (arith, many, (row_used state ring last short false line same).1)

  -- a turn takes bytes at hand, no more than an image has
  pub used_there : (used_by (outcome_of state ring last rest over).turn ≤ length rest) × (used_by (outcome_of state ring last rest over).turn ≤ limit)
  used_there = by (outcome_of state ring last rest over).turn refl
    where
      by : (turn : Turn) → (outcome_of state ring last rest over).turn ≡ turn → (used_by turn ≤ length rest) × (used_by turn ≤ limit)
      by (Row line) row = ((row_used state ring last rest over line row).1, row_within line row)
      by (Refused refusal) e = (omega arith, omega arith)
      by Ends e = (omega arith, omega arith)
      by Wait e = (omega arith, omega arith)
