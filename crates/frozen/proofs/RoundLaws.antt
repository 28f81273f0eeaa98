-- A round by its first turn; and after a turn the places fit still.
-- Assumes nothing.
use Prim.Native.Nat.{ℕ, suc, ◌≤◌}
use mathlib.Core.Bool.{Bool}
use mathlib.Core.List.{List}
use mathlib.Core.Path.{◌≡◌, refl, ap}
use native.Mathlib.Omega.{arith}
use lib.ListN.{length}
use Rattle.watch.specs.Answers.{Turn, Row, Refused, Ends, Wait}
use Rattle.watch.specs.Turn.{outcome_of}
use Rattle.image.specs.Seen.{limit}
use Rattle.frozen.specs.declared.desk.Desk.{Desk}
use Rattle.frozen.specs.Desk.{last_in, hand_in, Fits}
use Rattle.frozen.specs.declared.round.Go.{Go}
use Rattle.frozen.specs.declared.round.Go.TheVariants.{Again, Read, Done}
use Rattle.frozen.specs.Round.{Rounded, used_by, desk_after, turn_at, behind, goes_on, round_of}
use Rattle.frozen.proofs.DeskLaws.{hand_length}
use Rattle.frozen.proofs.TurnsOfWatch.{used_there}

module _ (desk : Desk) (ring buf : List ℕ) (over : Bool) where
  -- after a turn the places fit still
  pub turn_fits : Fits desk (length buf) → Fits (turn_at desk ring buf over).desk (length buf)
  unfolding turn_at
  turn_fits fits = by (outcome_of desk.state ring (last_in buf desk) (hand_in buf desk) over).turn used.0 used.1
    where
      used : (used_by (outcome_of desk.state ring (last_in buf desk) (hand_in buf desk) over).turn ≤ length (hand_in buf desk))
          × (used_by (outcome_of desk.state ring (last_in buf desk) (hand_in buf desk) over).turn ≤ limit)
      used = used_there desk.state ring (last_in buf desk) (hand_in buf desk) over

      by : (turn : Turn) → used_by turn ≤ length (hand_in buf desk) → used_by turn ≤ limit → Fits (desk_after desk turn) (length buf)
      by (Row line) there image =
          record {
            starts = omega arith;
            order = omega (arith, hand_length desk buf fits, fits.order);
            there = fits.there;
            image = omega arith;
          }
      by (Refused refusal) there image = fits
      by Ends there image = fits
      by Wait there image = fits

  -- a turn that is followed by another, and one that is not
  abbrev turn : Rounded
  turn = turn_at desk ring buf over

  pub round_goes_on : (turns : ℕ) → turn.go ≡ Again
      → round_of (suc turns) desk ring buf over ≡ behind turn.text (round_of turns turn.desk turn.ring buf over)
  unfolding round_of
  round_goes_on turns e = ap (λ (g : Go). goes_on g turn (round_of turns turn.desk turn.ring buf over)) e

  pub round_stops : (turns : ℕ) → (turn.go ≡ Again → ⊥) → round_of (suc turns) desk ring buf over ≡ turn
  unfolding round_of
  round_stops turns ne = by turn.go ne
    where
      by : (go : Go) → (go ≡ Again → ⊥) → goes_on go turn (round_of turns turn.desk turn.ring buf over) ≡ turn
      by Again never = absurd (never refl)
      by Read never = refl
      by Done never = refl
