-- A turn of the program, from a moment of watch's run that stands on the desk: a row is a turn of the run, and the moment after it stands on
-- the desk again; a turn that waits leaves all as it was; any other turn completes the output.
-- Assumes nothing.
use Prim.Native.Nat.{ℕ, ◌+◌, ◌-◌, ◌≤◌, ◌<◌}
use mathlib.Core.Bool.{Bool, true, false}
use mathlib.Core.List.{List, [], ◌∷◌, ◌++◌, append-nil}
use mathlib.Core.Path.{◌≡◌, refl, sym, ap, subst, ◌∙◌}
use native.Mathlib.Omega.{arith}
use lib.ListN.{length, take, drop, length-drop}
use lib.Seq.{take-take, drop-drop}
use Rattle.image.specs.Seen.{limit}
use Rattle.watch.specs.Answers.{Turn, Row, Refused, Ends, Wait}
use Rattle.watch.specs.declared.Line.{Line}
use Rattle.watch.specs.Turn.{Outcome, outcome_of}
use Rattle.watch.specs.Calls.{step_text}
use Rattle.watch.specs.Output.{Moment, Runs, reads, turns, after_read, outcome_at, output_of}
use Rattle.watch.proofs.Streaming.{wait_short, outcome_stays, row_used, row_either_way}
use Rattle.watch.proofs.Whole.{end_right}
use Rattle.frozen.specs.declared.desk.Desk.{Desk}
use Rattle.frozen.specs.Desk.{last_in, hand_in, Fits}
use Rattle.frozen.specs.declared.round.Go.TheVariants.{Again, Read, Done}
use Rattle.frozen.specs.Round.{desk_after, go_after, turn_at}
use Rattle.frozen.specs.Running.{moment_on, Along, WholeOutput}
use Rattle.frozen.proofs.Parts.{drop_take}
use Rattle.frozen.proofs.DeskLaws.{hand_length}
use Rattle.frozen.proofs.TurnsOfWatch.{wait_leaves}

-- the desk behind an image holds that image as the one before, and the bytes behind it
module _ (desk : Desk) (buf : List ℕ) (fits : Fits desk (length buf)) (line : Line) (there : line.used ≤ length (hand_in buf desk)) where
  inside : line.used ≤ desk.end - desk.at
  inside = omega (arith, hand_length desk buf fits)

  row_last : take line.used (hand_in buf desk) ≡ last_in buf (desk_after desk (Row line))
  row_last =
      let many : line.used ≡ desk.at + line.used - desk.at = omega arith in
      take-take line.used (desk.end - desk.at) (drop desk.at buf) inside ∙ ap (λ (k : ℕ). take k (drop desk.at buf)) many

  row_hand : drop line.used (hand_in buf desk) ≡ hand_in buf (desk_after desk (Row line))
  row_hand =
      let long : desk.end - desk.at ≤ length (drop desk.at buf) = rw (length-drop desk.at buf) (omega (arith, fits.there)) in
      let many : desk.end - desk.at - line.used ≡ desk.end - (desk.at + line.used) = omega arith in
      drop_take line.used (desk.end - desk.at) (drop desk.at buf) inside long
      ∙ ap (λ (k : ℕ). take k (drop line.used (drop desk.at buf))) many
      ∙ ap (λ (l : List ℕ). take (desk.end - (desk.at + line.used)) l) (drop-drop line.used desk.at buf)

-- ONE TURN from a moment that stands on the desk
module _ (consumed written : List ℕ) (desk : Desk) (ring buf : List ℕ) (over : Bool) (fits : Fits desk (length buf))
    (along : Along consumed written desk ring buf) where
  abbrev outcome : Outcome
  outcome = outcome_of desk.state ring (last_in buf desk) (hand_in buf desk) over

  abbrev before : List ℕ → Moment
  before unread = moment_on desk ring buf written along.lines unread

  -- a row is a turn of the run
  row_along : (line : Line) → outcome.turn ≡ Row line
      → Along consumed (written ++ step_text desk.state (Row line)) (desk_after desk (Row line)) outcome.ring buf
  row_along line row =
      let there = (row_used desk.state ring (last_in buf desk) (hand_in buf desk) over line row).1 in
      let either = row_either_way desk.state ring (last_in buf desk) (hand_in buf desk) over line row false in
      record {
        lines = line ∷ along.lines;
        run = λ unread.
            subst (λ (m : Moment). Runs (consumed ++ unread) m)
            (λ i. record {
              written = written ++ step_text desk.state (Row line);
              lines = line ∷ along.lines;
              state = line.state;
              ring = ap (λ (o : Outcome). o.ring) either i;
              last = row_last desk buf fits line there i;
              hand = row_hand desk buf fits line there i;
              unread = unread;
            })
            (turns (before unread) (along.run unread) line (ap (λ (o : Outcome). o.turn) either ∙ row));
      }

  -- where the program goes on, the moment after the turn stands on the desk
  pub turn_along : ((turn_at desk ring buf over).go ≡ Done → ⊥)
      → Along consumed (written ++ (turn_at desk ring buf over).text) (turn_at desk ring buf over).desk (turn_at desk ring buf over).ring buf
  unfolding turn_at
  turn_along = by outcome.turn refl
    where
      by : (turn : Turn) → outcome.turn ≡ turn → (go_after turn ≡ Done → ⊥)
          → Along consumed (written ++ step_text desk.state turn) (desk_after desk turn) outcome.ring buf
      by (Row line) row on = row_along line row
      by (Refused refusal) e on = absurd (on refl)
      by Ends e on = absurd (on refl)
      by Wait e on =
          let same = (wait_leaves desk.state ring (last_in buf desk) (hand_in buf desk) over e).1 in
          subst (λ (w : List ℕ). Along consumed w desk outcome.ring buf) (sym (append-nil written))
          (subst (λ (r : List ℕ). Along consumed written desk r buf) (sym same) along)

  -- a turn that is neither a row nor a wait is the last, at the end of the input …
  last_over : over ≡ true → ((line : Line) → outcome.turn ≡ Row line → ⊥) → (unread : List ℕ) → unread ≡ []
      → written ++ step_text desk.state outcome.turn ≡ output_of (consumed ++ unread)
  last_over o none unread all =
      let same = ap (λ (b : Bool). outcome_at (before unread) b) o in
      ap (λ (x : Outcome). written ++ step_text desk.state x.turn) same
      ∙ end_right (consumed ++ unread) (before unread) (along.run unread) all
      (λ line row. none line (ap (λ (x : Outcome). x.turn) same ∙ row))

  -- … and before it, however the input goes on
  last_anyway : over ≡ false → ((line : Line) → outcome.turn ≡ Row line → ⊥) → (outcome.turn ≡ Wait → ⊥) → (unread : List ℕ)
      → written ++ step_text desk.state outcome.turn ≡ output_of (consumed ++ unread)
  last_anyway o none goes unread =
      let now : outcome_at (before unread) false ≡ outcome = ap (λ (b : Bool). outcome_at (before unread) b) (sym o) in
      let stays = outcome_stays desk.state ring (last_in buf desk) (hand_in buf desk) unread
      (λ wait. goes (sym (ap (λ (x : Outcome). x.turn) now) ∙ wait)) true in
      let same : outcome_at (after_read (before unread) unread []) true ≡ outcome = stays ∙ now in
      ap (λ (x : Outcome). written ++ step_text desk.state x.turn) (sym same)
      ∙ end_right (consumed ++ unread) (after_read (before unread) unread [])
      (reads (before unread) (along.run unread) unread [] (sym (append-nil unread))) refl
      (λ line row. none line (ap (λ (x : Outcome). x.turn) (sym same) ∙ row))

  last_turn : ((line : Line) → outcome.turn ≡ Row line → ⊥) → (outcome.turn ≡ Wait → ⊥)
      → WholeOutput consumed (written ++ step_text desk.state outcome.turn) over
  last_turn none goes unread all = by over refl
    where
      by : (b : Bool) → over ≡ b → written ++ step_text desk.state outcome.turn ≡ output_of (consumed ++ unread)
      by true o = last_over o none unread (all o)
      by false o = last_anyway o none goes unread

  pub turn_whole : (turn_at desk ring buf over).go ≡ Done → WholeOutput consumed (written ++ (turn_at desk ring buf over).text) over
  unfolding turn_at
  turn_whole ends =
      last_turn (λ line row. let go : Again ≡ Done = sym (ap go_after row) ∙ ends in cc)
      (λ wait. let go : Read ≡ Done = sym (ap go_after wait) ∙ ends in cc)

-- where the program is to read, the input is not over, and fewer bytes are at hand than an image may have
pub turn_waits : (desk : Desk) (ring buf : List ℕ) (over : Bool) → (turn_at desk ring buf over).go ≡ Read
    → (over ≡ false) × (length (hand_in buf (turn_at desk ring buf over).desk) < limit)
unfolding turn_at
turn_waits desk ring buf over = by (outcome_of desk.state ring (last_in buf desk) (hand_in buf desk) over).turn refl
  where
    by : (turn : Turn) → (outcome_of desk.state ring (last_in buf desk) (hand_in buf desk) over).turn ≡ turn → go_after turn ≡ Read
        → (over ≡ false) × (length (hand_in buf (desk_after desk turn)) < limit)
    by (Row line) e go = absurd cc
    by (Refused refusal) e go = absurd cc
    by Ends e go = absurd cc
    by Wait e go =
        let open_yet = (wait_leaves desk.state ring (last_in buf desk) (hand_in buf desk) over e).0 in (
          open_yet,
          wait_short desk.state ring (last_in buf desk) (hand_in buf desk)
              (ap (λ (b : Bool). (outcome_of desk.state ring (last_in buf desk) (hand_in buf desk) b).turn) (sym open_yet) ∙ e),
        )
