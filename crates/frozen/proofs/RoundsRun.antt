-- THE PROGRAM'S ROUNDS ARE A RUN: from a moment of watch's run that stands on the desk, a round leads to one that stands on the desk after it;
-- where the program reads, the input is not over and an image has room; where it ends, the output is whole.
-- Assumes nothing.
use Prim.Native.Nat.{ℕ, zero, suc, ◌<◌}
use mathlib.Core.Bool.{Bool, false}
use mathlib.Core.List.{List, ◌++◌, append_assoc, append-nil}
use mathlib.Core.Path.{◌≡◌, refl, sym, subst}
use lib.ListN.{length}
use Rattle.image.specs.Seen.{limit}
use Rattle.frozen.specs.declared.desk.Desk.{Desk}
use Rattle.frozen.specs.Desk.{hand_in, Fits}
use Rattle.frozen.specs.declared.round.Go.{Go}
use Rattle.frozen.specs.declared.round.Go.TheVariants.{Again, Read, Done}
use Rattle.frozen.specs.Round.{Rounded, turn_at, behind, round_of}
use Rattle.frozen.specs.Running.{Along, WholeOutput}
use Rattle.frozen.proofs.RoundLaws.{turn_fits, round_goes_on, round_stops}
use Rattle.frozen.proofs.TurnsRun.{turn_along, turn_whole, turn_waits}

-- what a round leads to where `written` was written before it
pub record Leads (consumed written buf : List ℕ) (over : Bool) (rounded : Rounded) : Type 0 where
  pub fits : Fits rounded.desk (length buf)
  pub along : (rounded.go ≡ Done → ⊥) → Along consumed (written ++ rounded.text) rounded.desk rounded.ring buf
  pub waits : rounded.go ≡ Read → (over ≡ false) × (length (hand_in buf rounded.desk) < limit)
  pub whole : rounded.go ≡ Done → WholeOutput consumed (written ++ rounded.text) over

-- rows in front were written before
leads_behind : (consumed written buf : List ℕ) (over : Bool) (text : List ℕ) (rounded : Rounded)
    → Leads consumed (written ++ text) buf over rounded → Leads consumed written buf over (behind text rounded)
leads_behind consumed written buf over text rounded leads =
    let same = append_assoc written text rounded.text in
    record {
      fits = leads.fits;
      along = λ on. subst (λ (w : List ℕ). Along consumed w rounded.desk rounded.ring buf) same (leads.along on);
      waits = leads.waits;
      whole = λ ends. subst (λ (w : List ℕ). WholeOutput consumed w over) same (leads.whole ends);
    }

pub round_leads : (turns : ℕ) (consumed written : List ℕ) (desk : Desk) (ring buf : List ℕ) (over : Bool) → Fits desk (length buf)
    → Along consumed written desk ring buf → Leads consumed written buf over (round_of turns desk ring buf over)
unfolding round_of
round_leads zero consumed written desk ring buf over fits along =
    record {
      fits = fits;
      along = λ on. subst (λ (w : List ℕ). Along consumed w desk ring buf) (sym (append-nil written)) along;
      waits = λ e. absurd cc;
      whole = λ e. absurd cc;
    }
round_leads (suc turns) consumed written desk ring buf over fits along =
    by turn.go refl (λ on. round_leads turns consumed (written ++ turn.text) turn.desk turn.ring buf over
    (turn_fits desk ring buf over fits) (turn_along consumed written desk ring buf over fits along on))
  where
    turn : Rounded
    turn = turn_at desk ring buf over

    stops : (turn.go ≡ Again → ⊥) → Leads consumed written buf over (round_of (suc turns) desk ring buf over)
    stops never =
        subst (λ (r : Rounded). Leads consumed written buf over r) (sym (round_stops desk ring buf over turns never))
        (record {
          fits = turn_fits desk ring buf over fits;
          along = turn_along consumed written desk ring buf over fits along;
          waits = turn_waits desk ring buf over;
          whole = turn_whole consumed written desk ring buf over fits along;
        })

    by : (go : Go) → turn.go ≡ go
        → ((turn.go ≡ Done → ⊥) → Leads consumed (written ++ turn.text) buf over (round_of turns turn.desk turn.ring buf over))
        → Leads consumed written buf over (round_of (suc turns) desk ring buf over)
    by Again e later =
        subst (λ (r : Rounded). Leads consumed written buf over r) (sym (round_goes_on desk ring buf over turns e))
        (leads_behind consumed written buf over turn.text _ (later (λ d. cc (e, d))))
    by Read e later = stops (λ z. cc (e, z))
    by Done e later = stops (λ z. cc (e, z))
