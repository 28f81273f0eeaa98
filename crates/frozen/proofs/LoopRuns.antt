-- The program's loop, step by step: what is read is a read of watch's run; a round leads on along it, or completes the output.
-- Assumes nothing.
use Prim.Native.Nat.{ℕ, ◌+◌, ◌-◌, ◌≤◌, ◌<◌}
use mathlib.Core.Bool.{Bool}
use mathlib.Core.List.{List, ◌++◌, append_assoc}
use mathlib.Core.Path.{◌≡◌, refl, sym, ap, subst, ◌∙◌}
use native.Mathlib.Omega.{arith}
use lib.ListN.{length, take, drop}
use lib.Seq.{sets-eq, take-append_seam}
use Rattle.image.specs.Seen.{limit}
use Rattle.watch.specs.Output.{Moment, Runs, reads}
use Rattle.frozen.specs.declared.desk.Desk.{Desk}
use Rattle.frozen.specs.declared.round.Round.{Round}
use Rattle.frozen.specs.declared.Given.{Given}
use Rattle.frozen.specs.Desk.{hand_in, Fits, Received}
use Rattle.frozen.specs.declared.round.Go.{Go}
use Rattle.frozen.specs.declared.round.Go.TheVariants.{Again, Read, Done}
use Rattle.frozen.specs.Round.{turns_most, Rounded, round_of, Tells}
use Rattle.frozen.specs.Running.{moment_on, Along, Standing, Supplied, Due, rows, Complete}
use Rattle.frozen.proofs.DeskLaws.{hand_length}
use Rattle.frozen.proofs.RoundsRun.{Leads, round_leads}

-- WHAT IS READ is a read of the run
along_read : (consumed written : List ℕ) (desk : Desk) (ring buf : List ℕ) → Along consumed written desk ring buf
    → (after : Desk) (over : Bool) (buf_after : List ℕ) → (got : Received desk buf after over buf_after)
    → Along (consumed ++ got.piece) written after ring buf_after
along_read consumed written desk ring buf along after over buf_after got =
    record {
      lines = along.lines;
      run = λ unread.
          let piece = got.piece in
          let before = moment_on desk ring buf written along.lines (piece ++ unread) in
          subst (λ (input : List ℕ). Runs input (moment_on after ring buf_after written along.lines unread))
          (sym (append_assoc consumed piece unread))
          (subst (λ (m : Moment). Runs (consumed ++ (piece ++ unread)) m)
          (λ i. record {
            written = written;
            lines = along.lines;
            state = sym got.state i;
            ring = ring;
            last = sym got.last i;
            hand = sym got.hand i;
            unread = unread;
          })
          (reads before (along.run (piece ++ unread)) piece unread refl));
    }

-- WHERE THE LOOP STANDS
pub record Stands (told : Round) (ring buf : List ℕ) : Type 0 where
  pub standing : Standing told.desk ring buf
  pub fits : Fits told.desk (length buf)
  pub short : told.go ≡ Read → told.desk.end - told.desk.at < limit

reads_next : (go : Go) → Dec (go ≡ Read)
reads_next Again = no (λ e. cc)
reads_next Read = yes refl
reads_next Done = no (λ e. cc)

pub supplied_stands : {told : Round} {ring buf : List ℕ} → Stands told ring buf → (over : Bool) (given : Given) (buf_after : List ℕ)
    → Supplied told buf over given buf_after → Standing given.desk ring buf_after × Fits given.desk (length buf_after)
supplied_stands {told} {ring} {buf} stands over given buf_after supplied = by (reads_next told.go)
  where
    by : Dec (told.go ≡ Read) → Standing given.desk ring buf_after × Fits given.desk (length buf_after)
    by (yes e) =
        let got = supplied.0 e in
        let s = stands.standing in (
          record {
            consumed = s.consumed ++ got.piece;
            written = s.written;
            along = along_read s.consumed s.written told.desk ring buf s.along given.desk given.over buf_after got;
          },
          got.fits,
        )
    by (no ne) =
        let same = supplied.1 ne in
        let places = ap (λ (g : Given). g.desk) same.0 in (
          subst (λ (d : Desk). Standing d ring buf_after) (sym places)
              (subst (λ (b : List ℕ). Standing told.desk ring b) (sym same.1) stands.standing),
          subst (λ (d : Desk). Fits d (length buf_after)) (sym places)
              (subst (λ (b : List ℕ). Fits told.desk (length b)) (sym same.1) stands.fits),
        )

-- A ROUND from there
module _ {desk : Desk} {ring buf out : List ℕ} (over : Bool) (standing : Standing desk ring buf) (fits : Fits desk (length buf))
    {told : Round} {ring_after out_after : List ℕ} (tells : Tells (round_of turns_most desk ring buf over) out 0 told ring_after out_after) where
  abbrev rounded : Rounded
  rounded = round_of turns_most desk ring buf over

  leads : Leads standing.consumed standing.written buf over rounded
  leads = round_leads turns_most standing.consumed standing.written desk ring buf over fits standing.along

  places : told.desk ≡ rounded.desk
  places = ap (λ (r : Round). r.desk) tells.answers

  go_is : told.go ≡ rounded.go
  go_is = ap (λ (r : Round). r.go) tells.answers

  lies : Fits told.desk (length buf)
  lies = subst (λ (d : Desk). Fits d (length buf)) (sym places) leads.fits

  pub round_stands : (told.go ≡ Done → ⊥) → Stands told ring_after buf
  round_stands on =
      let along = leads.along (λ e. on (go_is ∙ e)) in
      record {
        standing =
            subst (λ (d : Desk). Standing d ring_after buf) (sym places)
            (subst (λ (r : List ℕ). Standing rounded.desk r buf) (sym tells.ring)
            (record { consumed = standing.consumed; written = standing.written ++ rounded.text; along = along }));
        fits = lies;
        short = λ e.
            let few = (leads.waits (sym go_is ∙ e)).1 in
            let same = ap (λ (d : Desk). length (hand_in buf d)) places in
            omega (arith, few, same, hand_length told.desk buf lies);
      }

  -- its rows are at the start of the buffer, and written
  module _ (room : told.full ≤ length out) where
    full_is : told.full ≡ length rounded.text
    full_is = omega (arith, ap (λ (r : Round). r.full) tells.answers)

    rows_there : take (length rounded.text) out_after ≡ rounded.text
    rows_there =
        ap (λ (l : List ℕ). take (length rounded.text) l) (tells.rows ∙ sets-eq rounded.text out 0 (omega (arith, full_is)))
        ∙ take-append_seam rounded.text (drop (0 + length rounded.text) out)

    pub round_due : Due (take told.full out_after)
    round_due = rows desk ring buf over standing (ap (λ (k : ℕ). take k out_after) full_is ∙ rows_there)

    -- where the program ends, the output is whole
    pub round_complete : told.go ≡ Done → Complete buf out_after
    round_complete e =
        record { desk = desk; ring = ring; over = over; stood = standing; there = rows_there; whole = leads.whole (sym go_is ∙ e) }
