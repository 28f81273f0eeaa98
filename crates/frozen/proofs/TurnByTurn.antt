-- A round turn by turn, as the loop in `frozen::round::take_turns` goes: the whole round is the rows so far and a round of the turns left.
-- Assumes nothing.
use Prim.Native.Nat.{ℕ, suc, ◌+◌, ◌*◌, ◌≤◌}
use mathlib.Core.Bool.{Bool}
use mathlib.Core.List.{List, [], ◌++◌, append_assoc, append-nil}
use mathlib.Core.Path.{◌≡◌, refl, sym, ap, subst, ◌∙◌}
use native.Mathlib.Omega.{arith}
use lib.ListN.{length, length-append}
use lib.Seq.{sets, length-sets}
use Rattle.rows.specs.Calls.{line_most}
use Rattle.rows.proofs.Writing.{sets_append}
use Rattle.frozen.specs.declared.desk.Desk.{Desk}
use Rattle.frozen.specs.declared.round.Round.{Round}
use Rattle.frozen.specs.Desk.{Fits}
use Rattle.frozen.specs.declared.round.Go.TheVariants.{Again}
use Rattle.frozen.specs.Round.{turns_most, rows_most, Rounded, turn_at, behind, round_of, Tells}
use Rattle.frozen.proofs.RoundLaws.{turn_fits, round_goes_on, round_stops}

-- WHERE THE LOOP STANDS: the rows so far are at the start of the buffer, and there is room for a line of each turn left
pub record SoFar (whole : Rounded) (buf : List ℕ) (over : Bool) (ring₀ out₀ ring out : List ℕ) (now : Round) (left : ℕ) : Type 0 where
  pub text : List ℕ
  pub rest : whole ≡ behind text (round_of left now.desk ring buf over)
  pub full : now.full ≡ length text
  pub rows : out ≡ sets out₀ 0 text
  pub room : now.full + line_most * left ≤ rows_most
  pub fits : Fits now.desk (length buf)
  pub going : now.go ≡ Again
  pub ring_length_lem : length ring ≡ length ring₀

pub so_far_begins : (desk : Desk) (ring buf : List ℕ) (over : Bool) (out : List ℕ) → Fits desk (length buf)
    → SoFar (round_of turns_most desk ring buf over) buf over ring out ring out (record { desk = desk; full = 0; go = Again }) turns_most
so_far_begins desk ring buf over out fits =
    record { text = []; rest = refl; full = refl; rows = refl; room = omega arith; fits = fits; going = refl; ring_length_lem = refl }

module _ {whole : Rounded} {buf : List ℕ} {over : Bool} {ring₀ out₀ ring out : List ℕ} {now : Round} {left : ℕ}
    (so : SoFar whole buf over ring₀ out₀ ring out now left) where
  pub out_length : length out ≡ length out₀
  out_length = ap (λ (l : List ℕ). length l) so.rows ∙ length-sets out₀ 0 so.text

  -- no turn is left
  pub so_far_ends : left ≡ 0 → Tells whole out₀ 0 now ring out × (now.full ≤ rows_most)
  unfolding round_of
  so_far_ends none =
      let all : whole ≡ behind so.text (round_of 0 now.desk ring buf over) =
      so.rest ∙ ap (λ (k : ℕ). behind so.text (round_of k now.desk ring buf over)) none in
      let same : whole ≡ record { desk = now.desk; ring = ring; text = so.text; go = now.go } =
      all ∙ (λ i. record { desk = now.desk; ring = ring; text = append-nil so.text i; go = sym so.going i }) in
      let many : now.full ≡ 0 + length so.text = omega (arith, so.full) in (
        subst (λ (w : Rounded). Tells w out₀ 0 now ring out) (sym same)
            (record { answers = λ i. record { desk = now.desk; full = many i; go = now.go }; ring = refl; rows = so.rows }),
        omega (arith, so.room),
      )

  -- a turn more is taken
  module _ (n : ℕ) (more : left ≡ suc n) {answer : Round} {ring_after out_after : List ℕ}
      (tells : Tells (turn_at now.desk ring buf over) out now.full answer ring_after out_after) (most : answer.full ≤ now.full + line_most) where
    abbrev taken : Rounded
    taken = turn_at now.desk ring buf over

    go_is : answer.go ≡ taken.go
    go_is = ap (λ (r : Round). r.go) tells.answers

    left_is : whole ≡ behind so.text (round_of (suc n) now.desk ring buf over)
    left_is = so.rest ∙ ap (λ (k : ℕ). behind so.text (round_of k now.desk ring buf over)) more

    rows_are : out_after ≡ sets out₀ 0 (so.text ++ taken.text)
    rows_are =
        let many : now.full ≡ 0 + length so.text = omega (arith, so.full) in
        tells.rows
        ∙ ap (λ (l : List ℕ). sets l now.full taken.text) so.rows
        ∙ ap (λ (k : ℕ). sets (sets out₀ 0 so.text) k taken.text) many
        ∙ sym (sets_append out₀ 0 so.text taken.text)

    full_is : answer.full ≡ length (so.text ++ taken.text)
    full_is =
        ap (λ (r : Round). r.full) tells.answers
        ∙ ap (λ (k : ℕ). k + length taken.text) so.full
        ∙ sym (length-append so.text taken.text)

    -- a turn that is followed by another
    pub so_far_goes_on : answer.go ≡ Again → length ring_after ≡ length ring → SoFar whole buf over ring₀ out₀ ring_after out_after answer n
    so_far_goes_on go same =
        let next = round_of n taken.desk taken.ring buf over in
        record {
          text = so.text ++ taken.text;
          rest =
              left_is
              ∙ ap (λ (r : Rounded). behind so.text r) (round_goes_on now.desk ring buf over n (sym go_is ∙ go))
              ∙ (λ i. record {
                desk = next.desk;
                ring = next.ring;
                text = sym (append_assoc so.text taken.text next.text) i;
                go = next.go;
              })
              ∙ (λ i. behind (so.text ++ taken.text)
              (round_of n (sym (ap (λ (r : Round). r.desk) tells.answers) i) (sym tells.ring i) buf over));
          full = full_is;
          rows = rows_are;
          room = omega (arith, so.room);
          fits =
              subst (λ (d : Desk). Fits d (length buf)) (sym (ap (λ (r : Round). r.desk) tells.answers))
              (turn_fits now.desk ring buf over so.fits);
          going = go;
          ring_length_lem = same ∙ so.ring_length_lem;
        }

    -- and one that is not
    pub so_far_stops : (answer.go ≡ Again → ⊥) → Tells whole out₀ 0 answer ring_after out_after × (answer.full ≤ rows_most)
    so_far_stops stop =
        let is : whole ≡ behind so.text taken =
        left_is ∙ ap (λ (r : Rounded). behind so.text r) (round_stops now.desk ring buf over n (λ e. stop (go_is ∙ e))) in
        let many : answer.full ≡ 0 + length (so.text ++ taken.text) = omega (arith, full_is) in (
          subst (λ (w : Rounded). Tells w out₀ 0 answer ring_after out_after) (sym is)
              (record {
                answers = λ i. record { desk = (tells.answers i).desk; full = many i; go = (tells.answers i).go };
                ring = tells.ring;
                rows = rows_are;
              }),
          omega (arith, so.room, most),
        )
