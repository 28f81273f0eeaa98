-- An outcome that does not wait is the same, turn and ring, however the input goes on, so that a run over pieces writes what the whole input
-- gives; and who waits has fewer bytes than an image may have.
-- Assumes nothing.
use Rattle.std.specs.Prelude.{Option}
use Prim.Native.Nat.{ℕ, ◌≤◌, ◌<◌}
use native.Mathlib.Omega.{arith}
use mathlib.Core.Bool.{Bool, true, false, not, ◌&&◌}
use mathlib.Core.List.{List, ◌++◌}
use mathlib.Core.Logic.{◌⊎◌, inl, inr}
use mathlib.Core.Path.{◌≡◌, refl, sym, ap, ◌∙◌}
use borrow.Author.Tests.{eq-eqb, ne_eqb}
use lib.Dec.{eqb}
use lib.ListN.{length, take, length-append}
use lib.Seq.{length-take-le, take-append-le}
use Rattle.refusals.specs.Numbers.{ends_too_early}
use Rattle.image.specs.Seen.{limit}
use Rattle.image.specs.Reading.{numbers_of}
use Rattle.image.proofs.Promises as images
use Rattle.watch.specs.Answers.{Row, Refused, Ends, Wait}
use Rattle.watch.specs.declared.State.{State}
use Rattle.watch.specs.declared.Line.{Line}
use Rattle.watch.specs.Turn.{Outcome, shown_of, counted_of, decided_of, outcome_of}
use Rattle.watch.proofs.Deciding.{none_yet, short_waits, decides}
use Rattle.watch.proofs.OutcomeCases.{shown_cases, counted_cases, decided_cases, outcome_cases}

-- THE TURNS are four
pub refused_no_row : {refusal : ℕ} {line : Line} → Refused refusal ≡ Row line → ⊥
refused_no_row e = cc

pub wait_no_row : {line : Line} → Wait ≡ Row line → ⊥
wait_no_row e = cc

pub ends_no_row : {line : Line} → Ends ≡ Row line → ⊥
ends_no_row e = cc

pub refused_no_wait : {refusal : ℕ} → Refused refusal ≡ Wait → ⊥
refused_no_wait e = cc

-- an image that decides does not wait
shown_no_wait : (state : State) (ring : List ℕ) (scored : Option ℕ) (used : ℕ) → shown_of state ring scored used ≡ Wait → ⊥
shown_no_wait state ring scored used =
    shown_cases state ring scored used (λ t. t ≡ Wait → ⊥) (λ none e. wait_no_row (sym e)) (λ refused. refused_no_wait)

pub decided_no_wait : (state : State) (ring last rest : List ℕ) → (decided_of state ring last rest).turn ≡ Wait → ⊥
decided_no_wait state ring last rest =
    decided_cases state ring last rest (λ o. o.turn ≡ Wait → ⊥) (λ refused. refused_no_wait)
    (λ taken first. shown_no_wait _ _ _ _)
    (λ taken later. counted_cases state ring last _ (λ o. o.turn ≡ Wait → ⊥) (λ refused. refused_no_wait) (λ refused. refused_no_wait)
    (λ scored added. shown_no_wait _ _ _ _))

-- who waits has no byte, or an image that is cut: in either case fewer bytes than an image may have
pub wait_short : (state : State) (ring last rest : List ℕ) → (outcome_of state ring last rest false).turn ≡ Wait → length rest < limit
wait_short state ring last rest =
    outcome_cases state ring last rest false (λ o. o.turn ≡ Wait → length rest < limit) (λ go why e. by why)
    (λ over none e. absurd cc)
    (λ some whole e. absurd (decided_no_wait state ring last rest e))
  where
    by : (length rest ≡ 0) ⊎ ((numbers_of rest).refusal ≡ ends_too_early) → length rest < limit
    by (inl none) = omega arith
    by (inr cut) = images.waits_short rest cut

-- BYTES THAT DECIDE: there are some, and their image is not cut
record Decides (part : List ℕ) : Type 0 where
  some : length part ≡ 0 → ⊥
  whole : (numbers_of part).refusal ≡ ends_too_early → ⊥

module _ (state : State) (ring last part : List ℕ) where
  -- that are those whose outcome is not to wait
  no_wait_decides : ((outcome_of state ring last part false).turn ≡ Wait → ⊥) → Decides part
  no_wait_decides goes = record { some = some; whole = whole }
    where
      some : length part ≡ 0 → ⊥
      some e = goes (sym (ap (λ (o : Outcome). o.turn) (none_yet state ring last part false e refl)))

      whole : (numbers_of part).refusal ≡ ends_too_early → ⊥
      whole w =
          goes (sym
          (ap (λ (o : Outcome). o.turn)
          (short_waits state ring last part false some refl (eq-eqb (numbers_of part).refusal ends_too_early w))))

  module _ (decided : Decides part) where
    -- whether the input is over does not matter to such bytes
    not_yet : (over : Bool) → (not over && eqb (numbers_of part).refusal ends_too_early) ≡ false
    not_yet true = refl
    not_yet false = ne_eqb (numbers_of part).refusal ends_too_early decided.whole

    outcome_decides : (over : Bool) → outcome_of state ring last part over ≡ decided_of state ring last part
    outcome_decides over = sym (decides state ring last part over decided.some refl (not_yet over))

    module _ (more : List ℕ) where
      same_numbers : numbers_of (part ++ more) ≡ numbers_of part
      same_numbers = images.prefix_law part more decided.whole

      same_image : take (numbers_of part).used (part ++ more) ≡ take (numbers_of part).used part
      same_image = take-append-le (numbers_of part).used part more (images.reading_lies part).there

      decided_stays : decided_of state ring last (part ++ more) ≡ decided_of state ring last part
      unfolding decided_of
      decided_stays = rw (same_numbers, same_image)

      decides_longer : Decides (part ++ more)
      decides_longer =
          record {
            some = λ e. decided.some (omega (arith, length-append part more));
            whole = λ w. decided.whole (sym (ap (λ n. n.refusal) same_numbers) ∙ w);
          }

-- THE OUTCOME STAYS, whatever comes behind and whether that is all
pub outcome_stays : (state : State) (ring last part more : List ℕ) → ((outcome_of state ring last part false).turn ≡ Wait → ⊥) → (over : Bool)
    → outcome_of state ring last (part ++ more) over ≡ outcome_of state ring last part false
outcome_stays state ring last part more goes over =
    let decided = no_wait_decides state ring last part goes in
    outcome_decides state ring last (part ++ more) (decides_longer state ring last part decided more) over
    ∙ decided_stays state ring last part decided more
    ∙ sym (outcome_decides state ring last part decided false)

-- A ROW: its image is taken, and it used that image's bytes
abbrev Took : List ℕ → Line → Type 0
Took rest line = ((numbers_of rest).refusal ≡ 0) × (line.used ≡ (numbers_of rest).used)

shown_used : (state : State) (ring : List ℕ) (scored : Option ℕ) (used : ℕ) (line : Line) → shown_of state ring scored used ≡ Row line
    → line.used ≡ used
shown_used state ring scored used line =
    shown_cases state ring scored used (λ t. t ≡ Row line → line.used ≡ used) (λ none e. cc) (λ refused e. absurd (refused_no_row e))

counted_used : (state : State) (ring last image : List ℕ) (line : Line) → (counted_of state ring last image).turn ≡ Row line
    → line.used ≡ length image
counted_used state ring last image line =
    counted_cases state ring last image (λ o. o.turn ≡ Row line → line.used ≡ length image) (λ refused e. absurd (refused_no_row e))
    (λ refused e. absurd (refused_no_row e)) (λ scored added. shown_used _ _ _ _ line)

decided_took : (state : State) (ring last rest : List ℕ) (line : Line) → (decided_of state ring last rest).turn ≡ Row line → Took rest line
decided_took state ring last rest line =
    decided_cases state ring last rest (λ o. o.turn ≡ Row line → Took rest line) (λ refused e. absurd (refused_no_row e))
    (λ taken first e. (taken, shown_used _ _ _ _ line e))
    (λ taken later e. (
      taken,
      counted_used state ring last _ line e ∙ length-take-le (numbers_of rest).used rest (images.reading_lies rest).there,
    ))

module _ (state : State) (ring last rest : List ℕ) (over : Bool) (line : Line) (row : (outcome_of state ring last rest over).turn ≡ Row line) where
  took : Took rest line
  took =
      outcome_cases state ring last rest over (λ o. o.turn ≡ Row line → Took rest line) (λ go why e. absurd (wait_no_row e))
      (λ done none e. absurd (ends_no_row e)) (λ some whole. decided_took state ring last rest line) row

  -- some bytes, of those at hand
  pub row_used : (0 < line.used) × (line.used ≤ length rest)
  row_used = rw took.1 (images.used_some rest took.0, (images.reading_lies rest).there)

  row_decides : Decides rest
  row_decides = record { some = λ e. omega (arith, row_used.0, row_used.1); whole = λ w. omega (arith, took.0, w) }

  -- and the row and the ring do not depend on whether the input is over
  pub row_either_way : (other : Bool) → outcome_of state ring last rest other ≡ outcome_of state ring last rest over
  row_either_way other =
      outcome_decides state ring last rest row_decides other ∙ sym (outcome_decides state ring last rest row_decides over)
