-- Where every comment of a header stands behind white space, its line end may stay, as other readers have it, and nothing changes.
-- Assumes nothing.
use Prim.Native.Nat.{ℕ, ◌-◌}
use mathlib.Core.Bool.{Bool, true, false, cond}
use mathlib.Core.List.{List, [], ◌∷◌, ◌++◌, append-nil}
use mathlib.Core.Path.{◌≡◌, refl, sym, ap, ◌∙◌}
use borrow.Author.Tests.{eq-eqb}
use Rattle.refusals.specs.Numbers.{ends_too_early, wrong_byte, number_out_of_range}
use Rattle.decimals.specs.Decimal.{zero_byte, digit, with_digit}
use Rattle.image.specs.Bytes.{letter_p, white}
use Rattle.image.specs.Tests.{Test}
use Rattle.image.specs.Seen.{Seen, bytes_of, reach}
use Rattle.image.specs.Step.{Step, stopped, found}
use Rattle.image.specs.Fields.{header_fields}
use Rattle.image.specs.Kinds.{Kind}
use Rattle.image.specs.Format.{Header}
use Rattle.image.specs.Comments.{Without}
use Rattle.image.specs.OtherReaders.{OwnLines}
use Rattle.image.proofs.KindsOfBytes.{line_end_white}
use Rattle.image.proofs.SeenLists.{seen_as, bytes_seen_lem}
use Rattle.image.proofs.ByteByByte.{
  Place,
  in_sign,
  in_gap,
  in_digits,
  Onward,
  goes,
  fails,
  ends,
  entering,
  onward,
  carried,
  walk,
  header_walks,
}
use Rattle.image.proofs.HeaderExact.{on_rest, header_sound, header_complete}

-- where a reader may stand behind a byte of a header that comes after the sign: behind a white one, only before a number
abbrev Behind : ℕ → Place → Type 0
Behind before (in_sign [] tests) = white before ≡ false
Behind before (in_sign (sign ∷ signs) tests) = ⊥
Behind before (in_gap numbers test tests) = Unit {0}
Behind before (in_digits numbers value test tests) = white before ≡ false

-- the same of where one byte more leads, if anywhere
abbrev Reaches : ℕ → Onward → Type 0
Reaches before (goes place) = Behind before place
Reaches before (fails refusal) = Unit {0}
Reaches before (ends numbers) = Unit {0}

enters : (numbers : List ℕ) (tests : List Test) (first : ℕ) → Reaches first (entering numbers tests)
enters numbers [] first = tt
enters numbers (test ∷ tests) first = tt

one_further : (before first : ℕ) (place : Place) → Behind before place → Reaches first (onward place first)
one_further before first (in_sign [] tests) there = by (white first)
  where
    by : (w : Bool) → Reaches first (cond w (entering [] tests) (fails wrong_byte))
    by true = enters [] tests first
    by false = tt
one_further before first (in_sign (sign ∷ signs) tests) there = absurd there
one_further before first (in_gap numbers test tests) there = by (white first) refl (digit first)
  where
    by : (w : Bool) → white first ≡ w → (d : Bool) → Reaches first
        (cond w (goes (in_gap numbers test tests)) (cond d (goes (in_digits numbers (first - zero_byte) test tests)) (fails wrong_byte)))
    by true w d = tt
    by false w true = w
    by false w false = tt
one_further before first (in_digits numbers value test tests) there = by (white first) refl (digit first) (test value)
  where
    by : (w : Bool) → white first ≡ w → (d t : Bool) → Reaches first
        (cond w (cond t (entering (numbers ++ (value ∷ [])) tests) (fails number_out_of_range))
        (cond d (goes (in_digits numbers (with_digit value first) test tests)) (fails wrong_byte)))
    by true w d true = enters (numbers ++ (value ∷ [])) tests first
    by true w d false = tt
    by false w true t = w
    by false w false t = tt

-- so behind a white byte another one changes nothing
white_again : (before next : ℕ) (place : Place) → Behind before place → white before ≡ true → white next ≡ true
    → (onward place next ≡ goes place) × Behind next place
white_again before next (in_sign [] tests) there w w' = cc
white_again before next (in_sign (sign ∷ signs) tests) there w w' = absurd there
white_again before next (in_gap numbers test tests) there w w' = (rw w', tt)
white_again before next (in_digits numbers value test tests) there w w' = cc

-- what a walk comes to; of the bytes that it leaves it counts only whether there are any
abbrev any_of : List Seen → List Seen
any_of [] = []
any_of (seen ∷ rest) = record { byte = 0; upto = 0 } ∷ []

abbrev outcome : Step (List ℕ) → Step (List ℕ)
outcome step = on_rest any_of step

module _ (last : ℕ) where
  abbrev up_to_last : List ℕ → List Seen
  up_to_last bytes = seen_as (bytes ++ (last ∷ []))

  some_left : (bytes : List ℕ) → any_of (up_to_last bytes) ≡ record { byte = 0; upto = 0 } ∷ []
  some_left [] = refl
  some_left (byte ∷ later) = refl

  -- a walk comes to the same with the line ends of comments as without them
  same_outcome : (before : ℕ) (among ours theirs : List ℕ) → OwnLines before among ours theirs → (place : Place) → Behind before place
      → outcome (walk ends_too_early place (up_to_last ours)) ≡ outcome (walk ends_too_early place (up_to_last theirs))
  unfolding walk
  same_outcome before _ _ _ (OwnLines.nothing _) place there = refl
  same_outcome before _ _ _ (OwnLines.byte _ first later ours theirs other own) place there =
      by (onward place first) (one_further before first place there) (λ next there. same_outcome first later ours theirs own next there)
    where
      by : (next : Onward) → Reaches first next
          → ((place : Place) → Behind first place
          → outcome (walk ends_too_early place (up_to_last ours)) ≡ outcome (walk ends_too_early place (up_to_last theirs)))
          → outcome (carried record { byte = first; upto = 0 } (up_to_last ours) (λ next. walk ends_too_early next (up_to_last ours)) next)
          ≡ outcome (carried record { byte = first; upto = 0 } (up_to_last theirs) (λ next. walk ends_too_early next (up_to_last theirs)) next)
      by (goes next) there again = again next there
      by (fails refusal) there again = refl
      by (ends numbers) there again = ap (λ (rest : List Seen). found numbers 0 rest) (some_left ours ∙ sym (some_left theirs))
  same_outcome before _ _ _ (OwnLines.comment _ bytes later ours theirs c w own) place there =
      let stays = white_again before c.last place there w (line_end_white c.last c.ends) in
      rw stays.0 (same_outcome c.last later ours theirs own place stays.1)

-- bytes are a header where one is found in them and nothing is left
module _ (sign : ℕ) (tests : List Test) where
  abbrev header_in : List ℕ → Step (List ℕ)
  header_in bytes = header_fields ends_too_early sign tests (seen_as bytes)

  finds : (numbers bytes : List ℕ) → Header sign tests numbers bytes → outcome (header_in bytes) ≡ found numbers (reach (seen_as bytes)) []
  finds numbers bytes h =
      let seen : Header sign tests numbers (bytes_of (seen_as bytes)) = rw (bytes_seen_lem bytes) h in
      ap outcome
      (ap (header_fields ends_too_early sign tests) (sym (append-nil (seen_as bytes)))
      ∙ header_complete ends_too_early sign tests (seen_as bytes) [] seen)

  is_header : (numbers bytes : List ℕ) (used : ℕ) → outcome (header_in bytes) ≡ found numbers used [] → Header sign tests numbers bytes
  is_header numbers bytes used = by (header_in bytes) refl
    where
      by : (step : Step (List ℕ)) → header_in bytes ≡ step → outcome step ≡ found numbers used [] → Header sign tests numbers bytes
      by (stopped refusal) read e = cc
      by (found values reached []) read e =
          let same : values ≡ numbers = cc in
          let t = header_sound ends_too_early sign tests (seen_as bytes) read in
          let all : bytes_of t.taken ≡ bytes = ap bytes_of (sym (t.split ∙ append-nil t.taken)) ∙ bytes_seen_lem bytes in
          rw (← same, ← all) t.header
      by (found values reached (seen ∷ rest)) read e = cc

  carried_over : (numbers bytes others : List ℕ) → outcome (header_in bytes) ≡ outcome (header_in others)
      → Header sign tests numbers bytes → Header sign tests numbers others
  carried_over numbers bytes others same h = is_header numbers others (reach (seen_as bytes)) (sym same ∙ finds numbers bytes h)

  behind_sign : (last : ℕ) (bytes : List ℕ)
      → header_in (letter_p ∷ sign ∷ (bytes ++ (last ∷ []))) ≡ walk ends_too_early (in_sign [] tests) (up_to_last last bytes)
  unfolding walk
  behind_sign last bytes =
      header_walks ends_too_early sign tests (seen_as (letter_p ∷ sign ∷ (bytes ++ (last ∷ [])))) ∙ rw (eq-eqb sign sign refl)

-- THE LAW, in both directions
module _ (kind : Kind) (numbers among ours theirs : List ℕ) (last : ℕ) (other : white kind.sign ≡ false)
    (own : OwnLines kind.sign among ours theirs) where
  abbrev headed : List ℕ → List ℕ
  headed bytes = letter_p ∷ kind.sign ∷ (bytes ++ (last ∷ []))

  same_header : outcome (header_in kind.sign kind.tests (headed ours)) ≡ outcome (header_in kind.sign kind.tests (headed theirs))
  same_header =
      ap outcome (behind_sign kind.sign kind.tests last ours)
      ∙ same_outcome last kind.sign among ours theirs own (in_sign [] kind.tests) other
      ∙ sym (ap outcome (behind_sign kind.sign kind.tests last theirs))

  pub own_lines : Header kind.sign kind.tests numbers (letter_p ∷ kind.sign ∷ (ours ++ (last ∷ [])))
      → Header kind.sign kind.tests numbers (letter_p ∷ kind.sign ∷ (theirs ++ (last ∷ [])))
  own_lines h = carried_over kind.sign kind.tests numbers (headed ours) (headed theirs) same_header h

  pub own_lines_back : Header kind.sign kind.tests numbers (letter_p ∷ kind.sign ∷ (theirs ++ (last ∷ [])))
      → Header kind.sign kind.tests numbers (letter_p ∷ kind.sign ∷ (ours ++ (last ∷ [])))
  own_lines_back h = carried_over kind.sign kind.tests numbers (headed theirs) (headed ours) (sym same_header) h

-- ours is what is left without the comments
pub own_lines_without : (before : ℕ) (bytes ours theirs : List ℕ) → OwnLines before bytes ours theirs → Without bytes ours
own_lines_without before _ _ _ (OwnLines.nothing _) = Without.nothing
own_lines_without before _ _ _ (OwnLines.byte _ first later ours theirs other own) =
    Without.byte first later ours other (own_lines_without first later ours theirs own)
own_lines_without before _ _ _ (OwnLines.comment _ bytes later ours theirs c w own) =
    Without.comment bytes later ours c (own_lines_without c.last later ours theirs own)
