-- Promise B.7: the first fault of a slice, which specs/FirstFault.antt says of the bytes alone, decides. A slice is refused with a number
-- exactly where that number's fault is its first one; so a reader that swapped two numbers, or judged too early, is another.
-- Assumes nothing.
use Prim.Native.Nat.{ℕ}
use mathlib.Core.Bool.{Bool, true, false, cond}
use mathlib.Core.List.{List}
use mathlib.Core.Path.{◌≡◌, refl, sym, ap, ◌∙◌}
use native.Mathlib.Omega.{arith}
use borrow.Author.Tests.{leb-true, leb-false}
use lib.Dec.{leb}
use lib.ListN.{length}
use Rattle.refusals.specs.Numbers.{number_out_of_range, image_too_large, ends_too_early}
use Rattle.image.specs.Seen.{limit, ahead, end_of}
use Rattle.image.specs.Step.{stopped}
use Rattle.image.specs.Kinds.{Kind, pgm}
use Rattle.image.specs.Reading.{Reading, refused_reading, raster_at, header_of, reading_of, numbers_of}
use Rattle.image.specs.FirstFault.{RunsOut, seen_in, BadPixel, FirstFault, is_wrong_byte, out_of_range, header_past_limit, header_cut_short, raster_past_limit, raster_cut_short, bad_pixel}
use Rattle.image.proofs.NextSeen.{end_over, end_short}
use Rattle.image.proofs.LargestPixel.{at_some_true, at_some_found}
use Rattle.image.proofs.RasterFaults.{some_faulty, raster_over, raster_short, raster_faulty, raster_cases}
use Rattle.image.proofs.ReadingCases.{reading_stopped, reading_found, reading_cases}
use Rattle.image.proofs.HeaderFaults.{HeaderFault, at_wrong_byte, at_number, at_end, header_fault, fault_stops}
use Rattle.image.proofs.HeadedSlices.{headed, headed_read}

-- a missing byte is 13 or 14
end_is_no_number : (s : List ℕ) → end_of s ≡ number_out_of_range → ⊥
unfolding end_of
end_is_no_number s = by (leb limit (length s))
  where
    by : (b : Bool) → ◌≡◌ {A = ℕ} (cond b image_too_large ends_too_early) number_out_of_range → ⊥
    by true e = omega arith
    by false e = omega arith

module _ (kind : Kind) (s : List ℕ) where
  -- the header's faults are those of the slice …
  pub header_stops : {refusal : ℕ} → header_of kind s ≡ stopped refusal → HeaderFault kind (end_of s) (seen_in s) refusal
  unfolding header_of ahead
  header_stops e = header_fault kind (end_of s) (end_is_no_number s) (ahead s 0) e

  runs_out : {refusal : ℕ} → refusal ≡ end_of s → RunsOut kind (seen_in s) → FirstFault kind s refusal
  runs_out {refusal} e r = by (leb limit (length s)) refl
    where
      by : (b : Bool) → leb limit (length s) ≡ b → FirstFault kind s refusal
      by true b = let long = leb-true limit (length s) b in header_past_limit (e ∙ end_over s long) long r
      by false b = let short = leb-false limit (length s) b in header_cut_short (e ∙ end_short s short) short r

  from_header : {refusal : ℕ} → HeaderFault kind (end_of s) (seen_in s) refusal → FirstFault kind s refusal
  from_header (at_wrong_byte e w) = is_wrong_byte e w
  from_header (at_number e o) = out_of_range e o
  from_header (at_end e r) = runs_out e r

  -- … and behind a whole header come those of the raster
  abbrev FaultOf : Reading → Type 0
  FaultOf reading = (reading.refusal ≡ 0 → ⊥) → FirstFault kind s reading.refusal

  pub first_fault : ((reading_of kind s).refusal ≡ 0 → ⊥) → FirstFault kind s (reading_of kind s).refusal
  first_fault =
      reading_cases kind s FaultOf (λ refusal e _. from_header (header_stops e)) λ numbers start rest e.
      let h = headed kind s e in
      raster_cases kind s numbers start FaultOf (λ over _. raster_past_limit refl numbers start h over)
      (λ within short _. raster_cut_short refl numbers start h within short)
      (λ within there faulty _. bad_pixel refl numbers start h within there (pixel numbers start faulty)) (λ within there sound refused. absurd (refused refl))
    where
      pixel : (numbers : List ℕ) (start : ℕ) → some_faulty kind s numbers start ≡ true → BadPixel kind s numbers start
      pixel numbers start faulty =
          let p = at_some_true (kind.faulty numbers (raster_at kind s numbers start)) (kind.positions numbers) faulty in
          record { position = p.0; there = p.1; faulty = p.2 }

  -- the other way: whatever the first fault is, its number is the refusal
  stops_with : {refusal : ℕ} → HeaderFault kind (end_of s) (seen_in s) refusal → (reading_of kind s).refusal ≡ refusal
  unfolding header_of ahead
  stops_with f = ap (λ (r : Reading). r.refusal) (reading_stopped kind s (fault_stops kind (end_of s) (ahead s 0) f))

  refusal_of_lem : {number : ℕ} → reading_of kind s ≡ refused_reading number → (reading_of kind s).refusal ≡ number
  refusal_of_lem e = ap (λ (r : Reading). r.refusal) e

  pub fault_refused : {refusal : ℕ} → FirstFault kind s refusal → (reading_of kind s).refusal ≡ refusal
  fault_refused (is_wrong_byte e w) = stops_with (at_wrong_byte e w)
  fault_refused (out_of_range e o) = stops_with (at_number e o)
  fault_refused (header_past_limit e long r) = stops_with (at_end (e ∙ sym (end_over s long)) r)
  fault_refused (header_cut_short e short r) = stops_with (at_end (e ∙ sym (end_short s short)) r)
  fault_refused (raster_past_limit e numbers start h over) =
      refusal_of_lem (reading_found kind s (headed_read kind s h).1 ∙ raster_over kind s numbers start over) ∙ sym e
  fault_refused (raster_cut_short e numbers start h within short) =
      refusal_of_lem (reading_found kind s (headed_read kind s h).1 ∙ raster_short kind s numbers start within short) ∙ sym e
  fault_refused (bad_pixel e numbers start h within there p) =
      let faulty = at_some_found (kind.faulty numbers (raster_at kind s numbers start)) (kind.positions numbers) p.position p.there p.faulty in
      refusal_of_lem (reading_found kind s (headed_read kind s h).1 ∙ raster_faulty kind s numbers start within there faulty) ∙ sym e

-- of a PGM
pub pgm_first_fault : (s : List ℕ) → ((numbers_of s).refusal ≡ 0 → ⊥) → FirstFault pgm s (numbers_of s).refusal
unfolding numbers_of
pgm_first_fault s = first_fault pgm s

pub pgm_fault_refused : (s : List ℕ) {refusal : ℕ} → FirstFault pgm s refusal → (numbers_of s).refusal ≡ refusal
unfolding numbers_of
pgm_fault_refused s f = fault_refused pgm s f
