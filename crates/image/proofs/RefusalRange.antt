-- Every refusal of an image is 11 to 15, and who is told to wait for more bytes has fewer than the limit: both by the first fault.
-- Assumes nothing.
use Prim.Native.Nat.{ℕ, ◌≤◌, ◌<◌}
use mathlib.Core.List.{List}
use mathlib.Core.Path.{◌≡◌, sym}
use native.Mathlib.Omega.{arith}
use lib.ListN.{length}
use Rattle.refusals.specs.Numbers.{wrong_byte, ends_too_early, pixel_too_large}
use Rattle.image.specs.Seen.{limit, end_of}
use Rattle.image.specs.Step.{stopped}
use Rattle.image.specs.Kinds.{Kind, pgm}
use Rattle.image.specs.Reading.{header_of, reading_of, numbers_of}
use Rattle.image.specs.FirstFault.{seen_in, BadPixel, FirstFault, is_wrong_byte, out_of_range, header_past_limit, header_cut_short, raster_past_limit, raster_cut_short, bad_pixel}
use Rattle.image.proofs.NextSeen.{end_refuses}
use Rattle.image.proofs.HeaderFaults.{HeaderFault, at_wrong_byte, at_number, at_end}
use Rattle.image.proofs.FirstFaultDecides.{header_stops, first_fault}

-- no header stops with 0
pub header_refuses : (kind : Kind) (s : List ℕ) → header_of kind s ≡ stopped 0 → ⊥
header_refuses kind s e = by (header_stops kind s e)
  where
    by : HeaderFault kind (end_of s) (seen_in s) 0 → ⊥
    by (at_wrong_byte e w) = omega arith
    by (at_number e o) = omega arith
    by (at_end e r) = end_refuses s (sym e)

-- a refusal is 11 or above, and up to 14, or to 15 where a position can be at fault
pub refusal_up_to : (top : ℕ) (kind : Kind) (s : List ℕ) → ends_too_early ≤ top
    → ((numbers : List ℕ) (start : ℕ) → BadPixel kind s numbers start → pixel_too_large ≤ top) → ((reading_of kind s).refusal ≡ 0 → ⊥)
    → (wrong_byte ≤ (reading_of kind s).refusal) × ((reading_of kind s).refusal ≤ top)
refusal_up_to top kind s least most refused = by (reading_of kind s).refusal (first_fault kind s refused)
  where
    by : (k : ℕ) → FirstFault kind s k → (wrong_byte ≤ k) × (k ≤ top)
    by k (is_wrong_byte e w) = omega arith
    by k (out_of_range e o) = omega arith
    by k (header_past_limit e long r) = omega arith
    by k (header_cut_short e short r) = omega arith
    by k (raster_past_limit e numbers start h over) = omega arith
    by k (raster_cut_short e numbers start h within short) = omega arith
    by k (bad_pixel e numbers start h within there p) = omega (arith, most numbers start p)

pub refusal_range_of : (kind : Kind) (s : List ℕ) → ((reading_of kind s).refusal ≡ 0 → ⊥)
    → (wrong_byte ≤ (reading_of kind s).refusal) × ((reading_of kind s).refusal ≤ pixel_too_large)
refusal_range_of kind s = refusal_up_to pixel_too_large kind s (omega arith) (λ numbers start p. omega arith)

-- with 24,576 bytes every image is decided
pub waits_short_of : (kind : Kind) (s : List ℕ) → (reading_of kind s).refusal ≡ ends_too_early → length s < limit
waits_short_of kind s waits = by (reading_of kind s).refusal waits (first_fault kind s (λ none. omega arith))
  where
    by : (k : ℕ) → k ≡ ends_too_early → FirstFault kind s k → length s < limit
    by k is (is_wrong_byte e w) = absurd (omega arith)
    by k is (out_of_range e o) = absurd (omega arith)
    by k is (header_past_limit e long r) = absurd (omega arith)
    by k is (header_cut_short e short r) = short
    by k is (raster_past_limit e numbers start h over) = absurd (omega arith)
    by k is (raster_cut_short e numbers start h within short) = omega arith
    by k is (bad_pixel e numbers start h within there p) = absurd (omega arith)

-- the same of a PGM
pub refusal_range : (s : List ℕ) → ((numbers_of s).refusal ≡ 0 → ⊥) → (wrong_byte ≤ (numbers_of s).refusal) × ((numbers_of s).refusal ≤ pixel_too_large)
unfolding numbers_of
refusal_range = refusal_range_of pgm

pub waits_short : (s : List ℕ) → (numbers_of s).refusal ≡ ends_too_early → length s < limit
unfolding numbers_of
waits_short = waits_short_of pgm
