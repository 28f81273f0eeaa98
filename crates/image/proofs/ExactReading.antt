-- Promise 2.6, for every kind of image: a slice is accepted exactly where it starts with an image as the format has it, with that image's
-- numbers, and no slice starts with two.
-- Assumes nothing.
use Prim.Native.Nat.{ℕ, ◌+◌, ◌-◌, ◌≤◌, ◌<◌}
use mathlib.Core.Bool.{false}
use mathlib.Core.List.{List, ◌++◌, append_assoc}
use mathlib.Core.Path.{◌≡◌, sym, ap, ◌∙◌}
use native.Mathlib.Omega.{arith}
use borrow.Author.Tests.{ltb-false}
use lib.ListN.{length, take, drop, length-append, length-drop, take-append-drop}
use lib.Seq.{take_at, drop_at, take-append-add, length-take-le}
use Rattle.image.specs.declared.told.Numbers.{Numbers}
use Rattle.image.specs.Seen.{limit}
use Rattle.image.specs.Step.{stopped}
use Rattle.image.specs.Pixels.{pixel_bytes, pixel_at}
use Rattle.image.specs.Kinds.{Kind, pgm}
use Rattle.image.specs.Reading.{Reading, used_with, raster_at, reading_of, named, numbers_of, raster_in, positions_of, pixel_of}
use Rattle.image.specs.Format.{AllPass, Image}
use Rattle.image.specs.FirstFault.{Headed}
use Rattle.image.specs.Promised.{ImageOf}
use Rattle.image.proofs.LargestPixel.{at_some_false, at_some_none}
use Rattle.image.proofs.RasterFaults.{some_faulty, raster_taken, raster_cases}
use Rattle.image.proofs.ReadingCases.{reading_found, reading_cases}
use Rattle.image.proofs.HeadedSlices.{headed, headed_ahead}
use Rattle.image.proofs.RefusalRange.{header_refuses}

-- a header with a whole raster behind it that has no position at fault is an image
headed_image : (kind : Kind) (s numbers : List ℕ) (start : ℕ) → Headed kind s numbers start
    → used_with kind numbers start ≤ limit → used_with kind numbers start ≤ length s
    → some_faulty kind s numbers start ≡ false → Image kind s numbers start (used_with kind numbers start)
headed_image kind s numbers start h within there none =
    let size = kind.size numbers in
    let behind = drop start s in
    let whole : s ≡ h.header ++ (h.rest ++ drop limit s) =
    sym (take-append-drop limit s) ∙ ap (λ (l : List ℕ). l ++ drop limit s) h.split ∙ append_assoc h.header h.rest (drop limit s) in
    let behind_is : behind ≡ h.rest ++ drop limit s =
    ap (drop start) whole ∙ drop_at h.header (h.rest ++ drop limit s) start (sym h.starts) in
    let fits : size ≤ length behind = rw (length-drop start s) (omega arith) in
    let long : length (take size behind) ≡ size = length-take-le size behind fits in
    record {
      header = h.header;
      raster = take size behind;
      rest = drop size behind;
      split = whole ∙ ap (λ (l : List ℕ). h.header ++ l) (sym behind_is ∙ sym (take-append-drop size behind));
      head = h.head;
      raster_length = long;
      sound = at_some_false (kind.faulty numbers (take size behind)) (kind.positions numbers) none;
      starts = h.starts;
      uses = λ i. h.starts i + sym long i;
      within = within;
    }

-- soundness: what is accepted is an image of the numbers given
pub accepted_is_image : (kind : Kind) (s : List ℕ) → (reading_of kind s).refusal ≡ 0 → ImageOf kind s (reading_of kind s)
accepted_is_image kind s =
    reading_cases kind s IfAccepted (λ refusal e r. absurd (header_refuses kind s (e ∙ ap (λ (k : ℕ). stopped k) r))) λ numbers start rest e.
    raster_cases kind s numbers start IfAccepted (λ _ r. absurd (omega arith)) (λ _ _ r. absurd (omega arith)) (λ _ _ _ r. absurd (omega arith))
    (λ within there none _. headed_image kind s numbers start (headed kind s e) within there none)
  where
    IfAccepted : Reading → Type 0
    IfAccepted reading = reading.refusal ≡ 0 → ImageOf kind s reading

-- where the parts of an image lie
module _ (kind : Kind) (s : List ℕ) {numbers : List ℕ} {start used : ℕ} (p : Image kind s numbers start used) where
  pub image_used : used ≡ used_with kind numbers start
  image_used = omega (arith, p.uses, p.starts, p.raster_length)

  pub image_header : take start s ≡ p.header
  image_header = ap (take start) p.split ∙ take_at p.header (p.raster ++ p.rest) start (sym p.starts)

  image_behind : drop start s ≡ p.raster ++ p.rest
  image_behind = ap (drop start) p.split ∙ drop_at p.header (p.raster ++ p.rest) start (sym p.starts)

  pub image_raster : raster_at kind s numbers start ≡ p.raster
  image_raster = ap (take (kind.size numbers)) image_behind ∙ take_at p.raster p.rest (kind.size numbers) p.raster_length

  image_rest : drop (kind.size numbers) (drop start s) ≡ p.rest
  image_rest = ap (drop (kind.size numbers)) image_behind ∙ drop_at p.raster p.rest (kind.size numbers) p.raster_length

  pub image_there : used_with kind numbers start ≤ length s
  image_there =
      let behind = p.raster ++ p.rest in
      omega (arith, ap length p.split, length-append p.header behind, length-append p.raster p.rest, p.starts, p.raster_length)

  pub image_headed : Headed kind s numbers start
  image_headed =
      let room : limit ≡ length p.header + (limit - length p.header) = omega (arith, p.uses, p.within) in
      record {
        header = p.header;
        rest = take (limit - length p.header) (p.raster ++ p.rest);
        split = (λ i. take (room i) (p.split i)) ∙ take-append-add p.header (p.raster ++ p.rest) (limit - length p.header);
        head = p.head;
        starts = p.starts;
      }

  -- completeness: every image is accepted, with its numbers
  pub image_is_accepted : reading_of kind s ≡ record { refusal = 0; numbers = numbers; start = start; used = used }
  image_is_accepted =
      reading_found kind s (headed_ahead kind s numbers start image_headed)
      ∙ raster_taken kind s numbers start (omega (arith, image_used, p.within)) image_there
      (at_some_none (kind.faulty numbers (raster_at kind s numbers start)) (kind.positions numbers)
      λ position lt. ap (λ (l : List ℕ). kind.faulty numbers l position) image_raster ∙ p.sound position lt)
      ∙ λ i. record { refusal = 0; numbers = numbers; start = start; used = sym image_used i }

-- so a slice has one image: its numbers are settled by the bytes …
module _ (kind : Kind) (s : List ℕ) {numbers numbers' : List ℕ} {start start' used used' : ℕ}
    (p : Image kind s numbers start used) (q : Image kind s numbers' start' used') where
  pub one_image : (numbers ≡ numbers') × (start ≡ start') × (used ≡ used')
  one_image =
      let same : ◌≡◌ {A = Reading} record { refusal = 0; numbers = numbers; start = start; used = used }
      record { refusal = 0; numbers = numbers'; start = start'; used = used' } = sym (image_is_accepted kind s p) ∙ image_is_accepted kind s q in
      (ap (λ (r : Reading). r.numbers) same, ap (λ (r : Reading). r.start) same, ap (λ (r : Reading). r.used) same)

  -- … and so are its header, its raster and what comes after them
  pub one_image_parts : (p.header ≡ q.header) × (p.raster ≡ q.raster) × (p.rest ≡ q.rest)
  one_image_parts =
      let same_numbers = one_image.0 in
      let same_start = one_image.1 in (
        sym (image_header kind s p) ∙ ap (λ (k : ℕ). take k s) same_start ∙ image_header kind s q,
        sym (image_raster kind s p) ∙ (λ i. raster_at kind s (same_numbers i) (same_start i)) ∙ image_raster kind s q,
        sym (image_rest kind s p) ∙ (λ i. drop (kind.size (same_numbers i)) (drop (same_start i) s)) ∙ image_rest kind s q,
      )

-- the numbers of an accepted image pass their tests
pub accepted_passes : (kind : Kind) (s : List ℕ) → (reading_of kind s).refusal ≡ 0 → AllPass kind.tests (reading_of kind s).numbers
accepted_passes kind s e = (accepted_is_image kind s e).head.header.passes

-- THE PGM, whose numbers have names
pub accepted_is_pgm : (s : List ℕ) → (numbers_of s).refusal ≡ 0 → ImageOf pgm s (reading_of pgm s)
unfolding numbers_of
accepted_is_pgm s e = accepted_is_image pgm s e

module _ (s : List ℕ) {numbers : List ℕ} {start used : ℕ} (p : Image pgm s numbers start used) where
  pub pgm_is_accepted : numbers_of s ≡ named record { refusal = 0; numbers = numbers; start = start; used = used }
  unfolding numbers_of
  pgm_is_accepted = ap named (image_is_accepted pgm s p)

  -- the raster that the reader hands back is the image's
  pub pgm_raster : raster_in s ≡ p.raster
  pgm_raster =
      let size : used - start ≡ pgm.size numbers = omega (arith, image_used pgm s p) in
      ap (λ (n : Numbers). take (n.used - n.start) (drop n.start s)) pgm_is_accepted
      ∙ ap (λ (k : ℕ). take k (drop start s)) size ∙ image_raster pgm s p

-- no pixel of it is above maxval
pub pgm_pixels : (s : List ℕ) → (numbers_of s).refusal ≡ 0 → (position : ℕ) → position < positions_of s → pixel_of s position ≤ (numbers_of s).maxval
unfolding pixel_of positions_of numbers_of pgm
pgm_pixels s e position lt =
    let p = accepted_is_pgm s e in
    let pixel : List ℕ → ℕ = λ raster. pixel_at (pixel_bytes (numbers_of s).maxval) raster position in
    rw (pgm_raster s p) (ltb-false (numbers_of s).maxval (pixel p.raster) (p.sound position lt))
