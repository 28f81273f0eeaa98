-- A slice is read as it was while a pixel took one byte, unless its header has a maxval from 256 on that is in range now: so an image of
-- maxval up to 255 is accepted with the same numbers, and what is refused for another fault is refused with the same number.
-- Assumes nothing.
use Prim.Native.Nat.{ℕ, ◌*◌, ◌≤◌}
use mathlib.Core.Bool.{Bool, true, false, not, ◌&&◌}
use mathlib.Core.List.{List, [], ◌∷◌, ◌++◌}
use mathlib.Core.Logic.{◌⊎◌, inl, inr}
use mathlib.Core.Path.{◌≡◌, refl, sym, ap, ◌∙◌}
use native.Mathlib.Omega.{arith}
use native.Mathlib.Nat.{mul-one}
use borrow.Author.Tests.{le-leb, leb-false, ltb-true, ltb-false}
use lib.Dec.{leb, ltb}
use Rattle.refusals.specs.Numbers.{number_out_of_range}
use Rattle.decimals.proofs.WritesAndReads.{between}
use Rattle.image.specs.Bytes.{gray_sign}
use Rattle.image.specs.Tests.{Test, up_to, failing}
use Rattle.image.specs.Seen.{ahead, end_of, bytes_of}
use Rattle.image.specs.Fields.{header_fields}
use Rattle.image.specs.Pixels.{pixel_at}
use Rattle.image.specs.Kinds.{width_in, height_in, maxval_in, largest_side, largest_maxval, pgm}
use Rattle.image.specs.Format.{AllPass, Header, HeaderBytes}
use Rattle.image.specs.FirstFault.{Headed, Over, out_of_range}
use Rattle.image.specs.Reading.{Reading, refused_reading, raster_refusal, with_raster, header_of, reading_of, named, numbers_of}
use Rattle.image.specs.OneByte.{pgm_one_byte, wide, WideMaxval}
use Rattle.image.proofs.FieldsOfBytes.{up_to_range, up_to_above}
use Rattle.image.proofs.PixelWidths.{pixel_bytes_one}
use Rattle.image.proofs.SeenLists.{bytes_append}
use Rattle.image.proofs.ReadingCases.{reading_stopped, reading_found, reading_cases}
use Rattle.image.proofs.ReadingLies.{refused_reading_lem}
use Rattle.image.proofs.HeaderExact.{header_sound}
use Rattle.image.proofs.HeadedSlices.{headed, headed_ahead}
use Rattle.image.proofs.LastTest.{SameOr, same, finds, header_same}
use Rattle.image.proofs.FirstFaultDecides.{fault_refused}
use Rattle.image.proofs.ExactReading.{accepted_is_image, image_headed}

-- the tests of maxval, then and now, judge alike whatever is not wide
small_alike : (value : ℕ) → value ≤ 255 → up_to 255 value ≡ up_to largest_maxval value
unfolding up_to
small_alike value small = rw (le-leb value 255 small, le-leb value largest_maxval (omega arith))

maxval_alike : (value : ℕ) → (up_to 255 value ≡ up_to largest_maxval value) ⊎ (wide value ≡ true)
maxval_alike value = by (ltb 255 value) (leb value largest_maxval) refl refl
  where
    by : (above within : Bool) → ltb 255 value ≡ above → leb value largest_maxval ≡ within
        → (up_to 255 value ≡ up_to largest_maxval value) ⊎ ((above && within) ≡ true)
    by true true a w = inr refl
    by true false a w =
        inl (up_to_above 255 value (ltb-true 255 value a) ∙ sym (up_to_above largest_maxval value (leb-false value largest_maxval w)))
    by false within a w = inl (small_alike value (ltb-false 255 value a))

-- what is a header with one test of its maxval is one with another test that the maxval passes
abbrev pub sides : List Test
sides = up_to largest_side ∷ up_to largest_side ∷ []

abbrev pub gray : Test → List Test
gray test = sides ++ (test ∷ [])

pub maxval_passes : (test : Test) (numbers : List ℕ) → AllPass (gray test) numbers
    → (test (maxval_in numbers) ≡ true) × ((other : Test) → other (maxval_in numbers) ≡ true → AllPass (gray other) numbers)
maxval_passes test [] p = absurd p
maxval_passes test (width ∷ []) p = absurd p.1
maxval_passes test (width ∷ height ∷ []) p = absurd p.1.1
maxval_passes test (width ∷ height ∷ maxval ∷ []) p = (p.1.1.0, λ other q. (p.0, (p.1.0, (q, tt))))
maxval_passes test (width ∷ height ∷ maxval ∷ next ∷ more) p = absurd p.1.1.1

retested : (test other : Test) {numbers bytes : List ℕ} (h : Header gray_sign (gray test) numbers bytes)
    → (test (maxval_in numbers) ≡ true → other (maxval_in numbers) ≡ true) → Header gray_sign (gray other) numbers bytes
retested test other {numbers} h wider =
    let p = maxval_passes test numbers h.passes in
    let passes = p.1 other (wider p.0) in
    record { fields = h.fields; last = h.last; split = h.split; written = h.written; writes = h.writes; passes = passes; one = h.one }

-- behind a header of maxval up to 255 the raster is judged alike
raster_same : (s numbers : List ℕ) (start : ℕ) → maxval_in numbers ≤ 255
    → with_raster pgm s numbers start ≡ with_raster pgm_one_byte s numbers start
unfolding with_raster raster_refusal pgm pgm_one_byte
raster_same s numbers start small =
    let one = pixel_bytes_one (maxval_in numbers) small in
    let area = width_in numbers * height_in numbers in
    let size : pgm.size numbers ≡ area = ap (λ (per : ℕ). area * per) one ∙ mul-one area in
    let faulty : (per : ℕ) (numbers raster : List ℕ) (position : ℕ) → Bool =
    λ per numbers raster position. ltb (maxval_in numbers) (pixel_at per raster position) in
    λ i. with_raster
    record { sign = gray_sign; tests = []; size = λ numbers. size i; positions = pgm.positions; faulty = faulty (one i) } s numbers start

module _ (s : List ℕ) where
  -- THE LAW, for every slice
  pub read_as_one_byte : (WideMaxval s → ⊥) → reading_of pgm s ≡ reading_of pgm_one_byte s
  unfolding header_of ahead pgm pgm_one_byte up_to
  read_as_one_byte not_wide = by (header_same (end_of s) (up_to 255) (up_to largest_maxval) wide maxval_alike gray_sign sides (ahead s 0))
    where
      by : SameOr (up_to 255) (up_to largest_maxval) wide (λ test. header_fields (end_of s) gray_sign (gray test) (ahead s 0))
          → reading_of pgm s ≡ reading_of pgm_one_byte s
      by (same e) =
          reading_cases pgm_one_byte s (λ r. reading_of pgm s ≡ r) (λ refusal stops. reading_stopped pgm s (sym e ∙ stops))
          λ numbers start rest f.
          let p = maxval_passes (up_to 255) numbers (headed pgm_one_byte s f).head.header.passes in
          reading_found pgm s (sym e ∙ f) ∙ raster_same s numbers start (up_to_range 255 (maxval_in numbers) p.0).1
      by (finds numbers used rest e) =
          let t = header_sound (end_of s) gray_sign (gray wide) (ahead s 0) e in
          let split = ap bytes_of t.split ∙ bytes_append t.taken rest in
          absurd (not_wide record { header = bytes_of t.taken; rest = bytes_of rest; numbers = numbers; split = split; head = t.header })

  pub numbers_as_one_byte : (WideMaxval s → ⊥) → numbers_of s ≡ named (reading_of pgm_one_byte s)
  unfolding numbers_of
  numbers_as_one_byte not_wide = ap named (read_as_one_byte not_wide)

  -- the slices that it leaves out were refused then
  pub wide_was_refused : WideMaxval s → reading_of pgm_one_byte s ≡ refused_reading number_out_of_range
  unfolding pgm_one_byte
  wide_was_refused w =
      let maxval = maxval_in w.numbers in
      let fails : wide maxval ≡ true → failing (up_to 255) maxval ≡ true =
      λ passes. ap not (up_to_above 255 maxval (between 256 largest_maxval maxval passes).0) in
      let header = retested wide (failing (up_to 255)) w.head fails in
      let over : Over pgm_one_byte w.header =
      record { before = sides; test = up_to 255; after = []; tests_are = refl; numbers = w.numbers; header = header } in
      let fault = out_of_range refl record { first = w.header; rest = w.rest; split = w.split; over = over } in
      let refusal = fault_refused pgm_one_byte s fault in
      refused_reading_lem pgm_one_byte s (λ none. omega arith) ∙ ap refused_reading refusal

  -- so what was accepted then is accepted, with the same numbers …
  pub accepted_before : (reading_of pgm_one_byte s).refusal ≡ 0 → reading_of pgm s ≡ reading_of pgm_one_byte s
  accepted_before taken = read_as_one_byte λ w. (let e = ap (λ (r : Reading). r.refusal) (wide_was_refused w) in omega arith)

  -- … and an image of maxval up to 255 that is accepted was so then
  pub small_as_before : (numbers_of s).refusal ≡ 0 → (numbers_of s).maxval ≤ 255 → numbers_of s ≡ named (reading_of pgm_one_byte s)
  unfolding numbers_of pgm pgm_one_byte
  small_as_before taken small =
      let numbers = (reading_of pgm s).numbers in
      let start = (reading_of pgm s).start in
      let h = image_headed pgm s (accepted_is_image pgm s taken) in
      let header = retested (up_to largest_maxval) (up_to 255) h.head.header λ passes. small_alike (maxval_in numbers) small ∙ passes in
      let head : HeaderBytes pgm_one_byte numbers h.header = record { header = header; ends = h.head.ends } in
      let then : Headed pgm_one_byte s numbers start =
      record { header = h.header; rest = h.rest; split = h.split; head = head; starts = h.starts } in
      ap named (reading_found pgm s (headed_ahead pgm s numbers start h) ∙ raster_same s numbers start small
      ∙ sym (reading_found pgm_one_byte s (headed_ahead pgm_one_byte s numbers start then)))
