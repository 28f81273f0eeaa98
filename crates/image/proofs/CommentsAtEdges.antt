-- Comments at the edges: one that does not end before the slice or the limit does, one with no white byte behind it where one is needed,
-- and a `#` behind the delimiter, which is a pixel or a byte of one.
-- Assumes nothing.
use Prim.Native.Nat.{ℕ, zero, suc, ◌+◌, ◌*◌, ◌-◌, ◌≤◌, ◌<◌}
use mathlib.Core.Bool.{false}
use mathlib.Core.List.{List, [], ◌∷◌, ◌++◌}
use mathlib.Core.Logic.{inr}
use mathlib.Core.Path.{◌≡◌, refl, ap, ◌∙◌}
use native.Mathlib.Omega.{arith}
use native.Mathlib.Nat.{add-zero, mul-one, mul-le-mul_right}
use borrow.Author.Tests.{eq-eqb}
use lib.ListN.{length, take, drop, get_or, length-take, length-drop}
use lib.Seq.{take-take, take-nil, drop-drop, get_or-drop}
use Rattle.refusals.specs.Numbers.{wrong_byte, image_too_large, ends_too_early}
use Rattle.image.specs.Bytes.{letter_p, hash, white}
use Rattle.image.specs.Seen.{Seen, limit, visible, ahead, end_of}
use Rattle.image.specs.Step.{stopped}
use Rattle.image.specs.Fields.{one_of, magic, header_fields}
use Rattle.image.specs.Pixels.{pixel_bytes, bytes_value, pixel_at}
use Rattle.image.specs.Kinds.{Kind, pgm}
use Rattle.image.specs.FirstFault.{RunsOut, seen_in}
use Rattle.image.specs.Comments.{InLine, Comment, Without}
use Rattle.image.specs.Promised.{CommentParts}
use Rattle.image.specs.Reading.{Reading, refused_reading, header_of, reading_of, named, numbers_of, refused_with, pixel_of, positions_of}
use Rattle.image.proofs.NextSeen.{end_over, end_short}
use Rattle.image.proofs.ReadingCases.{reading_stopped}
use Rattle.image.proofs.HeaderFaults.{at_end, fault_stops}
use Rattle.image.proofs.CommentsHidden.{comment_hidden, other_seen, first_two_seen}
use Rattle.image.proofs.SeenWithoutComments.{slice_seen}
use Rattle.image.proofs.PixelValues.{pixel_pair}
use Rattle.image.proofs.Promises.{raster_length, pixel_one, pixel_bytes_one, pixel_bytes_two, reading_lies}

-- a comment that has begun where the first 24,576 bytes end, behind bytes that without comments can go on to be a header
module _ (kind : Kind) (s bytes left text : List ℕ) (there : take limit s ≡ letter_p ∷ kind.sign ∷ (bytes ++ (hash ∷ text)))
    (without : Without bytes left) (within : InLine text) (begun : RunsOut kind (letter_p ∷ kind.sign ∷ left)) where
  pub unended_comment : reading_of kind s ≡ refused_reading (end_of s)
  unfolding header_of ahead
  unended_comment =
      let p : CommentParts (bytes ++ (hash ∷ text)) =
      record {
        bytes = bytes;
        tail = hash ∷ text;
        left = left;
        split = refl;
        without = without;
        unended = inr record { text = text; split = refl; within = within };
      } in
      let seen : seen_in s ≡ letter_p ∷ kind.sign ∷ left = slice_seen s letter_p kind.sign (bytes ++ (hash ∷ text)) there p in
      reading_stopped kind s (fault_stops kind (end_of s) (ahead s 0) (at_end refl (rw seen begun)))

  -- past the slice, and past the limit
  pub comment_past_slice : length s < limit → reading_of kind s ≡ refused_reading ends_too_early
  comment_past_slice short = unended_comment ∙ ap refused_reading (end_short s short)

  pub comment_past_limit : limit ≤ length s → reading_of kind s ≡ refused_reading image_too_large
  comment_past_limit long = unended_comment ∙ ap refused_reading (end_over s long)

-- the same of a PGM
module _ (s bytes left text : List ℕ) (there : take limit s ≡ letter_p ∷ pgm.sign ∷ (bytes ++ (hash ∷ text)))
    (without : Without bytes left) (within : InLine text) (begun : RunsOut pgm (letter_p ∷ pgm.sign ∷ left)) where
  pub pgm_comment_past_slice : length s < limit → numbers_of s ≡ refused_with ends_too_early
  unfolding numbers_of
  pgm_comment_past_slice short = ap named (comment_past_slice pgm s bytes left text there without within begun short)

  pub pgm_comment_past_limit : limit ≤ length s → numbers_of s ≡ refused_with image_too_large
  unfolding numbers_of
  pgm_comment_past_limit long = ap named (comment_past_limit pgm s bytes left text there without within begun long)

-- the line end of a comment is no white byte: where a comment comes right behind the sign, a white byte is needed behind it
pub comment_no_white : (kind : Kind) (s bytes : List ℕ) (byte : ℕ) (more : List ℕ)
    → take limit s ≡ letter_p ∷ kind.sign ∷ (bytes ++ (byte ∷ more)) → Comment bytes → white byte ≡ false → (byte ≡ hash → ⊥)
    → (reading_of kind s).refusal ≡ wrong_byte
unfolding header_of ahead header_fields magic one_of
comment_no_white kind s bytes byte more there c w other =
    let seen : ahead s 0 ≡ _ =
    ap (visible false 0) there
    ∙ first_two_seen letter_p kind.sign (bytes ++ (byte ∷ more))
    ∙ ap (λ (l : List Seen). record { byte = letter_p; upto = 1 } ∷ record { byte = kind.sign; upto = 2 } ∷ l)
    (comment_hidden 2 bytes (byte ∷ more) (omega arith) c ∙ other_seen (2 + length bytes) byte more other) in
    let stops : header_of kind s ≡ stopped wrong_byte =
    ap (header_fields (end_of s) kind.sign kind.tests) seen ∙ rw (eq-eqb kind.sign kind.sign refl, w) in
    ap (λ (r : Reading). r.refusal) (reading_stopped kind s stops)

-- bytes of a front, where the front has them all
within_front : (count from size : ℕ) (l : List ℕ) → from + count ≤ size → take count (drop from (take size l)) ≡ take count (drop from l)
within_front count zero size l fits = take-take count size l (omega arith)
within_front count (suc from) size [] fits = ap (λ (l : List ℕ). take count (drop (suc from) l)) (take-nil size)
within_front count (suc from) zero (byte ∷ later) fits = absurd (omega arith)
within_front count (suc from) (suc size) (byte ∷ later) fits = within_front count from size later (omega arith)

-- behind the delimiter the bytes of an accepted image's raster are its pixels, whatever they are
module _ (s : List ℕ) (position : ℕ) (taken : (numbers_of s).refusal ≡ 0) (there : position < positions_of s) where
  abbrev start : ℕ
  start = (numbers_of s).start

  abbrev per : ℕ
  per = pixel_bytes (numbers_of s).maxval

  bytes_there : position * per + per ≤ (numbers_of s).used - start
  bytes_there =
      omega (arith, mul-le-mul_right per there, raster_length s taken, length-take ((numbers_of s).used - start) (drop start s))

  pub bytes_are_a_pixel : pixel_of s position ≡ bytes_value 0 (take per (drop (start + position * per) s))
  unfolding pixel_of pixel_at
  bytes_are_a_pixel =
      ap (bytes_value 0)
      (within_front per (position * per) ((numbers_of s).used - start) (drop start s) bytes_there
      ∙ ap (take per) (drop-drop (position * per) start s))

  -- of one byte, and of two
  pixel_by_width : {width : ℕ} → per ≡ width → pixel_of s position ≡ bytes_value 0 (take width (drop (start + position * width) s))
  pixel_by_width is-width = bytes_are_a_pixel ∙ ap (λ (k : ℕ). bytes_value 0 (take k (drop (start + position * k) s))) is-width

  pub byte_is_a_pixel : (numbers_of s).maxval ≤ 255 → pixel_of s position ≡ get_or s (start + position) 0
  unfolding pixel_at
  byte_is_a_pixel low =
      pixel_by_width (pixel_bytes_one (numbers_of s).maxval low)
      ∙ pixel_one (drop (start + position * 1) s) 0 ∙ rw (get_or-drop, add-zero, mul-one)

  pub hash_is_a_pixel : (numbers_of s).maxval ≤ 255 → get_or s (start + position) 0 ≡ hash → pixel_of s position ≡ hash
  hash_is_a_pixel low e = byte_is_a_pixel low ∙ e

  pub pair_is_a_pixel : 255 < (numbers_of s).maxval
      → pixel_of s position ≡ get_or s (start + position * 2) 0 * 256 + get_or s (start + position * 2 + 1) 0
  unfolding pixel_at
  pair_is_a_pixel high =
      let two = pixel_bytes_two (numbers_of s).maxval high in
      let from = start + position * 2 in
      let long : 2 ≤ length (drop from s) =
      rw length-drop (omega (arith, bytes_there, ap (λ (k : ℕ). position * k) two, (reading_lies s).there)) in
      pixel_by_width two ∙ pixel_pair (drop from s) long ∙ rw (get_or-drop from s 0 0, get_or-drop from s 1 0, add-zero)

  pub hash_begins_a_pixel : 255 < (numbers_of s).maxval → get_or s (start + position * 2) 0 ≡ hash
      → pixel_of s position ≡ hash * 256 + get_or s (start + position * 2 + 1) 0
  hash_begins_a_pixel high e = pair_is_a_pixel high ∙ ap (λ (byte : ℕ). byte * 256 + get_or s (start + position * 2 + 1) 0) e
