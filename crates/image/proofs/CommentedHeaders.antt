-- The format with comments is the declarative one of specs/Comments.antt, both ways: bytes are a header of which the last byte is seen exactly
-- where they are one with comments among them. So a slice that starts with one is read by its numbers.
-- Assumes nothing.
use Prim.Native.Nat.{ℕ, suc, ◌+◌, ◌-◌, ◌≤◌}
use mathlib.Core.Bool.{Bool, true, false, cond, ◌||◌}
use mathlib.Core.List.{List, [], ◌∷◌, ◌++◌, append_assoc, append-nil}
use mathlib.Core.Logic.{◌⊎◌, inl, inr}
use mathlib.Core.Path.{◌≡◌, refl, sym, ap, ◌∙◌}
use native.Mathlib.Omega.{arith}
use lib.ListN.{length, take, length-append}
use lib.Seq.{take-append-add}
use Rattle.image.specs.Bytes.{letter_p, hash, white}
use Rattle.image.specs.Seen.{Seen, limit, comments, visible, bytes_of, reach}
use Rattle.image.specs.Kinds.{Kind}
use Rattle.image.specs.Format.{bytes_in, HeaderBytes}
use Rattle.image.specs.FirstFault.{Headed}
use Rattle.image.specs.Comments.{InLine, Without, CommentedHeader}
use Rattle.image.specs.Promised.{Unended, CommentParts}
use Rattle.image.specs.Reading.{with_raster, reading_of}
use Rattle.image.proofs.FirstByteSeen.{opens_none, shown_first}
use Rattle.image.proofs.SeenLists.{reach_from, reach_is}
use Rattle.image.proofs.PlainBytes.{white_is_no_hash}
use Rattle.image.proofs.HeadedSlices.{headed_ahead}
use Rattle.image.proofs.ReadingCases.{reading_found}
use Rattle.image.proofs.CommentsHidden.{inline_hidden, hash_hidden, unended_hidden, without_unseen, end_seen, end_reached_from, first_two_seen}
use Rattle.image.proofs.CommentsParted.{comment_parts}

-- the last byte of a list, and `none` where there is none
abbrev last_of : (none : ℕ) → List ℕ → ℕ
last_of none [] = none
last_of none (byte ∷ later) = last_of byte later

last_is : (none : ℕ) (before : List ℕ) (last : ℕ) → last_of none (before ++ (last ∷ [])) ≡ last
last_is none [] last = refl
last_is none (byte ∷ before) last = last_is byte before last

-- the last byte of a commented header is the white one that delimits
last_white : (kind : Kind) (numbers bytes : List ℕ) (c : CommentedHeader kind numbers bytes) → white c.last ≡ true
last_white kind numbers bytes c =
    let h = c.header in
    let same : c.last ≡ h.last =
    sym (last_is 0 (letter_p ∷ kind.sign ∷ c.left) c.last)
    ∙ ap (last_of 0) h.split
    ∙ last_is 0 (letter_p ∷ kind.sign ∷ bytes_in h.fields) h.last in
    ap white same ∙ h.one

-- how far all reaches that is seen behind two bytes
behind_two : (first second : ℕ) (behind : List ℕ) → reach (visible false 0 (first ∷ second ∷ behind)) ≡ reach_from 2 (visible false 2 behind)
behind_two first second behind =
    ap reach (first_two_seen first second behind)
    ∙ sym (reach_is (record { byte = first; upto = 1 } ∷ record { byte = second; upto = 2 } ∷ visible false 2 behind))

pub commented_header : (kind : Kind) (numbers bytes : List ℕ) → CommentedHeader kind numbers bytes → HeaderBytes kind numbers bytes
commented_header kind numbers bytes c =
    let other = white_is_no_hash c.last (last_white kind numbers bytes c) in
    let behind = c.among ++ (c.last ∷ []) in
    let seen : bytes_of (visible false 0 bytes) ≡ letter_p ∷ kind.sign ∷ (c.left ++ (c.last ∷ [])) =
    ap (λ (l : List ℕ). bytes_of (visible false 0 l)) c.split
    ∙ ap bytes_of (first_two_seen letter_p kind.sign behind)
    ∙ ap (λ (l : List ℕ). letter_p ∷ kind.sign ∷ l) (end_seen 2 c.among c.left c.last (omega arith) c.without other) in
    let all : 2 + length c.among + 1 ≡ length bytes = omega (arith, ap length c.split, length-append c.among (c.last ∷ [])) in
    record {
      header = rw seen c.header;
      ends =
          ap (λ (l : List ℕ). reach (visible false 0 l)) c.split
          ∙ behind_two letter_p kind.sign behind
          ∙ end_reached_from 2 c.among c.left c.last (omega arith) c.without other 2
          ∙ all;
    }

-- what is seen of bytes reaches no further than they go
reach_within : (start : ℕ) (inside : Bool) (used : ℕ) (bytes : List ℕ) → start ≤ used
    → reach_from start (visible inside used bytes) ≤ used + length bytes
unfolding visible
reach_within start inside used [] low = omega arith
reach_within start inside used (byte ∷ later) low =
    by (inside || goes_on) (reach_within start goes_on (suc used) later (omega arith)) (reach_within (suc used) goes_on (suc used) later (omega arith))
  where
    goes_on : Bool
    goes_on = comments inside used byte

    behind : List Seen
    behind = visible goes_on (suc used) later

    by : (hidden : Bool) → reach_from start behind ≤ suc used + length later → reach_from (suc used) behind ≤ suc used + length later
        → reach_from start (cond hidden behind (record { byte = byte; upto = suc used } ∷ behind)) ≤ used + suc (length later)
    by true passed taken = omega arith
    by false passed taken = omega arith

-- a last byte within a comment is not seen
within_comment : (used : ℕ) (text : List ℕ) (last : ℕ) → 2 ≤ used → InLine text → visible false used (hash ∷ (text ++ (last ∷ []))) ≡ []
unfolding visible
within_comment used text last two within = hash_hidden used (text ++ (last ∷ [])) two ∙ inline_hidden (suc used) text (last ∷ []) within

-- bytes behind two others, and one more that is seen: they are bytes with whole comments among them, and that one is no `#`
record SeenLast (among : List ℕ) (last : ℕ) : Type 0 where
  left : List ℕ
  without : Without among left
  other : last ≡ hash → ⊥

module _ (among : List ℕ) (last : ℕ) (reaches : reach_from 2 (visible false 2 (among ++ (last ∷ []))) ≡ 2 + length (among ++ (last ∷ []))) where
  -- else no more is seen than of bytes before it
  nothing_more : (bytes left later : List ℕ) → Without bytes left → among ++ (last ∷ []) ≡ bytes ++ later → 1 ≤ length later
      → visible false (2 + length bytes) later ≡ [] → ⊥
  nothing_more bytes left later w split some none =
      let same : visible false 2 (among ++ (last ∷ [])) ≡ visible false 2 bytes =
      ap (visible false 2) split ∙ without_unseen 2 bytes left later (omega arith) w none in
      let low = reach_within 2 false 2 bytes (omega arith) in
      omega (arith, reaches, ap (reach_from 2) same, low, ap length split, length-append bytes later)

  seen_last : SeenLast among last
  seen_last = by (comment_parts among) (comment_parts among).unended
    where
      by : (p : CommentParts among) → (p.tail ≡ []) ⊎ Unended p.tail → SeenLast among last
      by p (inl none) =
          let whole : among ≡ p.bytes = p.split ∙ ap (λ (l : List ℕ). p.bytes ++ l) none ∙ append-nil p.bytes in
          let hidden = unended_hidden (2 + length p.bytes) [] (omega arith) tt in
          record {
            left = p.left;
            without = rw whole p.without;
            other = λ e.
                nothing_more p.bytes p.left (hash ∷ []) p.without (λ i. whole i ++ (e i ∷ [])) (omega arith) hidden;
          }
      by p (inr u) =
          let later = hash ∷ (u.text ++ (last ∷ [])) in
          let split : among ++ (last ∷ []) ≡ p.bytes ++ later =
          ap (λ (l : List ℕ). l ++ (last ∷ [])) (p.split ∙ ap (λ (l : List ℕ). p.bytes ++ l) u.split)
          ∙ append_assoc p.bytes (hash ∷ u.text) (last ∷ []) in
          let hidden = within_comment (2 + length p.bytes) u.text last (omega arith) u.within in
          absurd (nothing_more p.bytes p.left later p.without split (omega arith) hidden)

-- a list with a byte in it has a last one
record EndsWith (bytes : List ℕ) : Type 0 where
  before : List ℕ
  last : ℕ
  split : bytes ≡ before ++ (last ∷ [])

ends_with : (first : ℕ) (later : List ℕ) → EndsWith (first ∷ later)
ends_with first [] = record { before = []; last = first; split = refl }
ends_with first (next ∷ later) =
    let e = ends_with next later in
    record { before = first ∷ e.before; last = e.last; split = ap (λ (l : List ℕ). first ∷ l) e.split }

-- the bytes of a header behind its first two
module _ (kind : Kind) (numbers : List ℕ) (first second : ℕ) (behind : List ℕ) (h : HeaderBytes kind numbers (first ∷ second ∷ behind)) where
  commented : EndsWith behind → CommentedHeader kind numbers (first ∷ second ∷ behind)
  commented e =
      let all : length (first ∷ second ∷ behind) ≡ 2 + length behind = omega arith in
      let reaches : reach_from 2 (visible false 2 behind) ≡ 2 + length behind = sym (behind_two first second behind) ∙ h.ends ∙ all in
      let l = seen_last e.before e.last (rw (← e.split) reaches) in
      let rest = l.left ++ (e.last ∷ []) in
      let seen : bytes_of (visible false 0 (first ∷ second ∷ behind)) ≡ first ∷ second ∷ rest =
      ap bytes_of (first_two_seen first second behind)
      ∙ ap (λ (b : List ℕ). first ∷ second ∷ bytes_of (visible false 2 b)) e.split
      ∙ ap (λ (b : List ℕ). first ∷ second ∷ b) (end_seen 2 e.before l.left e.last (omega arith) l.without l.other) in
      let signs : first ∷ second ∷ rest ≡ letter_p ∷ kind.sign ∷ (bytes_in h.header.fields ++ (h.header.last ∷ [])) =
      sym seen ∙ h.header.split in
      let p : first ≡ letter_p = cc in
      let sign : second ≡ kind.sign = cc in
      record {
        among = e.before;
        left = l.left;
        last = e.last;
        split = λ i. p i ∷ sign i ∷ e.split i;
        without = l.without;
        header = rw (← (seen ∙ λ i. p i ∷ sign i ∷ rest)) h.header;
      }

-- a header has more than two bytes
header_long : {kind : Kind} {numbers bytes : List ℕ} (h : HeaderBytes kind numbers bytes) → 3 ≤ length (bytes_of (visible false 0 bytes))
header_long h = omega (arith, ap length h.header.split, length-append (bytes_in h.header.fields) (h.header.last ∷ []))

pub header_commented : (kind : Kind) (numbers bytes : List ℕ) → HeaderBytes kind numbers bytes → CommentedHeader kind numbers bytes
unfolding visible
header_commented kind numbers [] h = absurd (omega (arith, header_long h))
header_commented kind numbers (first ∷ []) h =
    let one = shown_first 0 first [] (opens_none 0 first (λ two. absurd (omega arith))) in
    absurd (omega (arith, header_long h, ap (λ (l : List Seen). length (bytes_of l)) one))
header_commented kind numbers (first ∷ second ∷ []) h =
    absurd (omega (arith, header_long h, ap (λ (l : List Seen). length (bytes_of l)) (first_two_seen first second [])))
header_commented kind numbers (first ∷ second ∷ third ∷ later) h = commented kind numbers first second (third ∷ later) h (ends_with third later)

-- a slice that starts with one, which ends within the limit, is read by its numbers
pub commented_read : (kind : Kind) (numbers header body : List ℕ) → CommentedHeader kind numbers header → length header ≤ limit
    → reading_of kind (header ++ body) ≡ with_raster kind (header ++ body) numbers (length header)
commented_read kind numbers header body c within =
    let rest = take (limit - length header) body in
    let at : limit ≡ length header + (limit - length header) = omega arith in
    let h : Headed kind (header ++ body) numbers (length header) =
    record {
      header = header;
      rest = rest;
      split = ap (λ (k : ℕ). take k (header ++ body)) at ∙ take-append-add header body (limit - length header);
      head = commented_header kind numbers header c;
      starts = refl;
    } in
    reading_found kind (header ++ body) (headed_ahead kind (header ++ body) numbers (length header) h)
