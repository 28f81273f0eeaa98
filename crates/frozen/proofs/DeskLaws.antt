-- What the desk holds where room is made, where bytes are read, and where a row's image becomes the one before.
-- Assumes nothing.
use Prim.Native.Nat.{ℕ, ◌+◌, ◌-◌, ◌≤◌, ◌<◌}
use mathlib.Core.Bool.{Bool, true, false, cond}
use mathlib.Core.List.{List, ◌++◌}
use mathlib.Core.Path.{◌≡◌, refl, sym, ap, subst, ◌∙◌}
use native.Mathlib.Omega.{arith}
use borrow.Author.Tests.{ltb-true}
use lib.Dec.{ltb, eqb}
use lib.ListN.{length, take, drop, length-drop}
use lib.Seq.{length-take-le, take-add, drop-drop, paste, length-paste}
use Rattle.image.specs.Seen.{limit}
use Rattle.frozen.specs.declared.desk.Desk.{Desk}
use Rattle.frozen.specs.Desk.{buffer_bytes, move_at, last_in, hand_in, Fits, at_start, roomed_desk, roomed_bytes, with_more, Received}
use Rattle.frozen.proofs.Parts.{same_front, part_moved}

module _ (desk : Desk) (buf : List ℕ) (fits : Fits desk (length buf)) where
  -- as many bytes are at hand as the places say
  pub hand_length : length (hand_in buf desk) ≡ desk.end - desk.at
  hand_length =
      length-take-le (desk.end - desk.at) (drop desk.at buf) (rw (length-drop desk.at buf) (omega (arith, fits.there)))

  -- the bytes that are moved are there
  moved_there : desk.end - desk.from ≤ length (drop desk.from buf)
  moved_there = rw (length-drop desk.from buf) (omega (arith, fits.there))

  -- WHERE ROOM IS MADE the image before and the bytes at hand are the same bytes
  start_last : last_in (paste buf 0 (drop desk.from buf) (desk.end - desk.from)) (at_start desk) ≡ last_in buf desk
  start_last =
      let many : desk.at - desk.from - 0 ≡ desk.at - desk.from = omega arith in
      part_moved 0 (desk.at - desk.from - 0) (desk.end - desk.from) buf (drop desk.from buf) (omega (arith, fits.starts, fits.order)) moved_there
      ∙ ap (λ (k : ℕ). take k (drop desk.from buf)) many

  start_hand : hand_in (paste buf 0 (drop desk.from buf) (desk.end - desk.from)) (at_start desk) ≡ hand_in buf desk
  start_hand =
      let behind : desk.from + (desk.at - desk.from) ≡ desk.at = omega (arith, fits.starts) in
      let many : desk.end - desk.from - (desk.at - desk.from) ≡ desk.end - desk.at = omega (arith, fits.starts, fits.order) in
      part_moved (desk.at - desk.from) (desk.end - desk.from - (desk.at - desk.from)) (desk.end - desk.from) buf (drop desk.from buf)
      (omega (arith, fits.starts, fits.order)) moved_there
      ∙ ap (λ (l : List ℕ). take (desk.end - desk.from - (desk.at - desk.from)) l) (drop-drop (desk.at - desk.from) desk.from buf)
      ∙ ap (λ (k : ℕ). take (desk.end - desk.from - (desk.at - desk.from)) (drop k buf)) behind
      ∙ ap (λ (k : ℕ). take k (drop desk.at buf)) many

  pub room_last : last_in (roomed_bytes desk buf) (roomed_desk desk) ≡ last_in buf desk
  unfolding roomed_bytes roomed_desk
  room_last = by (ltb desk.end move_at)
    where
      by : (b : Bool) → last_in (cond b buf (paste buf 0 (drop desk.from buf) (desk.end - desk.from))) (cond b desk (at_start desk)) ≡ last_in buf desk
      by true = refl
      by false = start_last

  pub room_hand : hand_in (roomed_bytes desk buf) (roomed_desk desk) ≡ hand_in buf desk
  unfolding roomed_bytes roomed_desk
  room_hand = by (ltb desk.end move_at)
    where
      by : (b : Bool) → hand_in (cond b buf (paste buf 0 (drop desk.from buf) (desk.end - desk.from))) (cond b desk (at_start desk)) ≡ hand_in buf desk
      by true = refl
      by false = start_hand

  pub room_length : length (roomed_bytes desk buf) ≡ length buf
  unfolding roomed_bytes
  room_length = by (ltb desk.end move_at)
    where
      by : (b : Bool) → length (cond b buf (paste buf 0 (drop desk.from buf) (desk.end - desk.from))) ≡ length buf
      by true = refl
      by false = length-paste buf 0 (drop desk.from buf) (desk.end - desk.from) (omega (arith, fits.there)) moved_there

  -- the places fit still; and where less than an image is at hand, there is room for a byte more
  pub room_state : (roomed_desk desk).state ≡ desk.state
  unfolding roomed_desk
  room_state = by (ltb desk.end move_at)
    where
      by : (b : Bool) → (cond b desk (at_start desk)).state ≡ desk.state
      by true = refl
      by false = refl

  pub room_fits : Fits (roomed_desk desk) (length buf)
  unfolding roomed_desk
  room_fits = by (ltb desk.end move_at)
    where
      by : (b : Bool) → Fits (cond b desk (at_start desk)) (length buf)
      by true = fits
      by false =
          record {
            starts = omega arith;
            order = omega (arith, fits.starts, fits.order);
            there = omega (arith, fits.there);
            image = omega (arith, fits.image);
          }

  pub room_there : desk.end - desk.at < limit → length buf ≡ buffer_bytes → (roomed_desk desk).end < buffer_bytes
  unfolding roomed_desk
  room_there short size = by (ltb desk.end move_at) refl
    where
      by : (b : Bool) → ltb desk.end move_at ≡ b → (cond b desk (at_start desk)).end < buffer_bytes
      by true e = omega (arith, ltb-true desk.end move_at e)
      by false e = omega (arith, fits.starts, fits.order, fits.image)

  -- WHERE BYTES ARE READ: what lay before the end of the bytes at hand is as it was, and the new bytes lie behind it
  module _ (read : List ℕ) (kept : take desk.end read ≡ take desk.end buf) (size : length read ≡ length buf) where
    pub read_last : last_in read desk ≡ last_in buf desk
    read_last =
        same_front desk.from (desk.at - desk.from) desk.end read buf (omega (arith, fits.starts, fits.order))
        (omega (arith, fits.there)) fits.there kept

    pub read_hand : (n : ℕ) → hand_in read (with_more desk n) ≡ hand_in buf desk ++ take n (drop desk.end read)
    read_hand n =
        let k : ℕ = desk.end - desk.at in
        let many : desk.end + n - desk.at ≡ k + n = omega (arith, fits.order) in
        let behind : desk.at + k ≡ desk.end = omega (arith, fits.order) in
        ap (λ (m : ℕ). take m (drop desk.at read)) many
        ∙ take-add k n (drop desk.at read)
        ∙ ap (λ (l : List ℕ). l ++ take n (drop k (drop desk.at read)))
        (same_front desk.at k desk.end read buf (omega (arith, fits.order)) (omega (arith, fits.there)) fits.there kept)
        ∙ ap (λ (l : List ℕ). hand_in buf desk ++ take n l) (drop-drop k desk.at read ∙ ap (λ (m : ℕ). drop m read) behind)

    pub read_fits : (n : ℕ) → desk.end + n ≤ length read → Fits (with_more desk n) (length read)
    read_fits n h = record { starts = fits.starts; order = omega (arith, fits.order); there = h; image = fits.image }

-- ROOM MADE AND BYTES READ, as the program does it
pub received : (desk : Desk) (buf : List ℕ) → Fits desk (length buf) → (moved : Desk) (buf_moved : List ℕ) → moved ≡ roomed_desk desk
    → buf_moved ≡ roomed_bytes desk buf → (read : List ℕ) → take moved.end read ≡ take moved.end buf_moved → length read ≡ length buf_moved
    → (n : ℕ) → moved.end + n ≤ length buf_moved → (after : Desk) → after ≡ with_more moved n → Received desk buf after (eqb n 0) read
received desk buf fits moved buf_moved places bytes read kept size n there after is =
    let long : length buf_moved ≡ length buf = ap (λ (l : List ℕ). length l) bytes ∙ room_length desk buf fits in
    let lies : Fits moved (length buf_moved) =
    subst (λ (d : Desk). Fits d (length buf_moved)) (sym places)
    (subst (λ (k : ℕ). Fits (roomed_desk desk) k) (sym long) (room_fits desk buf fits)) in
    let piece : List ℕ = take n (drop moved.end read) in
    let many : length piece ≡ n = length-take-le n (drop moved.end read) (rw (length-drop moved.end read) (omega arith)) in
    subst (λ (d : Desk). Received desk buf d (eqb n 0) read) (sym is)
    (record {
      piece = piece;
      state = ap (λ (d : Desk). d.state) places ∙ room_state desk buf fits;
      last = read_last moved buf_moved lies read kept size ∙ (λ i. last_in (bytes i) (places i)) ∙ room_last desk buf fits;
      hand =
          read_hand moved buf_moved lies read kept size n
          ∙ ap (λ (l : List ℕ). l ++ piece) ((λ i. hand_in (bytes i) (places i)) ∙ room_hand desk buf fits);
      fits = read_fits moved buf_moved lies read kept size n (omega arith);
      over_is = ap (λ (k : ℕ). eqb k 0) (sym many);
    })
