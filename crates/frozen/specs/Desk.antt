-- The desk: where in the buffer the image before lies, and the bytes at hand behind it.
use Rattle.std.specs.Prelude.{ℕ, ◌+◌, ◌-◌, ◌≤◌, Bool, cond, List, ◌++◌, ◌≡◌, ltb, eqb, length, take, drop}
use Rattle.std.proofs.Math.Seq.{paste}
use Rattle.image.specs.Seen.{limit}
use Rattle.frozen.specs.declared.desk.Desk.{Desk}

-- the bytes of the buffer, and where they end that are moved to its start
abbrev pub buffer_bytes : ℕ
buffer_bytes = 262144

abbrev pub move_at : ℕ
move_at = 200000

-- the image before, and the bytes at hand
abbrev pub last_in : List ℕ → Desk → List ℕ
last_in buf desk = take (desk.at - desk.from) (drop desk.from buf)

abbrev pub hand_in : List ℕ → Desk → List ℕ
hand_in buf desk = take (desk.end - desk.at) (drop desk.at buf)

-- the places are in order, within a buffer of this size; and what lies before the bytes at hand is an image
pub record Fits (desk : Desk) (size : ℕ) : Type 0 where
  pub starts : desk.from ≤ desk.at
  pub order : desk.at ≤ desk.end
  pub there : desk.end ≤ size
  pub image : desk.at - desk.from ≤ limit

-- the same bytes at the start of the buffer
abbrev pub at_start : Desk → Desk
at_start desk = record { state = desk.state; from = 0; at = desk.at - desk.from; end = desk.end - desk.from }

-- where room is made: the desk, and the buffer, whose bytes from the image before on go to its start
unfoldable pub roomed_desk : Desk → Desk
roomed_desk desk = cond (ltb desk.end move_at) desk (at_start desk)

unfoldable pub roomed_bytes : Desk → List ℕ → List ℕ
roomed_bytes desk buf = cond (ltb desk.end move_at) buf (paste buf 0 (drop desk.from buf) (desk.end - desk.from))

-- so many bytes have come behind those at hand
abbrev pub with_more : Desk → ℕ → Desk
with_more desk n = record { state = desk.state; from = desk.from; at = desk.at; end = desk.end + n }

-- A read, whatever it gave: the bytes of the desk are the same, and a piece has come behind those at hand; over is said where it is empty
pub record Received (before : Desk) (buf : List ℕ) (after : Desk) (over : Bool) (buf_after : List ℕ) : Type 0 where
  pub piece : List ℕ
  pub state : after.state ≡ before.state
  pub last : last_in buf_after after ≡ last_in buf before
  pub hand : hand_in buf_after after ≡ hand_in buf before ++ piece
  pub fits : Fits after (length buf_after)
  pub over_is : over ≡ eqb (length piece) 0
