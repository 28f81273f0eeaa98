-- Bytes that open no comment are all seen, and the text of a header is such bytes.
-- Assumes nothing.
use Prim.Native.Nat.{ℕ, zero, suc, ◌+◌, ◌<◌}
use native.Mathlib.Omega.{arith}
use mathlib.Core.Bool.{true, false}
use mathlib.Core.List.{List, [], ◌∷◌, ◌++◌}
use mathlib.Core.Path.{◌≡◌, refl, ap, ◌∙◌}
use lib.ListN.{length, take, drop}
use Rattle.decimals.specs.Decimal.{AllDigits, decimal}
use Rattle.decimals.proofs.WritesAndReads.{digit_range, decimal_digits}
use Rattle.image.specs.Bytes.{hash, white}
use Rattle.image.specs.Seen.{Seen, comments, visible, bytes_of, reach}
use Rattle.image.specs.Before.{every_byte, NoHash}
use Rattle.image.specs.Text.{number_texts, header_text}
use Rattle.image.proofs.KindsOfBytes.{hash_is_neither}
use Rattle.image.proofs.FirstByteSeen.{opens_none}

-- no byte of a list that starts after `used` bytes opens a comment
abbrev pub NoComment : (used : ℕ) → List ℕ → Type 0
NoComment used [] = Unit {0}
NoComment used (byte ∷ later) = (comments false used byte ≡ false) × NoComment (suc used) later

pub plain_visible : (used : ℕ) (bytes : List ℕ) → NoComment used bytes → visible false used bytes ≡ every_byte used bytes
unfolding visible
plain_visible used [] none = refl
plain_visible used (byte ∷ later) none =
    rw none.0 (ap (λ (l : List Seen). record { byte = byte; upto = suc used } ∷ l) (plain_visible (suc used) later none.1))

pub every_byte_append : (used : ℕ) (a b : List ℕ) → every_byte used (a ++ b) ≡ every_byte used a ++ every_byte (used + length a) b
every_byte_append used [] b =
    let none : used ≡ used + 0 = omega arith in
    ap (λ (k : ℕ). every_byte k b) none
every_byte_append used (byte ∷ a) b =
    let one : suc used + length a ≡ used + suc (length a) = omega arith in
    ap (λ (l : List Seen). record { byte = byte; upto = suc used } ∷ l)
    (every_byte_append (suc used) a b ∙ ap (λ (k : ℕ). every_byte (suc used) a ++ every_byte k b) one)

bytes_every_byte : (used : ℕ) (bytes : List ℕ) → bytes_of (every_byte used bytes) ≡ bytes
bytes_every_byte used [] = refl
bytes_every_byte used (byte ∷ later) = ap (λ (l : List ℕ). byte ∷ l) (bytes_every_byte (suc used) later)

reach_every_byte : (used : ℕ) (bytes : List ℕ) → 0 < length bytes → reach (every_byte used bytes) ≡ used + length bytes
reach_every_byte used [] some = absurd (omega arith)
reach_every_byte used (byte ∷ []) some = omega arith
reach_every_byte used (byte ∷ next ∷ later) some = reach_every_byte (suc used) (next ∷ later) (omega arith) ∙ omega arith

pub plain_seen : (used : ℕ) (bytes : List ℕ) → NoComment used bytes → bytes_of (visible false used bytes) ≡ bytes
plain_seen used bytes none = ap bytes_of (plain_visible used bytes none) ∙ bytes_every_byte used bytes

pub plain_reach : (used : ℕ) (bytes : List ℕ) → 0 < length bytes → NoComment used bytes
    → reach (visible false used bytes) ≡ used + length bytes
plain_reach used bytes some none = ap reach (plain_visible used bytes none) ∙ reach_every_byte used bytes some

pub no_hash_no_comment : (used : ℕ) (bytes : List ℕ) → NoHash bytes → NoComment used bytes
no_hash_no_comment used [] none = tt
no_hash_no_comment used (byte ∷ later) none =
    (opens_none used byte (λ two. none.0), no_hash_no_comment (suc used) later none.1)

-- the first two bytes open no comment, whatever they are
pub plain_behind_sign : (bytes : List ℕ) → NoHash (drop 2 bytes) → NoComment 0 bytes
plain_behind_sign [] none = tt
plain_behind_sign (first ∷ []) none = (opens_none 0 first (λ two. absurd (omega arith)), tt)
plain_behind_sign (first ∷ second ∷ later) none = (
  opens_none 0 first (λ two. absurd (omega arith)),
  (opens_none 1 second (λ two. absurd (omega arith)), no_hash_no_comment 2 later none),
)

pub no_comment_take : (k used : ℕ) (bytes : List ℕ) → NoComment used bytes → NoComment used (take k bytes)
no_comment_take zero used bytes none = tt
no_comment_take (suc k) used [] none = tt
no_comment_take (suc k) used (byte ∷ later) none = (none.0, no_comment_take k (suc used) later none.1)

no_hash_append : (a b : List ℕ) → NoHash a → NoHash b → NoHash (a ++ b)
no_hash_append [] b ha hb = hb
no_hash_append (byte ∷ a) b ha hb = (ha.0, no_hash_append a b ha.1 hb)

pub white_is_no_hash : (byte : ℕ) → white byte ≡ true → byte ≡ hash → ⊥
white_is_no_hash byte w e =
    let not_white : white byte ≡ false = ap white e ∙ hash_is_neither.0 in
    let z : ◌≡◌ {A = ℕ} 0 1 = cc in
    omega arith

pub digits_are_no_hash : (run : List ℕ) → AllDigits run → NoHash run
digits_are_no_hash [] all = tt
digits_are_no_hash (byte ∷ later) all =
    (λ e. omega (arith, (digit_range byte all.0).0), digits_are_no_hash later all.1)

module _ (blank : ℕ) (w : white blank ≡ true) where
  numbers_have_no_hash : (numbers : List ℕ) → NoHash (number_texts blank numbers)
  numbers_have_no_hash [] = tt
  numbers_have_no_hash (number ∷ later) = (
    white_is_no_hash blank w,
    no_hash_append (decimal number) (number_texts blank later) (digits_are_no_hash (decimal number) (decimal_digits number))
        (numbers_have_no_hash later),
  )

  -- `P` and the sign are the first two bytes, and what is behind them is white bytes and digits
  pub text_has_no_comment : (sign : ℕ) (numbers : List ℕ) → NoComment 0 (header_text sign blank numbers)
  unfolding header_text
  text_has_no_comment sign numbers =
      plain_behind_sign (header_text sign blank numbers)
      (no_hash_append (number_texts blank numbers) (blank ∷ []) (numbers_have_no_hash numbers) (white_is_no_hash blank w, tt))
