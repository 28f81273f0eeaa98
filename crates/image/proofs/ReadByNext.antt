-- What the answer to a question for the next byte makes of the bytes ahead: of a number before its first digit, and of one under way.
-- Assumes nothing.
use Prim.Native.Nat.{ℕ, suc}
use mathlib.Core.Bool.{true, false}
use mathlib.Core.List.{List, [], ◌∷◌}
use mathlib.Core.Path.{◌≡◌, refl}
use lib.ListN.{length}
use Rattle.refusals.specs.Numbers.{wrong_byte}
use Rattle.decimals.specs.Decimal.{digit, with_digit}
use Rattle.image.specs.Bytes.{white}
use Rattle.image.specs.Tests.{Test}
use Rattle.image.specs.Seen.{Seen}
use Rattle.image.specs.Step.{stopped, found, next_byte}
use Rattle.image.specs.Fields.{one_of, after_white, judged, more_digits}
use Rattle.image.proofs.KindsOfBytes.{digit_not_white}

-- a byte that is taken is ahead no more
pub next_fewer : (end : ℕ) (l : List Seen) {byte used : ℕ} {rest : List Seen} → found byte used rest ≡ next_byte end l → length l ≡ suc (length rest)
next_fewer end [] e = cc
next_fewer end (seen ∷ later) {byte} {used} {rest} e = let same : rest ≡ later = cc in rw same refl

-- before the first digit: there is no byte, or it is that digit, white, or neither
module _ (end : ℕ) where
  pub first_none : (l : List Seen) {refusal : ℕ} → stopped refusal ≡ next_byte end l → stopped refusal ≡ one_of digit end (after_white l)
  unfolding one_of after_white
  first_none [] e = e
  first_none (seen ∷ later) e = cc

  pub first_found : (l : List Seen) {byte used : ℕ} {rest : List Seen} → found byte used rest ≡ next_byte end l → digit byte ≡ true
      → found byte used rest ≡ one_of digit end (after_white l)
  unfolding one_of after_white
  first_found [] e d = cc
  first_found (seen ∷ later) {byte} e d =
      let same : byte ≡ seen.byte = cc in
      rw (e, digit_not_white seen.byte (rw same at d), rw same at d) refl

  pub first_wrong : (l : List Seen) {byte used : ℕ} {rest : List Seen} → found byte used rest ≡ next_byte end l → white byte ≡ false
      → digit byte ≡ false → stopped wrong_byte ≡ one_of digit end (after_white l)
  unfolding one_of after_white
  first_wrong [] e w d = cc
  first_wrong (seen ∷ later) {byte} e w d =
      let same : byte ≡ seen.byte = cc in
      rw (rw same at w, rw same at d) refl

  pub white_first : (l : List Seen) {byte used : ℕ} {rest : List Seen} → found byte used rest ≡ next_byte end l → white byte ≡ true
      → after_white rest ≡ after_white l
  unfolding after_white
  white_first [] e w = cc
  white_first (seen ∷ later) {byte} {used} {rest} e w =
      let same : byte ≡ seen.byte = cc in
      let behind : rest ≡ later = cc in
      rw (rw same at w, behind) refl

-- behind a digit: there is no byte, or it is one more digit, the white byte that ends the number, or neither
module _ (end : ℕ) (test : Test) (value : ℕ) where
  pub more_none : (l : List Seen) {refusal : ℕ} → stopped refusal ≡ next_byte end l → stopped refusal ≡ more_digits end test value l
  unfolding more_digits
  more_none [] e = e
  more_none (seen ∷ later) e = cc

  pub more_digit : (l : List Seen) {byte used : ℕ} {rest : List Seen} → found byte used rest ≡ next_byte end l → digit byte ≡ true
      → more_digits end test (with_digit value byte) rest ≡ more_digits end test value l
  unfolding more_digits
  more_digit [] e d = cc
  more_digit (seen ∷ later) {byte} {used} {rest} e d =
      let same : byte ≡ seen.byte = cc in
      let behind : rest ≡ later = cc in
      rw (digit_not_white seen.byte (rw same at d), rw same at d, same, behind) refl

  pub more_over : (l : List Seen) {byte used : ℕ} {rest : List Seen} → found byte used rest ≡ next_byte end l → white byte ≡ true
      → judged test value used rest ≡ more_digits end test value l
  unfolding more_digits
  more_over [] e w = cc
  more_over (seen ∷ later) {byte} {used} {rest} e w =
      let same : byte ≡ seen.byte = cc in
      let upto : used ≡ seen.upto = cc in
      let behind : rest ≡ later = cc in
      rw (rw same at w, upto, behind) refl

  pub more_wrong : (l : List Seen) {byte used : ℕ} {rest : List Seen} → found byte used rest ≡ next_byte end l → white byte ≡ false
      → digit byte ≡ false → stopped wrong_byte ≡ more_digits end test value l
  unfolding more_digits
  more_wrong [] e w d = cc
  more_wrong (seen ∷ later) {byte} e w d =
      let same : byte ≡ seen.byte = cc in
      rw (rw same at w, rw same at d) refl
