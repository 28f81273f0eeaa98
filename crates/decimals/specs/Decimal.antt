-- Decimal digits as bytes: which byte is one, the number that a run of them writes, and the run that writes a number (SCOPE, Images and Program).
use Rattle.std.specs.Prelude.{ℕ, zero, suc, ◌+◌, ◌*◌, ◌-◌, ◌/◌, ◌%◌, Bool, true, cond, ◌&&◌, List, [], ◌∷◌, ◌++◌, ◌≡◌, leb, ltb}

-- the bytes of the digits 0 and 9
abbrev pub zero_byte : ℕ
zero_byte = 48

abbrev pub nine_byte : ℕ
nine_byte = 57

-- a decimal digit
unfoldable pub digit : ℕ → Bool
digit byte = leb zero_byte byte && leb byte nine_byte

-- every byte of a run is one
abbrev pub AllDigits : List ℕ → Type 0
AllDigits [] = Unit {0}
AllDigits (byte ∷ later) = (digit byte ≡ true) × AllDigits later

-- a number and one digit more behind it
abbrev pub with_digit : ℕ → ℕ → ℕ
with_digit high byte = 10 * high + (byte - zero_byte)

-- the number that digits write after the number `high`; leading zeros count for nothing
unfoldable pub value_of : ℕ → List ℕ → ℕ
value_of high [] = high
value_of high (byte ∷ later) = value_of (with_digit high byte) later

-- the byte of a digit
abbrev pub digit_byte : ℕ → ℕ
digit_byte n = zero_byte + n

-- the digits of a number: those of its tenth, and then its last one. `steps` bounds how often a tenth is taken
unfoldable pub decimal_within : ℕ → ℕ → List ℕ
decimal_within zero n = digit_byte (n % 10) ∷ []
decimal_within (suc steps) n =
    let longer = decimal_within steps (n / 10) ++ digit_byte (n % 10) ∷ [] in
    cond (ltb n 10) (digit_byte n ∷ []) longer

-- (a tenth cannot be taken more often than the number counts)
unfoldable pub decimal : ℕ → List ℕ
decimal n = decimal_within n n
