-- Writing and reading a number are one another's inverse: the digits that write a number read as that number, and a run of digits is
-- the one that writes the number it reads as, unless it starts with a 0.
-- Assumes nothing.
use Prim.Native.Nat.{ℕ, zero, suc, ◌/◌, ◌%◌, ◌≤◌, ◌<◌}
use native.Mathlib.Decide.{dec_lt}
use native.Mathlib.Omega.{arith}
use mathlib.Core.Bool.{Bool, true, false, ◌&&◌}
use mathlib.Core.List.{List, [], ◌∷◌, ◌++◌, append-nil, append_assoc}
use mathlib.Core.Path.{◌≡◌, refl, sym, ap, ◌∙◌}
use borrow.Author.Tests.{le-leb, lt-leb, leb-true}
use lib.Dec.{leb}
use lib.ListN.{length, length-append}
use Rattle.decimals.specs.Decimal.{zero_byte, nine_byte, digit, AllDigits, with_digit, value_of, digit_byte, decimal}
use Rattle.decimals.proofs.Digits.{decimal_small, decimal_large}

-- two tests that give a range
pub between : (low high n : ℕ) → (leb low n && leb n high) ≡ true → (low ≤ n) × (n ≤ high)
between low high n = by (leb low n) (leb n high) refl refl
  where
    by : (over under : Bool) → leb low n ≡ over → leb n high ≡ under → (over && under) ≡ true → (low ≤ n) × (n ≤ high)
    by true true l h e = (leb-true low n l, leb-true n high h)
    by true false l h e = cc
    by false under l h e = cc

-- the bytes that are digits, and those below them
pub digit_range : (byte : ℕ) → digit byte ≡ true → (zero_byte ≤ byte) × (byte ≤ nine_byte)
unfolding digit
digit_range byte e = between zero_byte nine_byte byte e

pub digit_low : (byte : ℕ) → byte < zero_byte → digit byte ≡ false
unfolding digit
digit_low byte h = rw (lt-leb zero_byte byte h)

pub digit_byte_lem : (n : ℕ) → n < 10 → digit (digit_byte n) ≡ true
unfolding digit
digit_byte_lem n h = rw (le-leb zero_byte (digit_byte n) (omega arith), le-leb (digit_byte n) nine_byte (omega arith))

pub all_append : (a b : List ℕ) → AllDigits a → AllDigits b → AllDigits (a ++ b)
all_append [] b ha hb = hb
all_append (byte ∷ a) b ha hb = (ha.0, all_append a b ha.1 hb)

-- digits read one by one, and one run after the other
pub value_none : (high : ℕ) → value_of high [] ≡ high
unfolding value_of
value_none high = refl

pub value_more : (high byte : ℕ) (later : List ℕ) → value_of high (byte ∷ later) ≡ value_of (with_digit high byte) later
unfolding value_of
value_more high byte later = refl

pub value_append : (high : ℕ) (a b : List ℕ) → value_of high (a ++ b) ≡ value_of (value_of high a) b
unfolding value_of
value_append high [] b = refl
value_append high (byte ∷ a) b = value_append (with_digit high byte) a b

value_one : (high byte : ℕ) → value_of high (byte ∷ []) ≡ with_digit high byte
value_one high byte = value_more high byte [] ∙ value_none (with_digit high byte)

-- what a number's digits are
record Writes (n : ℕ) (run : List ℕ) : Type 0 where
  all : AllDigits run
  some : 0 < length run
  value : value_of 0 run ≡ n

one_writes : (n : ℕ) → n < 10 → Writes n (decimal n)
one_writes n small =
    rw (decimal_small n small)
    record { all = (digit_byte_lem n small, tt); some = omega arith; value = value_one 0 (digit_byte n) ∙ omega arith }

more_writes : (n : ℕ) → 10 ≤ n → Writes (n / 10) (decimal (n / 10)) → Writes n (decimal n)
more_writes n large tenth =
    let last : List ℕ = digit_byte (n % 10) ∷ [] in
    rw (decimal_large n large)
    record {
      all = all_append (decimal (n / 10)) last tenth.all (digit_byte_lem (n % 10) (omega arith), tt);
      some = omega (arith, tenth.some, length-append (decimal (n / 10)) last);
      value =
          value_append 0 (decimal (n / 10)) last
          ∙ ap (λ (high : ℕ). value_of high last) tenth.value
          ∙ value_one (n / 10) (digit_byte (n % 10))
          ∙ omega arith;
    }

-- (no more steps than the number counts)
decimal_writes : (steps n : ℕ) → n ≤ steps → Writes n (decimal n)
decimal_writes zero n h = one_writes n (omega arith)
decimal_writes (suc steps) n h = by (dec_lt n 10) (λ large. decimal_writes steps (n / 10) (omega arith))
  where
    by : Dec (n < 10) → (10 ≤ n → Writes (n / 10) (decimal (n / 10))) → Writes n (decimal n)
    by (yes small) tenth = one_writes n small
    by (no large) tenth = more_writes n (omega arith) (tenth (omega arith))

pub decimal_digits : (n : ℕ) → AllDigits (decimal n)
decimal_digits n = (decimal_writes n n (omega arith)).all

pub decimal_some : (n : ℕ) → 0 < length (decimal n)
decimal_some n = (decimal_writes n n (omega arith)).some

pub decimal_value : (n : ℕ) → value_of 0 (decimal n) ≡ n
decimal_value n = (decimal_writes n n (omega arith)).value

-- a digit more behind a number other than 0 is written behind its digits
decimal_with : (high byte : ℕ) → 0 < high → digit byte ≡ true → decimal (with_digit high byte) ≡ decimal high ++ byte ∷ []
decimal_with high byte some d =
    let range = digit_range byte d in
    let low : zero_byte ≤ byte = range.0 in
    let top : byte ≤ nine_byte = range.1 in
    let tenth : with_digit high byte / 10 ≡ high = omega arith in
    let last : digit_byte (with_digit high byte % 10) ≡ byte = omega arith in
    decimal_large (with_digit high byte) (omega arith)
    ∙ (λ i. decimal (tenth i) ++ last i ∷ [])

behind : (high : ℕ) (later : List ℕ) → 0 < high → AllDigits later → decimal (value_of high later) ≡ decimal high ++ later
unfolding value_of
behind high [] some all = sym (append-nil (decimal high))
behind high (byte ∷ later) some all =
    behind (with_digit high byte) later (omega arith) all.1
    ∙ ap (λ (l : List ℕ). l ++ later) (decimal_with high byte some all.0)
    ∙ append_assoc (decimal high) (byte ∷ []) later

pub value_decimal : (first : ℕ) (later : List ℕ) → zero_byte < first → AllDigits (first ∷ later)
    → decimal (value_of 0 (first ∷ later)) ≡ first ∷ later
unfolding value_of
value_decimal first later nonzero all =
    let top : first ≤ nine_byte = (digit_range first all.0).1 in
    let small : with_digit 0 first < 10 = omega arith in
    let same : digit_byte (with_digit 0 first) ≡ first = omega arith in
    behind (with_digit 0 first) later (omega arith) all.1
    ∙ ap (λ (l : List ℕ). l ++ later) (decimal_small (with_digit 0 first) small)
    ∙ ap (λ (byte : ℕ). byte ∷ later) same
