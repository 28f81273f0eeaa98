-- `rows::put::Line::number`: a number below 10 is its digit, and any other is its tenth and then its last digit.
-- Assumes nothing.
use Rattle.std.proofs.Common.{◌≡◌, ℕ, ◌+◌, ◌/◌, ◌%◌, ◌≤◌, List, [], ◌∷◌, ◌++◌, length, sym, ap, subst, ◌∙◌, arith, length-append}
use Rattle.decimals.specs.Decimal.{digit_byte, decimal}
use Rattle.decimals.proofs.Digits.{decimal_small, decimal_large}
use Rattle.rows.specs.Appended.{Appended}
use Rattle.rows.proofs.Writing.{appended_then}
use Rattle.rows.proofs.put.Line.+number.Goals as goal

more_digits_lem : (n : ℕ) → 10 ≤ n → length (decimal n) ≡ length (decimal (n / 10)) + 1
more_digits_lem n h = ap length (decimal_large n h) ∙ length-append (decimal (n / 10)) (digit_byte (n % 10) ∷ [])

pub byte-requires : goal.byte-requires
byte-requires t c = let one : length (decimal c.args.n) ≡ 1 = ap length (decimal_small c.args.n c.if-n-lt10.true) in omega (arith, c.requires)

pub returns-then-n-lt10 : goal.returns-then-n-lt10
returns-then-n-lt10 t c = let a = c.args in
    let digits : c.digit.result ∷ [] ≡ decimal a.n =
    ap (λ (d : ℕ). d ∷ []) c.digit.ensures ∙ sym (decimal_small a.n c.if-n-lt10.true) in
    subst (λ (text : List ℕ). Appended a.self.now text c.byte.new.self) digits c.byte.ensures

pub number-requires : goal.number-requires
number-requires t c =
    (omega (arith, c.decreases, c.if-n-lt10.false), omega (arith, c.requires, more_digits_lem c.args.n c.if-n-lt10.false))

pub byte-requires-else-n-lt10 : goal.byte-requires-else-n-lt10
byte-requires-else-n-lt10 t c =
    omega (arith, c.requires, c.number.ensures.moved, c.number.ensures.long, more_digits_lem c.args.n c.if-n-lt10.false)

pub returns-else-n-lt10 : goal.returns-else-n-lt10
returns-else-n-lt10 t c = let a = c.args in
    let last = c.digit-else-n-lt10 in
    let digits : decimal (a.n / 10) ++ last.result ∷ [] ≡ decimal a.n =
    ap (λ (d : ℕ). decimal (a.n / 10) ++ d ∷ []) last.ensures ∙ sym (decimal_large a.n c.if-n-lt10.false) in
    subst (λ (text : List ℕ). Appended a.self.now text c.byte-else-n-lt10.new.self) digits
    (appended_then (decimal (a.n / 10)) (last.result ∷ []) c.number.ensures c.byte-else-n-lt10.ensures)
