-- `bits::ones::between`: the whole bytes, and the parts of a byte before and behind them, are the whole run up to the row's end.
use Rattle.std.proofs.Common.{◌≡◌, ◌+◌, ◌-◌, ◌*◌, ◌/◌, ◌%◌, ◌^◌, ◌≤◌, ◌<◌, min, ap, ap₂, ◌∙◌, arith, List, ℕ, length, take, drop, length-take}
use Rattle.bits.specs.Row.{bits}
use Rattle.bits.specs.Ones.{ones_of, ones_between}
use Rattle.bits.proofs.CountingOnes.{between_join, between_le, between_bytes, between_clamped, bytes_fit}
use Rattle.bits.proofs.ones.between.Goals as goal

-- a run that ends with the row is the whole run
up_to : (row : List ℕ) (from to : ℕ) {end : ℕ} → end ≡ min to (length row * 8) → ones_between from end row ≡ ones_between from to row
up_to row from to end_is = ap (λ (n : ℕ). ones_between from n row) end_is ∙ between_clamped row from to

-- the run up to the part behind the whole bytes
to_last : (row : List ℕ) (from first last : ℕ) {part whole : ℕ} → from ≤ first * 8 → first ≤ last → last * 8 < 2 ^ 64
    → part ≡ ones_between from (first * 8) row → whole ≡ ones_of (bits (take (last - first) (drop first row))) % 2 ^ 64
    → part + whole ≡ ones_between from (last * 8) row
to_last row from first last border order few own own' =
    let slice : List ℕ = take (last - first) (drop first row) in
    let short : length slice * 8 < 2 ^ 64 = omega (arith, length-take (last - first) (drop first row)) in
    ap₂ ◌+◌ own (own' ∙ bytes_fit slice short ∙ between_bytes row order) ∙ between_join row border (omega arith)

pub returns-then-to-from : goal.returns-then-to-from
returns-then-to-from c = omega (arith, between_le c.args.row.now c.args.from c.args.to)

pub overflow_add-result : goal.overflow_add-result
overflow_add-result c = let a = c.args in
    let all = to_last a.row.now a.from c.div_ceil-first.result (c.end_within-to.result / 8) (omega arith) c.if-last-first.false (omega arith) c.of_part-2.ensures c.of_bytes.ensures in
    omega (arith, all, between_le a.row.now a.from (c.end_within-to.result / 8 * 8))

-- the run up to the row's end
all_of_it : (c : goal.After-of_part-3) → c.of_part-2.result + c.of_bytes.result + c.of_part-3.result ≡ ones_between c.args.from c.end_within-to.result c.args.row.now
all_of_it c = let a = c.args in
    ap₂ ◌+◌ (to_last a.row.now a.from _ _ (omega arith) c.if-last-first.false (omega arith) c.of_part-2.ensures c.of_bytes.ensures) c.of_part-3.ensures
    ∙ between_join a.row.now (omega arith) (omega arith)

pub overflow_add-result-2 : goal.overflow_add-result-2
overflow_add-result-2 c = omega (arith, all_of_it c, between_le c.args.row.now c.args.from c.end_within-to.result)

pub returns-then-last-first : goal.returns-then-last-first
returns-then-last-first c = let a = c.args in
    c.of_part.ensures ∙ up_to a.row.now a.from a.to c.end_within-to.ensures

pub returns : goal.returns
returns c = let a = c.args in
    all_of_it c ∙ up_to a.row.now a.from a.to c.end_within-to.ensures
