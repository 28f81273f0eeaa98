-- THE ONES OF A PART of a ring's bits are the sum of its slots of one bit, for a part of any width that lies within the ring.
-- Assumes nothing.
use Prim.Native.Nat.{ℕ, zero, suc, ◌+◌, ◌-◌, ◌*◌, ◌/◌, ◌%◌, ◌^◌, ◌<◌, ◌≤◌}
use native.Mathlib.Nat.{add_comm}
use native.Mathlib.Omega.{arith}
use mathlib.Core.List.{List}
use mathlib.Core.Path.{◌≡◌, sym, ap, ap₂, ◌∙◌}
use lib.Count.{ones, ones_cat, ones-ones}
use lib.ListN.{length, take, drop}
use lib.Pow.{mod-pow-add, shr-shr}
use Rattle.bits.specs.Row.{bits, part_at}
use Rattle.bits.specs.Ones.{ones_of, ones_between}
use Rattle.bits.proofs.Promises.{word_of, part_lt, read_word, ones_of_part as ones_of_bits}
use Rattle.ring.specs.Slot.{field}
use Rattle.ring.specs.Newest.{newest, sum_newest}
use Rattle.ring.proofs.Around.{sum_none, sum_more, newest_near}

-- a bit is the number of its ones
ones_bit : (bit : ℕ) → bit < 2 → ones bit ≡ bit
ones_bit zero h = ones-ones 0
ones_bit (suc zero) h = ones-ones 1
ones_bit (suc (suc more)) h = absurd (omega arith)

-- a part is read from the whole ring as one word
part_of_all : (ring : List ℕ) (from width after : ℕ) → length ring * 8 ≡ from + width + after
    → part_at from width ring ≡ word_of ring 0 (length ring) / 2 ^ after % 2 ^ width
part_of_all ring from width after ends =
    read_word from width 0 (length ring) after (record { ends = omega arith; starts = omega arith }) ring (omega arith)

-- so a part of m + n bits is one of m bits and one of n bits behind it
pub part_in_two : (ring : List ℕ) (from m n : ℕ) → from + (m + n) ≤ length ring * 8
    → part_at from (m + n) ring ≡ part_at from m ring * 2 ^ n + part_at (from + m) n ring
part_in_two ring from m n within =
    let after : ℕ = length ring * 8 - (from + (m + n)) in
    let all : ℕ = word_of ring 0 (length ring) in
    part_of_all ring from (m + n) after (omega arith)
    ∙ mod-pow-add (all / 2 ^ after) m n
    ∙ ap (λ (x : ℕ). x % 2 ^ m * 2 ^ n + all / 2 ^ after % 2 ^ n) (shr-shr all after n)
    ∙ sym (ap₂ (λ (x y : ℕ). x * 2 ^ n + y) (part_of_all ring from m (after + n) (omega arith)) (part_of_all ring (from + m) n after (omega arith)))

-- THE LAW: the ones of a part of `width` bits are the sum of its slots of one bit
pub ones_of_part : (ring : List ℕ) (width from : ℕ) → from + width ≤ length ring * 8
    → ones (part_at from width ring) ≡ sum_newest (field 1 ring) (from + width) (from + width) width
unfolding field
ones_of_part ring zero from within =
    let none : part_at from 0 ring ≡ 0 = omega (arith, part_lt from 0 ring) in
    ap ones none ∙ ones-ones 0 ∙ sym (sum_none (field 1 ring) (from + 0) (from + 0))
ones_of_part ring (suc width) from within =
    let end : ℕ = from + suc width in
    let same : from + 1 + width ≡ end = omega arith in
    let here : newest end end (suc width) * 1 ≡ from = ap (λ (slot : ℕ). slot * 1) (newest_near end end (suc width) (omega arith)) ∙ omega arith in
    ap (λ (n : ℕ). ones (part_at from n ring)) (let e : suc width ≡ 1 + width = omega arith in e)
    ∙ ap ones (part_in_two ring from 1 width (omega arith))
    ∙ ones_cat width (part_at from 1 ring) (part_at (from + 1) width ring) (part_lt (from + 1) width ring)
    ∙ ap₂ ◌+◌ (ones_bit (part_at from 1 ring) (part_lt from 1 ring)) (ones_of_part ring width (from + 1) (omega arith))
    ∙ add_comm (part_at from 1 ring) (sum_newest (field 1 ring) (from + 1 + width) (from + 1 + width) width)
    ∙ ap₂ (λ (e at : ℕ). sum_newest (field 1 ring) e e width + part_at at 1 ring) same (sym here)
    ∙ sym (sum_more (field 1 ring) end end width)

-- so the ones between two bits are the sum of the slots that lie there
pub between_is_sum : (ring : List ℕ) (end n : ℕ) → n ≤ end → end ≤ length ring * 8
    → ones_between (end - n) end ring ≡ sum_newest (field 1 ring) end end n
between_is_sum ring end n within there =
    let from : ℕ = end - n in
    let many : end - from ≡ n = omega arith in
    let last : from + n ≡ end = omega arith in
    ap (λ (k : ℕ). ones_of (take k (drop from (bits ring)))) many
    ∙ sym (ones_of_bits from n ring)
    ∙ ones_of_part ring n from (omega arith)
    ∙ ap (λ (k : ℕ). sum_newest (field 1 ring) k k n) last
