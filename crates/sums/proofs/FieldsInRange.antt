-- Fields and their sums stay in range, and the first slots of a ring that is lent whole are a ring that is lent whole.
-- Assumes nothing.
use Prim.Native.Nat.{ℕ, zero, suc, ◌-◌, ◌*◌, ◌≤◌, ◌<◌}
use native.Mathlib.Nat.{mul-le-mul_right}
use native.Mathlib.Omega.{arith}
use mathlib.Core.List.{List}
use mathlib.Core.Logic.{◌⊎◌, inl, inr}
use mathlib.Core.Path.{◌≡◌, refl, sym, ap, ◌∙◌}
use lib.ListN.{length}
use lib.Pow.{pow_mono}
use Rattle.refusals.specs.Call.{by_refusal, result_of}
use Rattle.ring.specs.declared.Answer.{Answer}
use Rattle.ring.specs.Slot.{field}
use Rattle.ring.specs.Lent.{Lent}
use Rattle.ring.specs.Calls.{sum_call}
use Rattle.ring.proofs.Promises.{bytes_are, field_lt, sum_none, sum_sums}
use Rattle.book.specs.declared.known.Known.{Known}
use Rattle.book.proofs.Promises.{le_or_lt}
use Rattle.sums.specs.Row.{sum_from}
use Rattle.sums.proofs.SumsOfFields.{from_none, from_top, last_is_run}
use Rattle.sums.proofs.ShapeInUse.{lent_whole}

module _ (width slots : ℕ) (ring : List ℕ) (whole : Lent width slots (length ring)) where
  pub field_small : (slot : ℕ) → field width ring slot ≤ 65535
  field_small slot = omega (arith, field_lt width ring slot, pow_mono {i = width} {j = 16} whole.width_high)

  pub sum_small : (from count : ℕ) → sum_from (field width ring) from count ≤ count * 65535
  sum_small = from_top (field width ring) 65535 field_small

  module _ (first : ℕ) (some : 0 < first) (within : first ≤ slots) where
    pub first_slots : Lent width first (length ring)
    first_slots =
        record {
          width_low = whole.width_low;
          width_high = whole.width_high;
          slots_low = some;
          slots_high = omega (arith, whole.slots_high);
          room = omega (arith, bytes_are width first, bytes_are width slots, mul-le-mul_right width within, whole.room);
        }

    -- the ring's sum of the last of them is the sum of a run of slots
    pub ring_answers : (from : ℕ) → from < first
        → result_of (sum_call width first ring 0 (first - from)) ≡ record { refusal = 0; value = sum_from (field width ring) from (first - from) }
    ring_answers from lt =
        sum_sums width first ring first_slots 0 some (first - from) (omega arith)
        ∙ ap (λ (sum : ℕ). record { refusal = 0; value = sum }) (last_is_run (field width ring) from first lt)

    pub ring_sums : (from : ℕ) → from < first
        → (result_of (sum_call width first ring 0 (first - from))).value ≡ sum_from (field width ring) from (first - from)
    ring_sums from lt = ap (λ (a : Answer). a.value) (ring_answers from lt)

-- of no slots the ring's call tells 0, refused or not
told_0 : (refusal sum : ℕ) → sum ≡ 0
    → (by_refusal {A = Answer} refusal (record { refusal = 0; value = sum }) (λ number. record { refusal = number; value = 0 })).value ≡ 0
told_0 zero sum none = none
told_0 (suc number) sum none = refl

pub no_fields : (width to : ℕ) (ring : List ℕ) → (result_of (sum_call width to ring 0 0)).value ≡ 0
unfolding result_of sum_call
no_fields width to ring = told_0 _ _ (sum_none (field width ring) to 0)

-- FIELDS of a ring that is lent: what the ring's call tells of some of its slots is their sum
pub fields_sum : (known : Known) (ring : List ℕ) (from to : ℕ) → known.shape.bytes ≤ length ring → from ≤ to → to ≤ known.shape.slots
    → (result_of (sum_call known.shape.width to ring 0 (to - from))).value ≡ sum_from (field known.shape.width ring) from (to - from)
fields_sum known ring from to room up within = by (le_or_lt to from)
  where
    by : (to ≤ from) ⊎ (from < to)
        → (result_of (sum_call known.shape.width to ring 0 (to - from))).value ≡ sum_from (field known.shape.width ring) from (to - from)
    by (inl none) =
        let e : to - from ≡ 0 = omega arith in
        rw e (no_fields known.shape.width to ring ∙ sym (from_none (field known.shape.width ring) from))
    by (inr some) = ring_sums known.shape.width known.shape.slots ring (lent_whole known room) to (omega arith) within from some
