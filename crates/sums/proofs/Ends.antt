-- The ends of groups: where they lie, and which entry is whose.
-- Assumes nothing.
use Prim.Native.Nat.{ℕ, zero, suc, ◌+◌, ◌*◌, ◌/◌, ◌%◌, ◌≤◌, ◌<◌}
use native.Mathlib.Omega.{arith}
use mathlib.Core.Bool.{Bool, true, false, cond}
use mathlib.Core.Logic.{◌⊎◌, inl, inr, ◌↔◌}
use mathlib.Core.Path.{◌≡◌, refl}
use borrow.Author.Tests.{eqb-true, eqb-false, eq-eqb}
use lib.Dec.{eqb}
use Rattle.book.proofs.Promises.{le_or_lt}
use Rattle.sums.specs.Row.{group, entries_for, entry_at, group_end, ends_group}
use Rattle.sums.specs.Rule.{end_after, end_before}
use Rattle.sums.specs.RowKept.{End}

-- A GROUP ENDS with slot 31, 63, … and with the last one: exactly where so many slots up to it are a multiple of 32, or are all
pub ends_where : (slots slot : ℕ) → slot < slots → (ends_group slots slot ≡ true) ↔ (((slot + 1) % 32 ≡ 0) ⊎ (slot + 1 ≡ slots))
unfolding group_end
ends_where slots slot below = (λ e. known (eqb-true (slot + 1) (group_end slots slot) e), found)
  where
    known : slot + 1 ≡ group_end slots slot → ((slot + 1) % 32 ≡ 0) ⊎ (slot + 1 ≡ slots)
    known e = by (le_or_lt slots (slot + 1))
      where
        by : (slots ≤ slot + 1) ⊎ (slot + 1 < slots) → ((slot + 1) % 32 ≡ 0) ⊎ (slot + 1 ≡ slots)
        by (inl all) = inr (omega arith)
        by (inr more) = inl (omega arith)

    found : ((slot + 1) % 32 ≡ 0) ⊎ (slot + 1 ≡ slots) → ends_group slots slot ≡ true
    found (inl whole) = eq-eqb (slot + 1) (group_end slots slot) (omega arith)
    found (inr all) = eq-eqb (slot + 1) (group_end slots slot) (omega arith)

-- for instance, of 65 slots
pub ends_of_65 : (ends_group 65 30 ≡ false) × (ends_group 65 31 ≡ true) × (ends_group 65 32 ≡ false) × (ends_group 65 63 ≡ true) × (ends_group 65 64 ≡ true)
unfolding group_end
ends_of_65 = (refl, refl, refl, refl, refl)

-- THE END OF A SLOT'S GROUP: the first end behind the slot, by 32 slots at the most
pub record FirstEnd (slots slot end : ℕ) : Type 0 where
  pub behind : slot < end
  pub within : end ≤ slots
  pub close : end ≤ slot + group
  pub is_end : End slots end
  pub first : (e : ℕ) → End slots e → slot < e → e ≤ slots → end ≤ e

end_is : (slots slot : ℕ) → End slots (group_end slots slot)
unfolding group_end
end_is slots slot = by (le_or_lt slots ((slot / group + 1) * group))
  where
    by : (slots ≤ (slot / group + 1) * group) ⊎ ((slot / group + 1) * group < slots) → End slots (group_end slots slot)
    by (inl all) = inr (omega arith)
    by (inr whole) = inl (omega arith)

first_end : (slots slot e : ℕ) → End slots e → slot < e → e ≤ slots → group_end slots slot ≤ e
unfolding group_end
first_end slots slot e (inl whole) lt le = omega arith
first_end slots slot e (inr all) lt le = omega arith

pub group_end_lem : (slots slot : ℕ) → slot < slots → FirstEnd slots slot (group_end slots slot)
unfolding group_end
group_end_lem slots slot below =
    record { behind = omega arith; within = omega arith; close = omega arith; is_end = end_is slots slot; first = first_end slots slot }

-- two ends have two entries
pub ends_apart : (slots e later : ℕ) → End slots e → 1 ≤ e → e < later → later ≤ slots → entry_at e ≡ entry_at later → ⊥
ends_apart slots e later (inl whole) low lt le same = omega arith
ends_apart slots e later (inr all) low lt le same = omega arith

-- and these are used entries
pub entry_used : (slots e : ℕ) → 1 ≤ e → e ≤ slots → entry_at e < entries_for slots
entry_used slots e low le = omega arith

-- A, for a run that begins with slot a: not before a, by 32 slots at the most; behind a, where a is neither 0 nor the last end
pub record After (slots a A : ℕ) : Type 0 where
  pub low : a ≤ A
  pub high : A ≤ slots
  pub close : A ≤ a + group
  pub is_end : End slots A
  pub at_0 : a ≡ 0 → A ≡ 0
  pub behind : 0 < a → a < slots → a < A

-- E, for a run up to slot b: not behind b, by less than 32 slots; s for s
pub record Before (slots b E : ℕ) : Type 0 where
  pub high : E ≤ b
  pub close : b < E + group
  pub is_end : End slots E
  pub at_last : b ≡ slots → E ≡ slots

pub end_after_lem : (slots a : ℕ) → a ≤ slots → After slots a (end_after slots a)
unfolding end_after group_end
end_after_lem slots zero le =
    record { low = omega arith; high = omega arith; close = omega arith; is_end = inl refl; at_0 = λ e. refl; behind = λ lt lt'. absurd (omega arith) }
end_after_lem slots (suc a) le =
    record {
      low = omega arith;
      high = omega arith;
      close = omega arith;
      is_end = end_is slots _;
      at_0 = λ e. absurd (omega arith);
      behind = λ lt lt'. omega arith;
    }

pub end_before_lem : (slots b : ℕ) → b ≤ slots → Before slots b (end_before slots b)
unfolding end_before
end_before_lem slots b le = by (eqb b slots) refl
  where
    by : (t : Bool) → eqb b slots ≡ t → Before slots b (cond t slots (b / group * group))
    by true e =
        let same = eqb-true b slots e in
        record { high = omega arith; close = omega arith; is_end = inr refl; at_last = λ q. refl }
    by false e =
        record { high = omega arith; close = omega arith; is_end = inl (omega arith); at_last = λ q. absurd (eqb-false b slots e q) }
