-- The table of places by its rule. All its 2,048 entries are computed and compared with the constant at once, in table/in_byte/Answers.antt; the law
-- here carries that to each entry.
-- Assumes nothing.
use Prim.Native.Nat.{ℕ, zero, suc, ◌+◌, ◌-◌, ◌*◌, ◌/◌, ◌%◌, ◌<◌, ◌≤◌}
use native.Mathlib.Nat.{add-zero, add-suc, suc-add, zero-add}
use native.Mathlib.Omega.{arith}
use mathlib.Core.List.{List, [], ◌∷◌}
use mathlib.Core.Logic.{◌⊎◌, inl, inr}
use mathlib.Core.Path.{◌≡◌, sym, ap, ap₂, ◌∙◌}
use lib.ListN.{get_or}
use Rattle.bits.proofs.Promises.{digits_of_byte, ones_le}
use Rattle.lit.specs.RankSelect.{select_of}
use Rattle.lit.specs.InByte.{place_in_byte}
use Rattle.lit.proofs.Selects.{select_none}

-- the bits of a byte one by one
abbrev bits_of : ℕ → List ℕ
bits_of byte = byte / 128 % 2 ∷ byte / 64 % 2 ∷ byte / 32 % 2 ∷ byte / 16 % 2 ∷ byte / 8 % 2 ∷ byte / 4 % 2 ∷ byte / 2 % 2 ∷ byte % 2 ∷ []

-- THE RULE of entry i: the place of the one that it stands for, the (i % 8 + 1)-th of the byte i / 8
abbrev pub entry : ℕ → ℕ
entry i = select_of (i % 8 + 1) (bits_of (i / 8))

-- n entries from entry i on
abbrev pub entries : ℕ → ℕ → List ℕ
entries zero i = []
entries (suc n) i = entry i ∷ entries n (suc i)

-- one of them
entry_of : (n i k : ℕ) → k < n → get_or (entries n i) k 0 ≡ entry (i + k)
entry_of zero i k h = absurd (omega arith)
entry_of (suc n) i zero h = ap entry (sym (add-zero i))
entry_of (suc n) i (suc k) h = entry_of n (suc i) k (omega arith) ∙ ap entry (suc-add i k ∙ sym (add-suc i k))

-- so in the table that is all of them each entry is the place that it stands for
pub by_table : (byte k : ℕ) → byte < 256 → 0 < k → k ≤ 8 → get_or (entries 2048 0) (byte * 8 + (k - 1)) 0 ≡ place_in_byte byte k
by_table byte k small low high =
    let i : ℕ = byte * 8 + (k - 1) in
    let own : i / 8 ≡ byte = omega arith in
    let nth : i % 8 + 1 ≡ k = omega arith in
    entry_of 2048 0 i (omega arith)
    ∙ ap entry (zero-add i)
    ∙ ap₂ (λ (j x : ℕ). select_of j (bits_of x)) nth own
    ∙ ap (select_of k) (sym (digits_of_byte byte))

-- a byte has no 0th one, and no more than eight
pub none_outside : (byte k : ℕ) → (k ≡ 0) ⊎ ((k ≡ 0 → ⊥) × (8 < k)) → 0 ≡ place_in_byte byte k
none_outside byte k (inl none) = rw none
none_outside byte k (inr (some, beyond)) =
    sym (ap (select_of k) (digits_of_byte byte) ∙ select_none k (bits_of byte) (omega (arith, ones_le (bits_of byte))))
