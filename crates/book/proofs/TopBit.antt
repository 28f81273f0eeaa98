-- The look at all counts by their top bits: of a count x and of L − x modulo 2^64 both are clear exactly where x is at most L.
-- Assumes nothing.
use Rattle.std.proofs.Common.{◌≡◌, ℕ, suc, ◌+◌, ◌-◌, ◌%◌, ◌^◌, ◌<◌, ◌≤◌, false, ◌↔◌, List, [], ◌∷◌, length, get_or, drop, arith, drop_of_length-le, drop-cons}
use lib.Bits.{bit_or, or_lt, or_add_and, and_le_l, and_le_r}
use Rattle.book.specs.RunOfCounts.{any_above}
use Rattle.book.specs.RunSteps.{Looked}
use Rattle.book.proofs.LookingAtAll.{above_cons, above_join, above_empty}

-- joined bit by bit, it is clear exactly where it is clear in both
or_top : (a b : ℕ) → (bit_or a b < 2 ^ 63) ↔ ((a < 2 ^ 63) × (b < 2 ^ 63))
or_top a b =
    let sum = or_add_and a b in
    (λ h. (omega (arith, h, sum, and_le_r a b), omega (arith, h, sum, and_le_l a b)), λ h. or_lt 63 a b h.0 h.1)

-- L − x modulo 2^64
abbrev less : ℕ → ℕ → ℕ
less bound x = (bound + (2 ^ 64 - x)) % 2 ^ 64

less_top : (bound x : ℕ) → bound ≤ 65535 → x < 2 ^ 64 → ((x < 2 ^ 63) × (less bound x < 2 ^ 63)) ↔ (x ≤ bound)
less_top bound x small fits = (λ h. omega (arith, h.0, h.1), λ h. (omega (arith, h, small), omega (arith, h, small, fits)))

-- THE LOOK before count i: the top bit is clear and none of the counts from there on is above L exactly where none of them all is
abbrev pub Looking : ℕ → List ℕ → ℕ → ℕ → Type 0
Looking bound counts i seen = ((seen < 2 ^ 63) × (any_above bound (drop i counts) ≡ false)) ↔ (any_above bound counts ≡ false)

module _ (bound : ℕ) (counts : List ℕ) where
  pub look_ends : (i seen : ℕ) → length counts ≤ i → Looking bound counts i seen → Looked bound counts seen
  look_ends i seen past looking =
      let all : ((seen < 2 ^ 63) × (any_above bound [] ≡ false)) ↔ (any_above bound counts ≡ false) =
      rw (drop_of_length-le counts past) at looking in
      (λ clear. all.0 (clear, above_empty bound), λ none. (all.1 none).0)

  module _ (small : bound ≤ 65535) (i seen : ℕ) (inside : i < length counts) (fits : get_or counts i 0 < 2 ^ 64) where
    abbrev count : ℕ
    count = get_or counts i 0

    abbrev later : List ℕ
    later = drop (suc i) counts

    abbrev w : ℕ
    w = less bound count

    low : ((count < 2 ^ 63) × (w < 2 ^ 63)) ↔ (count ≤ bound)
    low = less_top bound count small fits

    pub look_on : Looking bound counts i seen → Looking bound counts (i + 1) (bit_or seen (bit_or count w))
    look_on looking =
        let before : ((seen < 2 ^ 63) × (any_above bound (count ∷ later) ≡ false)) ↔ (any_above bound counts ≡ false) =
        rw (drop-cons counts i 0 inside) at looking in
        let next : i + 1 ≡ suc i = omega arith in
        rw next (
          λ h.
              let seen_clear = (or_top seen (bit_or count w)).0 h.0 in
              before.0 (seen_clear.0, above_join bound count later (low.0 ((or_top count w).0 seen_clear.1)) h.1),
          λ none.
              let h = before.1 none in
              let k = above_cons bound count later h.1 in
              ((or_top seen (bit_or count w)).1 (h.0, (or_top count w).1 (low.1 k.0)), k.1),
        )
