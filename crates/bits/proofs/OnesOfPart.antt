-- The ones of a number and those of the row of bits that writes it.
-- Assumes nothing.
use Prim.Native.Nat.{ℕ, zero, suc, ◌+◌}
use native.Mathlib.Nat.{zero-add}
use native.Mathlib.Omega.{arith}
use mathlib.Core.List.{List, [], ◌∷◌}
use mathlib.Core.Path.{◌≡◌, ap₂, ◌∙◌}
use lib.Count.{ones, ones_cat, ones-ones}
use lib.ListN.{length, take, drop}
use Rattle.bits.specs.Row.{number, bits, part_at}
use Rattle.bits.specs.Ones.{ones_of}
use Rattle.bits.proofs.Digits.{Binary, binary_take, binary_drop, number_lt}
use Rattle.bits.proofs.Rows.{binary_bits}

-- a row of binary digits has as many ones as the number that it writes
ones_of_number : (row : List ℕ) → Binary row → ones (number row) ≡ ones_of row
unfolding number ones_of
ones_of_number [] h = ones-ones 0
ones_of_number (zero ∷ later) h =
    ones_cat (length later) 0 (number later) (number_lt later h.1) ∙ ap₂ ◌+◌ (ones-ones 0) (ones_of_number later h.1) ∙ zero-add (ones_of later)
ones_of_number (suc zero ∷ later) h =
    ones_cat (length later) 1 (number later) (number_lt later h.1) ∙ ap₂ ◌+◌ (ones-ones 1) (ones_of_number later h.1) ∙ omega arith
ones_of_number (suc (suc more) ∷ later) h = absurd (omega (arith, h.0))

-- THE LAW: the number that a part of a row writes has as many ones as the part has
pub ones_of_part : (from width : ℕ) (bytes : List ℕ) → ones (part_at from width bytes) ≡ ones_of (take width (drop from (bits bytes)))
ones_of_part from width bytes =
    ones_of_number (take width (drop from (bits bytes)))
    (binary_take width (drop from (bits bytes)) (binary_drop from (bits bytes) (binary_bits bytes)))
