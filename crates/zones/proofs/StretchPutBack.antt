-- A stretch that was lent out and comes back: the ring bytes with it in its old place.
-- Assumes nothing.
use Prim.Native.Nat.{ℕ, ◌+◌, ◌-◌}
use native.Mathlib.Omega.{arith}
use mathlib.Core.List.{List, ◌++◌}
use mathlib.Core.Path.{◌≡◌, sym, ap, ◌∙◌}
use borrow.Rule.Slice.PartMut.{put_mid, Post-is}
use lib.ListN.{length, take, drop}
use Rattle.zones.specs.Stretches.{with_stretch}

-- from its first byte to its end it has as many bytes as it takes
pub span_is : (start bytes : ℕ) → start + bytes - start ≡ bytes
span_is start bytes = omega arith

-- put back between the bytes before and behind it, it is the stretch that starts there
pub put_back : (start bytes : ℕ) (rings stretch : List ℕ) → length stretch ≡ bytes
    → put_mid start (start + bytes - start) rings stretch ≡ with_stretch rings start stretch
unfolding with_stretch
put_back start bytes rings stretch same =
    ap (λ (behind : List ℕ). take start rings ++ (stretch ++ behind))
    (Post-is start (start + bytes) rings (omega arith) ∙ ap (λ (n : ℕ). drop (start + n) rings) (sym same))
