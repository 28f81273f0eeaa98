-- Bytes with other bytes in the place of some of them: the new ones are there, and all before and behind them are as they were.
-- Assumes nothing.
use Prim.Native.Nat.{ℕ, zero, suc, ◌+◌, ◌-◌, ◌≤◌}
use native.Mathlib.Nat.{zero-add, suc-add}
use native.Mathlib.Omega.{arith}
use mathlib.Core.List.{List, [], ◌∷◌, ◌++◌}
use mathlib.Core.Path.{◌≡◌, refl, sym, ap, ◌∙◌}
use lib.ListN.{length, take, drop, length-append, length-drop}
use lib.Seq.{take-nil, take-take, take-append-le, take_at, drop_at, drop-append-add, drop-drop, length-take-le}
use Rattle.zones.specs.Stretches.{with_stretch}

-- a part is the end of what ends with it
part_of : (from size : ℕ) (l : List ℕ) → take size (drop from l) ≡ drop from (take (from + size) l)
part_of zero size l = ap (λ (k : ℕ). take k l) (sym (zero-add size))
part_of (suc from) size [] = take-nil size ∙ sym (ap (λ (l : List ℕ). drop (suc from) l) (take-nil (suc from + size)))
part_of (suc from) size (x ∷ l) = part_of from size l ∙ ap (λ (k : ℕ). drop (suc from) (take k (x ∷ l))) (sym (suc-add from size))

module _ (rings : List ℕ) (start : ℕ) (stretch : List ℕ) (room : start + length stretch ≤ length rings) where
  -- as many bytes stand before the place as before it
  before_long : length (take start rings) ≡ start
  before_long = length-take-le start rings (omega arith)

  -- no byte comes or goes
  pub length_with : length (with_stretch rings start stretch) ≡ length rings
  unfolding with_stretch
  length_with = simp (length-append, before_long, length-drop) (omega arith)

  -- the new bytes are there
  pub part_there : take (length stretch) (drop start (with_stretch rings start stretch)) ≡ stretch
  unfolding with_stretch
  part_there =
      let rest : List ℕ = drop (start + length stretch) rings in
      ap (λ (l : List ℕ). take (length stretch) l) (drop_at (take start rings) (stretch ++ rest) start before_long)
      ∙ take_at stretch rest (length stretch) refl

  -- a part before them is as it was
  pub part_before : (from size : ℕ) → from + size ≤ start → take size (drop from (with_stretch rings start stretch)) ≡ take size (drop from rings)
  unfolding with_stretch
  part_before from size before =
      let rest : List ℕ = stretch ++ drop (start + length stretch) rings in
      part_of from size (take start rings ++ rest)
      ∙ ap (λ (l : List ℕ). drop from l)
      (take-append-le (from + size) (take start rings) rest (rw before_long before) ∙ take-take (from + size) start rings before)
      ∙ sym (part_of from size rings)

  -- and so is all that lies behind them
  pub rest_behind : (from : ℕ) → start + length stretch ≤ from → drop from (with_stretch rings start stretch) ≡ drop from rings
  unfolding with_stretch
  rest_behind from behind =
      let end : ℕ = start + length stretch in
      let front : List ℕ = take start rings in
      let far : from ≡ end + (from - end) = omega arith in
      let from_start : from ≡ start + (length stretch + (from - end)) = omega arith in
      let further : ℕ = length stretch + (from - end) in
      ap (λ (k : ℕ). drop k (front ++ (stretch ++ drop end rings))) (from_start ∙ ap (λ (k : ℕ). k + further) (sym before_long))
      ∙ drop-append-add front (stretch ++ drop end rings) further
      ∙ drop-append-add stretch (drop end rings) (from - end)
      ∙ drop-drop (from - end) end rings
      ∙ ap (λ (k : ℕ). drop k rings) (sym far)
