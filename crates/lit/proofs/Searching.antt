-- The search for the k-th one: what is known after each group of bytes, where it stops, and the place that it then finds.
-- Assumes nothing.
use Prim.Native.Nat.{ℕ, zero, suc, ◌+◌, ◌-◌, ◌*◌, ◌/◌, ◌%◌, ◌^◌, ◌<◌, ◌≤◌}
use native.Mathlib.Omega.{arith}
use Rattle.std.proofs.lemmas.Bool.{cases_lt}
use Rattle.std.proofs.Common.{Some, None}
use mathlib.Core.List.{List, ◌++◌}
use mathlib.Core.Logic.{◌⊎◌, inl, inr}
use mathlib.Core.Path.{◌≡◌, refl, sym, ap, ap₂, ◌∙◌}
use borrow.Author.Tests.{le-leb, lt-leb}
use lib.Dec.{leb}
use lib.ListN.{length, get_or, take, drop, length-append, length-drop}
use lib.Seq.{take_at, take-take, drop_at, drop-drop}
use Rattle.std.specs.Bool.{then_some}
use Rattle.bits.specs.Row.{bits}
use Rattle.bits.specs.Ones.{ones_of}
use Rattle.bits.proofs.Promises.{length_bits, bits_of_byte, bits_take, bits_drop, ones_none, bytes_fit}
use Rattle.lit.specs.Limits.{most_frames}
use Rattle.lit.specs.Frames.{frames}
use Rattle.lit.specs.RankSelect.{rank_of, select_of}
use Rattle.lit.specs.InByte.{place_in_byte}
use Rattle.lit.specs.Search.{Passed, Stopped, found}
use Rattle.lit.proofs.Ranks.{rank_join, rank_rest, rank_grows, rank_le}
use Rattle.lit.proofs.Selects.{select_none, select_place, select_within, select_take_in, select_take_out}

-- at the start nothing is passed
pub start_passed : (row : List ℕ) (k : ℕ) → 0 < k → Passed row k 0 0
start_passed row k some = record { within = omega arith; ones = sym ones_none; fewer = some }

-- the bytes from a place on begin with a group; these are left behind it
pub left_behind : (row : List ℕ) (at size : ℕ) (group after : List ℕ) → drop at row ≡ group ++ after → length group ≡ size
    → after ≡ drop (at + size) row
left_behind row at size group after parts long =
    sym (drop_at group after size long) ∙ ap (drop size) (sym parts) ∙ drop-drop size at row

module _ (row : List ℕ) (k at before : ℕ) (p : Passed row k at before) where
  -- no more ones are passed than bits
  pub passed_le : before ≤ length row * 8
  passed_le = omega (arith, p.within, p.ones, rank_le (at * 8) (bits row))

  module _ (few : length row * 8 ≤ most_frames) (size : ℕ) (group after : List ℕ) (more : ℕ) (parts : drop at row ≡ group ++ after)
      (long : length group ≡ size) (told : more ≡ ones_of (bits group) % 2 ^ 64) where
    -- the group lies in the row
    group_within : at + size ≤ length row
    group_within = omega (arith, p.within, long, length-append group after, length-drop at row, ap (λ (l : List ℕ). length l) parts)

    -- so that its ones are few enough to be told
    counted : more ≡ ones_of (bits group)
    counted = told ∙ bytes_fit group (omega (arith, group_within, long, few))

    -- the ones up to behind the next group
    after_group : before + more ≡ rank_of ((at + size) * 8) (bits row)
    after_group =
        let e : at * 8 + size * 8 ≡ (at + size) * 8 = omega arith in
        let own : group ≡ take size (drop at row) = sym (ap (take size) parts ∙ take_at group after size long) in
        ap₂ ◌+◌ p.ones
        (counted ∙ ap (λ (l : List ℕ). ones_of (bits l)) own ∙ ap ones_of (bits_take size (drop at row) ∙ ap (take (size * 8)) (bits_drop at row)))
        ∙ sym (rank_join (at * 8) (size * 8) (bits row))
        ∙ ap (λ (n : ℕ). rank_of n (bits row)) e

    -- there are no more than bits of the row
    pub group_le : before + more ≤ length row * 8
    group_le = omega (arith, after_group, group_within, rank_le ((at + size) * 8) (bits row))

    -- a group more is passed where the k-th one lies behind it
    pub pass_group : before + more < k → Passed row k (at + size) (before + more)
    pass_group behind = record { within = group_within; ones = after_group; fewer = behind }

    -- otherwise the search stops before it
    pub stop_here : k ≤ before + more → Stopped row k size at before
    stop_here here = record { passed = p; here = inr (omega (arith, after_group)) }

  -- as it does where no such group is left
  pub stop_short : (size : ℕ) → length (drop at row) < size → Stopped row k size at before
  stop_short size short = record { passed = p; here = inl (omega (arith, p.within, length-drop at row)) }

-- A PLACE, where there is one, is told as it is …
pub found_some : (place : ℕ) → 0 < place → Some place ≡ found place
found_some zero none = absurd (omega arith)
found_some (suc place) some = refl

found_is : (n : ℕ) {place : ℕ} → Some place ≡ found n → place ≡ n
found_is zero told = cc
found_is (suc n) told = cc

-- … and is then in the row
pub found_le : (k : ℕ) (row : List ℕ) → 0 < k → {place : ℕ} → Some place ≡ found (select_of k row) → place ≤ length row
found_le k row some {place} told = by (cases_lt (ones_of row) k)
  where
    by : (ones_of row < k) ⊎ (k ≤ ones_of row) → place ≤ length row
    by (inr there) = omega (arith, found_is (select_of k row) told, (select_place k row some there).1)
    by (inl gone) = omega (arith, found_is (select_of k row) told, select_none k row gone)

-- Where the search stops before a byte, or at the end, of which the frames are a part.
module _ {row : List ℕ} {k at before : ℕ} (s : Stopped row k 1 at before) (count : ℕ) (part : count ≤ length row * 8) where
  -- at the end there are not so many ones
  pub none_found : length row ≤ at → None ≡ found (select_of k (frames row count))
  none_found ended =
      let e : at ≡ length row = omega (arith, s.passed.within) in
      let all : before ≡ rank_of (length row * 8) (bits row) = s.passed.ones ∙ ap (λ (n : ℕ). rank_of (n * 8) (bits row)) e in
      ap found (sym (select_none k (frames row count) (omega (arith, s.passed.fewer, rank_grows (bits row) part))))

  -- before it the k-th one lies in the next byte …
  module _ (more : at < length row) where
    in_this_byte : k ≤ rank_of (at * 8 + 8) (bits row)
    in_this_byte = by s.here
      where
        by : (length row < at + 1) ⊎ (k ≤ rank_of ((at + 1) * 8) (bits row)) → k ≤ rank_of (at * 8 + 8) (bits row)
        by (inl ended) = absurd (omega arith)
        by (inr here) = let e : (at + 1) * 8 ≡ at * 8 + 8 = omega arith in rw e at here

    -- … where it has the place that the table gives
    module _ (byte inside : ℕ) (own : byte ≡ get_or row at 0) (table : inside ≡ place_in_byte byte (k - before)) where
      pub found_at : at * 8 + inside ≡ select_of k (bits row)
      found_at =
          ap (λ (n : ℕ). at * 8 + n) (table ∙ ap (λ (x : ℕ). place_in_byte x (k - before)) own)
          ∙ sym
          (select_within (at * 8) 8 (bits row) k (omega (arith, length_bits row)) (omega (arith, s.passed.fewer, s.passed.ones)) in_this_byte
          ∙ ap₂ (λ (j : ℕ) (l : List ℕ). at * 8 + select_of (k - j) l) (sym s.passed.ones) (bits_of_byte row at more))

      found_place : 0 < at * 8 + inside
      found_place =
          rw found_at
          (select_place k (bits row) (omega (arith, s.passed.fewer)) (omega (arith, in_this_byte, rank_rest (at * 8 + 8) (bits row)))).0

      -- within the frames it is that of the k-th lit frame, and behind them there is none
      pub found_within : then_some (leb (at * 8 + inside) count) (at * 8 + inside) ≡ found (select_of k (frames row count))
      found_within = by (cases_lt count (at * 8 + inside))
        where
          by : (count < at * 8 + inside) ⊎ (at * 8 + inside ≤ count)
              → then_some (leb (at * 8 + inside) count) (at * 8 + inside) ≡ found (select_of k (frames row count))
          by (inr within) =
              rw (le-leb (at * 8 + inside) count within)
              (found_some (at * 8 + inside) found_place
              ∙ ap found (found_at ∙ sym (select_take_in k count (bits row) (omega (arith, found_at)))))
          by (inl outside) =
              rw (lt-leb (at * 8 + inside) count outside) (ap found (sym (select_take_out k count (bits row) (omega (arith, found_at)))))

-- the frames of a row are those of the bytes that they take
pub frames_of_bytes : (row : List ℕ) (count : ℕ) → frames (take ((count + 7) / 8) row) count ≡ frames row count
frames_of_bytes row count =
    let n : ℕ = (count + 7) / 8 in
    ap (take count) (bits_take n row) ∙ take-take count (n * 8) (bits row) (omega arith)
