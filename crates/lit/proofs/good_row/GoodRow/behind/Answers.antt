-- `lit::good_row::GoodRow::behind`: no place is behind the last frame.
use Rattle.std.proofs.Common.{arith, length-take, sym, ◌∙◌}
use Rattle.bits.specs.Row.{bits}
use Rattle.lit.specs.Frames.{frames}
use Rattle.lit.proofs.Searching.{found_le}
use Rattle.lit.proofs.good_row.GoodRow.behind.Goals as goal

pub map_or-requires : goal.map_or-requires
map_or-requires c place there _ _ = let good = c.args.self in
    record {
      fits = omega (
        arith,
        found_le c.args.t (frames good.row.now good.count) (omega (arith, c.if-t-eq0.false)) (sym there ∙ c.kth.ensures),
        length-take good.count (bits good.row.now),
        good.held.few,
      );
    }
