-- `lit::good_row::GoodRow::kth`: the search by blocks, then by words, then by bytes, then in one byte.
use Rattle.std.proofs.Common.{◌≡◌, List, ℕ, ap, ◌∙◌, rules}
use Rattle.lit.specs.Frames.{frames}
use Rattle.lit.specs.RankSelect.{select_of}
use Rattle.lit.specs.Search.{found}
use Rattle.lit.proofs.Searching.{start_passed, frames_of_bytes}
use Rattle.lit.proofs.good_row.GoodRow.kth.Goals as goal

pub pass-past_blocks-requires-clause-passed : goal.pass-past_blocks-requires-clause-passed
pass-past_blocks-requires-clause-passed c =
    let start : c.default.result ≡ record { at = 0; before = 0 } = search rules in
    rw start (start_passed _ _ c.requires)

pub returns : goal.returns
returns c = let good = c.args.self in
    c.place.ensures
    ∙ ap (λ (l : List ℕ). found (select_of c.args.k l))
    (ap (λ (bytes : List ℕ). frames bytes good.count) c.bytes-bytes.ensures ∙ frames_of_bytes good.row.now good.count)
