-- The loop of `zones::judge::books`: every record before is a book, and their bytes are added up.
-- Assumes nothing.
use Rattle.std.proofs.Common.{◌≡◌, ℕ, ◌*◌, ◌≤◌, ◌<◌}
use Rattle.zones.specs.Stretches.{zone_at, stretch_start}
use Rattle.zones.specs.Lowest.{record_refusal}
use Rattle.zones.proofs.judge.books.Given as goal

abbrev pub invariant-loop-place : goal.invariant-loop-place
invariant-loop-place l =
    record {
      books_before : (k : ℕ) → k < l.place → record_refusal (zone_at l.zones k) ≡ 0;
      all_is : l.all ≡ stretch_start l.zones l.place;
      few : l.all ≤ l.place * 8192;
    }
