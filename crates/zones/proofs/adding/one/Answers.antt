-- `zones::adding::one`: the book's own call is made on the zone's stretch, and what it leaves is put back.
-- Assumes nothing.
use Rattle.std.proofs.Common.{rules, ◌≡◌, ℕ, ◌+◌, ◌-◌, ◌≤◌, length, take, drop, ap, ◌∙◌, arith}
use borrow.Rule.Slice.PartMut.{put_mid}
use lib.ListN.{set}
use Rattle.refusals.specs.Call.{result_of, left_of}
use Rattle.book.specs.declared.Book.{Book}
use Rattle.book.specs.Calls.{add_call}
use Rattle.book.specs.Told.{as_updated}
use Rattle.book.specs.Record.{bytes_of}
use Rattle.zones.specs.Stretches.{zone_at}
use Rattle.zones.proofs.OneAdded.{end_there, next_start, zones_added, rings_added}
use Rattle.zones.proofs.adding.one.Goals as goal

pub slice_bounds-add-end : goal.slice_bounds-add-end
slice_bounds-add-end c =
    let within : c.args.start + c.bytes.result ≤ length c.args.rings.now =
    omega (arith, c.bytes.ensures.0, end_there c.args.zones.now c.args.rings.now c.args.zone c.args.start c.args.count c.requires) in
    search rules

pub returns : goal.returns
returns c =
    let zones = c.args.zones.now in
    let rings = c.args.rings.now in
    let own = zone_at zones c.args.zone in
    let start = c.args.start in
    let bytes : c.bytes.result ≡ bytes_of own = c.bytes.ensures.0 in
    let told : as_updated own c.add.result ≡ result_of (add_call own (take (start + bytes_of own - start) (drop start rings)) c.args.count) =
    c.add.ensures.0 ∙ ap (λ (n : ℕ). result_of (add_call own (take (start + n - start) (drop start rings)) c.args.count)) bytes in
    let leaves : c.add.new.ring ≡ left_of (add_call own (take (start + bytes_of own - start) (drop start rings)) c.args.count) =
    c.add.ensures.1 ∙ ap (λ (n : ℕ). left_of (add_call own (take (start + n - start) (drop start rings)) c.args.count)) bytes in (
      ap (λ (n : ℕ). start + n) bytes ∙ next_start zones rings c.args.zone start c.args.count c.requires,
      ap (λ (book : Book). set zones c.args.zone book) c.unwrap_or.ensures
          ∙ zones_added zones rings c.args.zone start c.args.count c.requires c.add.result c.add.new.ring told leaves,
      ap (λ (n : ℕ). put_mid start (start + n - start) rings c.add.new.ring) bytes
          ∙ rings_added zones rings c.args.zone start c.args.count c.requires c.add.result c.add.new.ring told leaves,
    )
