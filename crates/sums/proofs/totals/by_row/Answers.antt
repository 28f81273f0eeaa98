-- `sums::totals::by_row`: the slots' sum is that of the rule, and every number stays in range.
-- Assumes nothing.
use Rattle.std.proofs.Common.{◌≡◌, ℕ, ◌<◌, ◌≤◌, List, length, sym, ◌∙◌, arith}
use Rattle.ring.specs.Newest.{newest}
use Rattle.book.specs.declared.known.Known.{Known}
use Rattle.book.specs.Figure.{slots_for}
use Rattle.sums.specs.Row.{entries_for}
use Rattle.book.proofs.Promises.{ready}
use Rattle.sums.proofs.Answered.{oldest_read, same_ok}
use Rattle.sums.proofs.SumsOfFields.{oldest_newest}
use Rattle.sums.proofs.FieldsInRange.{field_small}
use Rattle.sums.proofs.ByTheRule.{fields_few}
use Rattle.sums.proofs.ShapeInUse.{use_slots, lent_whole}
use Rattle.sums.proofs.FigureByTheRow.{Longer, slots_needed, slots_cover, figure_longer, fields_longer, sums_longer}
use Rattle.sums.proofs.totals.by_row.Goals as goal

-- once j is known
longer : (known : Known) (ring row : List ℕ) (window : ℕ) {j : ℕ}
    → (known.shape.bytes ≤ length ring) × (entries_for known.shape.slots ≤ length row) × (known.book.phase < window) × (window ≤ known.book.kept)
    → j ≡ slots_for known.book window → Longer known.book known.shape ring window j
longer known ring row window asked j_is =
    record {
      usable = (ready known asked.0).usable;
      shape_is = known.derived;
      longer = asked.2;
      kept = asked.3;
      j_is = j_is;
    }

pub read_newest-newest-requires : goal.read_newest-newest-requires
read_newest-newest-requires c =
    let k = longer c.args.known c.args.ring.now c.args.row.now c.args.window c.requires c.slots_for-j.ensures in
    (c.requires.0, c.requires.1, slots_needed k)

pub unwrap-g-requires : goal.unwrap-g-requires
unwrap-g-requires c =
    let k = longer c.args.known c.args.ring.now c.args.row.now c.args.window c.requires c.slots_for-j.ensures in
    let g_is =
    oldest_read c.args.known.shape.width c.args.known.shape.slots c.args.known.book.head c.slots_for-j.result c.args.ring.now c.read.result
    (lent_whole c.args.known c.requires.0) (use_slots c.args.known.derived c.args.known.sound).2
    (c.oldest.ensures ∙ oldest_newest _ _ _ (slots_needed k)) c.read.ensures in
    rw g_is

pub overflow_mul-j : goal.overflow_mul-j
overflow_mul-j c =
    let k = longer c.args.known c.args.ring.now c.args.row.now c.args.window c.requires c.slots_for-j.ensures in
    omega (arith, slots_cover k)

pub overflow_sub-j : goal.overflow_sub-j
overflow_sub-j c =
    let k = longer c.args.known c.args.ring.now c.args.row.now c.args.window c.requires c.slots_for-j.ensures in
    (slots_cover k).0

pub reckon-requires : goal.reckon-requires
reckon-requires c =
    let k = longer c.args.known c.args.ring.now c.args.row.now c.args.window c.requires c.slots_for-j.ensures in
    let g_is =
    oldest_read c.args.known.shape.width c.args.known.shape.slots c.args.known.book.head c.slots_for-j.result c.args.ring.now c.read.result
    (lent_whole c.args.known c.requires.0) (use_slots c.args.known.derived c.args.known.sound).2
    (c.oldest.ensures ∙ oldest_newest _ _ _ (slots_needed k)) c.read.ensures in
    let top = field_small c.args.known.shape.width c.args.known.shape.slots c.args.ring.now (lent_whole c.args.known c.requires.0)
    (newest c.args.known.shape.slots c.args.known.book.head c.slots_for-j.result) in
    (c.read_newest-newest.ensures.value.1, omega (arith, (slots_cover k).2), omega (arith, same_ok (sym c.unwrap-g.ensures ∙ g_is), top))

pub overflow_add-result : goal.overflow_add-result
overflow_add-result c =
    let k = longer c.args.known c.args.ring.now c.args.row.now c.args.window c.requires c.slots_for-j.ensures in
    omega (
      arith,
      c.read_newest-newest.ensures.counts.0,
      fields_few c.args.known.shape.slots c.args.known.book.head c.slots_for-j.result (use_slots c.args.known.derived c.args.known.sound).2 (slots_needed k),
    )

pub returns : goal.returns
returns c =
    let k = longer c.args.known c.args.ring.now c.args.row.now c.args.window c.requires c.slots_for-j.ensures in
    let g_is =
    oldest_read c.args.known.shape.width c.args.known.shape.slots c.args.known.book.head c.slots_for-j.result c.args.ring.now c.read.result
    (lent_whole c.args.known c.requires.0) (use_slots c.args.known.derived c.args.known.sound).2
    (c.oldest.ensures ∙ oldest_newest _ _ _ (slots_needed k)) c.read.ensures in
    let read = c.read_newest-newest.ensures in
    λ i. record {
      figure = (c.reckon.ensures ∙ figure_longer k c.args.row.now read.value.0 (same_ok (sym c.unwrap-g.ensures ∙ g_is))) i;
      fields = fields_longer k read.counts.0 i;
      sums = sums_longer k read.counts.1 i;
    }
