-- It goes by the two cases of the definition, and every number stays in range.
use Rattle.std.proofs.Common.{◌≡◌, ℕ, ◌-◌, ◌<◌, ◌≤◌, List, length, ◌∙◌, arith}
use Rattle.ring.proofs.Promises.{newest_lt}
use Rattle.book.specs.declared.known.Known.{Known}
use Rattle.book.specs.Derived.{ceil_div}
use Rattle.book.specs.Record.{held_in}
use Rattle.book.proofs.Ready.{ready}
use Rattle.book.proofs.StepsInRange.{ready_lent, ready_divides, ready_head}
use Rattle.book.proofs.FigureInTwoCases.{figure_open, Longer, slots_needed, slots_cover, parts_top, figure_slots}
use Rattle.book.proofs.known.Known.figure.Goals as goal

-- the window is longer than the open block
longer : (known : Known) (ring : List ℕ) {window j : ℕ} → (known.shape.bytes ≤ length ring) × (window ≤ known.book.kept)
    → known.book.phase < window → j ≡ ceil_div (window - known.book.phase) known.shape.block → Longer known.book known.shape ring window j
longer known ring asked past j_is = record { ready = ready known asked.0; longer = past; kept = asked.1; j_is = j_is }

pub returns-then-window-book : goal.returns-then-window-book
returns-then-window-book c =
    c.reckon.ensures ∙ figure_open c.args.self.book (held_in c.args.self.book c.args.ring.now) c.args.window c.if-window-book.true

pub ceil_div-j-requires : goal.ceil_div-j-requires
ceil_div-j-requires c = ready_divides (ready c.args.self c.requires.0) (omega (arith, c.requires.1))

pub overflow_sub-j : goal.overflow_sub-j
overflow_sub-j c = (slots_needed (longer c.args.self c.args.ring.now c.requires c.if-window-book.false c.ceil_div-j.ensures)).0

pub sum_newest-newer-requires : goal.sum_newest-newer-requires
sum_newest-newer-requires c =
    let k = longer c.args.self c.args.ring.now c.requires c.if-window-book.false c.ceil_div-j.ensures in
    (c.requires.0, ready_head k.ready, omega (arith, slots_needed k))

pub place-requires : goal.place-requires
place-requires c =
    let k = longer c.args.self c.args.ring.now c.requires c.if-window-book.false c.ceil_div-j.ensures in
    (ready_head k.ready, (slots_needed k).1, (ready_lent k.ready).slots_high)

pub get-last-requires : goal.get-last-requires
get-last-requires c =
    let head = ready_head (ready c.args.self c.requires.0) in
    (c.requires.0, rw c.place.ensures (newest_lt c.args.self.shape.slots c.args.self.book.head c.ceil_div-j.result head))

pub overflow_add-newer : goal.overflow_add-newer
overflow_add-newer c =
    let k = longer c.args.self c.args.ring.now c.requires c.if-window-book.false c.ceil_div-j.ensures in
    omega (arith, parts_top k c.sum_newest-newer.ensures c.place.ensures c.get-last.ensures)

pub overflow_mul-j : goal.overflow_mul-j
overflow_mul-j c =
    let k = longer c.args.self c.args.ring.now c.requires c.if-window-book.false c.ceil_div-j.ensures in
    omega (arith, slots_cover k)

pub overflow_sub-j-2 : goal.overflow_sub-j-2
overflow_sub-j-2 c = (slots_cover (longer c.args.self c.args.ring.now c.requires c.if-window-book.false c.ceil_div-j.ensures)).0

pub reckon-requires-2 : goal.reckon-requires-2
reckon-requires-2 c =
    let k = longer c.args.self c.args.ring.now c.requires c.if-window-book.false c.ceil_div-j.ensures in
    let parts = parts_top k c.sum_newest-newer.ensures c.place.ensures c.get-last.ensures in
    (omega arith, omega (arith, slots_cover k), omega arith)

pub returns : goal.returns
returns c =
    let k = longer c.args.self c.args.ring.now c.requires c.if-window-book.false c.ceil_div-j.ensures in
    c.reckon-2.ensures ∙ figure_slots k c.sum_newest-newer.ensures c.place.ensures c.get-last.ensures
