-- The shorter window as a total does it, and the longer one by the sum that is reckoned on.
use Rattle.std.proofs.Common.{◌≡◌, ℕ, ◌+◌, ◌-◌, ◌<◌, ◌≤◌, List, length, ◌∙◌, arith}
use Rattle.ring.proofs.Promises.{newest_lt}
use Rattle.book.specs.declared.known.Known.{Known}
use Rattle.book.specs.Derived.{ceil_div}
use Rattle.book.proofs.Ready.{ready}
use Rattle.book.proofs.StepsInRange.{ready_lent, ready_divides, ready_head}
use Rattle.book.proofs.FigureInTwoCases.{slots_needed, slots_cover, parts_top, figure_slots}
use Rattle.book.proofs.TwoWindows.{Both, shorter_one, longer_one, longer_cover, near_le_far, both_top, longer_figure}
use Rattle.book.proofs.known.Known.figures.Goals as goal

-- the windows are longer than the open block
both : (known : Known) (ring : List ℕ) {window more near far : ℕ} → (known.shape.bytes ≤ length ring) × (window + more ≤ known.book.kept)
    → known.book.phase < window → near ≡ ceil_div (window - known.book.phase) known.shape.block
    → far ≡ ceil_div (window - known.book.phase + more) known.shape.block → Both known.book known.shape ring window more near far
both known ring asked longer near_is far_is =
    record { ready = ready known asked.0; longer = longer; kept = asked.1; near_is = near_is; far_is = far_is }

pub ceil_div-near-requires : goal.ceil_div-near-requires
ceil_div-near-requires c = ready_divides (ready c.args.self c.requires.0) (omega (arith, c.requires.1))

pub ceil_div-far-requires : goal.ceil_div-far-requires
ceil_div-far-requires c = ready_divides (ready c.args.self c.requires.0) (omega (arith, c.requires.1, c.if-window-book.false))

pub place-place-requires : goal.place-place-requires
place-place-requires c =
    let k = both c.args.self c.args.ring.now c.requires c.if-window-book.false c.ceil_div-near.ensures c.ceil_div-far.ensures in
    (ready_head k.ready, (slots_needed (shorter_one k)).1, (ready_lent k.ready).slots_high)

pub get-last-requires : goal.get-last-requires
get-last-requires c =
    let head = ready_head (ready c.args.self c.requires.0) in
    (c.requires.0, rw c.place-place.ensures (newest_lt c.args.self.shape.slots c.args.self.book.head c.ceil_div-near.result head))

pub overflow_sub-near : goal.overflow_sub-near
overflow_sub-near c =
    let k = both c.args.self c.args.ring.now c.requires c.if-window-book.false c.ceil_div-near.ensures c.ceil_div-far.ensures in
    (slots_needed (shorter_one k)).0

pub sum_newest-requires : goal.sum_newest-requires
sum_newest-requires c =
    let k = both c.args.self c.args.ring.now c.requires c.if-window-book.false c.ceil_div-near.ensures c.ceil_div-far.ensures in
    (c.requires.0, ready_head k.ready, omega (arith, slots_needed (shorter_one k)))

pub overflow_add-sum : goal.overflow_add-sum
overflow_add-sum c =
    let k = both c.args.self c.args.ring.now c.requires c.if-window-book.false c.ceil_div-near.ensures c.ceil_div-far.ensures in
    omega (arith, parts_top (shorter_one k) c.sum_newest.ensures c.place-place.ensures c.get-last.ensures)

pub overflow_sub-far : goal.overflow_sub-far
overflow_sub-far c = near_le_far (both c.args.self c.args.ring.now c.requires c.if-window-book.false c.ceil_div-near.ensures c.ceil_div-far.ensures)

pub sum_newest-older-requires : goal.sum_newest-older-requires
sum_newest-older-requires c =
    let k = both c.args.self c.args.ring.now c.requires c.if-window-book.false c.ceil_div-near.ensures c.ceil_div-far.ensures in (
      c.requires.0,
      rw c.place-place.ensures (newest_lt c.args.self.shape.slots c.args.self.book.head c.ceil_div-near.result (ready_head k.ready)),
      omega (arith, slots_needed (longer_one k)),
    )

pub place-requires : goal.place-requires
place-requires c =
    let k = both c.args.self c.args.ring.now c.requires c.if-window-book.false c.ceil_div-near.ensures c.ceil_div-far.ensures in
    (ready_head k.ready, (slots_needed (longer_one k)).1, (ready_lent k.ready).slots_high)

pub get-oldest-requires : goal.get-oldest-requires
get-oldest-requires c =
    let head = ready_head (ready c.args.self c.requires.0) in
    (c.requires.0, rw c.place.ensures (newest_lt c.args.self.shape.slots c.args.self.book.head c.ceil_div-far.result head))

pub overflow_mul-near : goal.overflow_mul-near
overflow_mul-near c =
    let k = both c.args.self c.args.ring.now c.requires c.if-window-book.false c.ceil_div-near.ensures c.ceil_div-far.ensures in
    omega (arith, slots_cover (shorter_one k))

pub overflow_sub-near-2 : goal.overflow_sub-near-2
overflow_sub-near-2 c =
    let k = both c.args.self c.args.ring.now c.requires c.if-window-book.false c.ceil_div-near.ensures c.ceil_div-far.ensures in
    (slots_cover (shorter_one k)).0

pub reckon-requires : goal.reckon-requires
reckon-requires c =
    let k = both c.args.self c.args.ring.now c.requires c.if-window-book.false c.ceil_div-near.ensures c.ceil_div-far.ensures in
    let top = parts_top (shorter_one k) c.sum_newest.ensures c.place-place.ensures c.get-last.ensures in
    (omega arith, omega (arith, slots_cover (shorter_one k)), omega arith)

pub overflow_add-sum-2 : goal.overflow_add-sum-2
overflow_add-sum-2 c =
    let k = both c.args.self c.args.ring.now c.requires c.if-window-book.false c.ceil_div-near.ensures c.ceil_div-far.ensures in
    omega (
      arith,
      both_top k c.sum_newest.ensures c.place-place.ensures c.get-last.ensures c.sum_newest-older.ensures c.place.ensures c.get-oldest.ensures,
    )

pub overflow_mul-far : goal.overflow_mul-far
overflow_mul-far c =
    let k = both c.args.self c.args.ring.now c.requires c.if-window-book.false c.ceil_div-near.ensures c.ceil_div-far.ensures in
    omega (arith, longer_cover k)

pub overflow_sub-far-2 : goal.overflow_sub-far-2
overflow_sub-far-2 c =
    (longer_cover (both c.args.self c.args.ring.now c.requires c.if-window-book.false c.ceil_div-near.ensures c.ceil_div-far.ensures)).0

pub reckon-requires-2 : goal.reckon-requires-2
reckon-requires-2 c =
    let k = both c.args.self c.args.ring.now c.requires c.if-window-book.false c.ceil_div-near.ensures c.ceil_div-far.ensures in
    let top =
    both_top k c.sum_newest.ensures c.place-place.ensures c.get-last.ensures c.sum_newest-older.ensures c.place.ensures c.get-oldest.ensures in
    (omega arith, omega (arith, longer_cover k), omega arith)

pub returns : goal.returns
returns c =
    let k = both c.args.self c.args.ring.now c.requires c.if-window-book.false c.ceil_div-near.ensures c.ceil_div-far.ensures in
    λ i. record {
      shorter = (c.reckon.ensures
          ∙ figure_slots (shorter_one k) c.sum_newest.ensures c.place-place.ensures c.get-last.ensures) i;
      longer = (c.reckon-2.ensures
          ∙ longer_figure k c.sum_newest.ensures c.place-place.ensures c.get-last.ensures c.sum_newest-older.ensures c.place.ensures
          c.get-oldest.ensures) i;
    }
