-- The walk stops behind all that is kept, or in the block whose end reaches the amount, and the division finds the place in it.
use Rattle.std.proofs.Common.{◌≡◌, ℕ, zero, suc, ◌-◌, ◌<◌, ◌≤◌, List, length, Some, refl, ap, ◌∙◌, arith}
use Rattle.book.specs.declared.known.Known.{Known}
use Rattle.book.specs.declared.distance.Stop.{Stop}
use Rattle.book.specs.Record.{held_in}
use Rattle.book.specs.Stops.{Stopped}
use Rattle.book.specs.OrNone.{unless_0}
use Rattle.book.proofs.Ready.{ready}
use Rattle.book.proofs.WalkNamesTheWindow.{Ended, step_top, window_top, not_reached_lem, step_some, window_some, window_kept, window_gone}
use Rattle.book.proofs.known.Known.how_far.Goals as goal

-- where the walk stopped
ended : (known : Known) (ring : List ℕ) (v : ℕ) {stop : Stop} {end : ℕ} → (known.shape.bytes ≤ length ring) × (0 < v)
    → Stopped known.book (held_in known.book ring) v stop → end ≡ stop.total - (known.book.tolerance - 1)
    → Ended known.book known.shape ring v stop end
ended known ring v asked stopped end_is = record { ready = ready known asked.0; asked = asked.1; stopped = stopped; end_is = end_is }

some : (n : ℕ) → 1 ≤ n → Some n ≡ unless_0 n
some zero h = absurd (omega arith)
some (suc n) h = refl

pub returns-then-end-amount : goal.returns-then-end-amount
returns-then-end-amount c =
    let k = ended c.args.self c.args.ring.now c.args.amount c.requires c.walk-stop.ensures c.end_figure-end.ensures in
    ap unless_0 (not_reached_lem k c.if-end-amount.true)

pub overflow_mul-fit : goal.overflow_mul-fit
overflow_mul-fit c =
    let k = ended c.args.self c.args.ring.now c.args.amount c.requires c.walk-stop.ensures c.end_figure-end.ensures in
    omega (arith, step_top k)

pub nonzero_div-fit : goal.nonzero_div-fit
nonzero_div-fit c =
    let k = ended c.args.self c.args.ring.now c.args.amount c.requires c.walk-stop.ensures c.end_figure-end.ensures in
    step_some k c.if-end-amount.false

pub overflow_mul-window : goal.overflow_mul-window
overflow_mul-window c =
    let k = ended c.args.self c.args.ring.now c.args.amount c.requires c.walk-stop.ensures c.end_figure-end.ensures in
    omega (arith, window_top k)

pub overflow_add-window : goal.overflow_add-window
overflow_add-window c =
    let k = ended c.args.self c.args.ring.now c.args.amount c.requires c.walk-stop.ensures c.end_figure-end.ensures in
    omega (arith, window_top k)

pub returns-then-self-window : goal.returns-then-self-window
returns-then-self-window c =
    let k = ended c.args.self c.args.ring.now c.args.amount c.requires c.walk-stop.ensures c.end_figure-end.ensures in
    ap unless_0 (window_gone k c.if-end-amount.false c.most_places.ensures c.min-places.ensures c.if-self-window.true)

pub returns : goal.returns
returns c =
    let k = ended c.args.self c.args.ring.now c.args.amount c.requires c.walk-stop.ensures c.end_figure-end.ensures in
    some _ (window_some k c.if-end-amount.false c.most_places.ensures c.min-places.ensures)
    ∙ ap unless_0 (window_kept k c.if-end-amount.false c.most_places.ensures c.min-places.ensures c.if-self-window.false)
