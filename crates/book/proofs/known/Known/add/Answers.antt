-- The block stays open, or it closes and its quotient goes into the ring.
use Rattle.std.proofs.Common.{◌≤◌, ℕ, List, length, refl, ap, ◌∙◌}
use Rattle.book.specs.declared.adding.Closed.{Closed}
use Rattle.book.specs.declared.known.Known.{Known}
use Rattle.book.specs.Record.{record_with}
use Rattle.book.proofs.Ready.{ready}
use Rattle.book.proofs.StepsInRange.{ready_head}
use Rattle.book.proofs.AddingInTwoCases.{Takes, stays_open, quotient_fits, block_closes, ring_takes}
use Rattle.book.proofs.known.Known.add.Goals as goal

takes : (known : Known) (ring : List ℕ) {item : ℕ} → (known.shape.bytes ≤ length ring) × (item ≤ known.book.bound)
    → Takes known.book known.shape ring item
takes known ring asked = record { ready = ready known asked.0; small = asked.1 }

pub returns-then-phase-self : goal.returns-then-phase-self
returns-then-phase-self c = stays_open (takes c.args.self c.args.ring.now c.requires) c.if-phase-self.true c.min-kept.ensures

pub close-closed-requires : goal.close-closed-requires
close-closed-requires c =
    let k = takes c.args.self c.args.ring.now c.requires in
    (c.requires.0, ready_head k.ready, quotient_fits k c.if-phase-self.false)

pub returns : goal.returns
returns c =
    let k = takes c.args.self c.args.ring.now c.requires in
    let full = c.if-phase-self.false in (
      ap (λ (r : Closed). record_with c.args.self.book r.carry 0 c.min-kept.result r.head) c.close-closed.ensures.0
          ∙ block_closes k full c.min-kept.ensures refl,
      c.close-closed.ensures.1 ∙ ring_takes k full,
    )
