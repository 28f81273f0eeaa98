-- `salvage::walk::clear_tail`: the last byte's digits are moved out by the bits after the last slot, and back.
-- Assumes nothing.
use Rattle.std.proofs.Common.{ℕ, ◌+◌, ◌*◌, ◌≤◌, List, length, arith, rules}
use Rattle.book.specs.declared.shape.Shape.{Shape}
use Rattle.book.specs.declared.known.Known.{Known}
use Rattle.salvage.proofs.AtHand.{known_usable}
use Rattle.salvage.proofs.Behind.{last_slot_ends, slots_bits, tail_by_shifts}
use Rattle.salvage.proofs.walk.clear_tail.Goals as goal

-- how large the numbers are: the slots' bits, the bytes that they take, and the bytes lent
pub record Sizes (shape : Shape) (lent : ℕ) : Type 0 where
  pub some : 1 ≤ shape.slots * shape.width
  pub few : shape.slots * shape.width ≤ 65536
  pub within : shape.slots * shape.width ≤ shape.bytes * 8
  pub tight : shape.bytes * 8 ≤ shape.slots * shape.width + 7
  pub room : shape.bytes ≤ lent

sizes : (known : Known) (ring : List ℕ) → known.shape.bytes ≤ length ring → Sizes known.shape (length ring)
sizes known ring room =
    let usable = known_usable known room in
    let bits = slots_bits known.book ring usable in
    let bytes = last_slot_ends known.book in
    rw known.derived (record { some = bits.0; few = bits.1; within = bytes.0; tight = bytes.1; room = usable.room })

pub overflow_mul-over : goal.overflow_mul-over
overflow_mul-over c = let s = sizes c.args.known c.args.ring.now c.requires in omega (arith, s)

pub overflow_mul-over-2 : goal.overflow_mul-over-2
overflow_mul-over-2 c = let s = sizes c.args.known c.args.ring.now c.requires in omega (arith, s)

pub overflow_sub-over : goal.overflow_sub-over
overflow_sub-over c = (sizes c.args.known c.args.ring.now c.requires).within

pub overflow_sub-last : goal.overflow_sub-last
overflow_sub-last c = let s = sizes c.args.known c.args.ring.now c.requires in omega arith

pub bounds-ring-last : goal.bounds-ring-last
bounds-ring-last c = let s = sizes c.args.known c.args.ring.now c.requires in omega arith

pub overflow_cast-ring : goal.overflow_cast-ring
overflow_cast-ring c = let s = sizes c.args.known c.args.ring.now c.requires in omega arith

pub overflow_shr-ring : goal.overflow_shr-ring
overflow_shr-ring c = let s = sizes c.args.known c.args.ring.now c.requires in omega arith

pub overflow_cast-ring-2 : goal.overflow_cast-ring-2
overflow_cast-ring-2 c = let s = sizes c.args.known c.args.ring.now c.requires in omega arith

pub overflow_shl-ring : goal.overflow_shl-ring
overflow_shl-ring c = let s = sizes c.args.known c.args.ring.now c.requires in omega arith

pub bounds-ring-last-2 : goal.bounds-ring-last-2
bounds-ring-last-2 c = let s = sizes c.args.known c.args.ring.now c.requires in omega arith

pub returns : goal.returns
returns c =
    let known = c.args.known in
    rw known.derived (tail_by_shifts known.book c.args.ring.now (known_usable known c.requires) (search rules))
