-- `salvage::walk::cap`: the ring is lent whole and has the slot, so that its calls read it and write it.
-- Assumes nothing.
use Rattle.std.proofs.Common.{◌≡◌, ℕ, ◌^◌, ◌<◌, List, length, Result, Ok, ltb, refl, sym, ap, ◌∙◌, arith, le-ltb, lt-ltb}
use Rattle.refusals.specs.declared.Refusal.{Refusal}
use Rattle.refusals.specs.Call.{result_of}
use Rattle.refusals.specs.Refused.{number_in}
use Rattle.refusals.proofs.Calls.{result_taken}
use Rattle.ring.specs.Slot.{field, written}
use Rattle.ring.specs.Lent.{Lent}
use Rattle.ring.specs.Told.{as_answer}
use Rattle.ring.specs.Calls.{read_call, write_call}
use Rattle.ring.proofs.Promises.{read_reads, write_taken, write_writes}
use Rattle.book.specs.declared.shape.Shape.{Shape}
use Rattle.book.specs.declared.known.Known.{Known}
use Rattle.sums.proofs.Promises.{ring_ok, done_ok, same_ok}
use Rattle.salvage.specs.Altered.{too_large}
use Rattle.salvage.proofs.AtHand.{known_lent, known_fits}
use Rattle.salvage.proofs.walk.cap.Goals as goal

module _ (width slots : ℕ) (ring : List ℕ) (slot : ℕ) (whole : Lent width slots (length ring)) (below : slot < slots) where
  -- what is read is the slot's field
  read_is : (answer : Result ℕ Refusal) → as_answer answer ≡ result_of (read_call width slots ring slot) → answer ≡ Ok (field width ring slot)
  read_is answer told = ring_ok answer (told ∙ read_reads width slots ring whole slot below)

  -- and a value that fits is written
  written_is : (value : ℕ) → value < 2 ^ width → (answer : Result (Unit {0}) Refusal)
      → number_in answer ≡ result_of (write_call width slots ring slot value) → answer ≡ Ok tt
  unfolding write_call
  written_is value fits answer told =
      done_ok answer
      (told ∙ sym (result_taken (write_call width slots ring slot value) (sym (write_taken width slots ring whole slot below value fits)) refl))

-- a field above z, as the book's own numbers have it
above_is : (known : Known) (ring : List ℕ) (slot : ℕ) → too_large known.book ring slot ≡ ltb known.shape.largest (field known.shape.width ring slot)
above_is known ring slot = ap (λ (s : Shape). ltb s.largest (field s.width ring slot)) (sym known.derived)

pub unwrap-requires : goal.unwrap-requires
unwrap-requires c =
    let is = read_is c.args.known.shape.width c.args.known.shape.slots c.args.ring.now c.args.slot (known_lent c.args.known c.requires.0) c.requires.1 c.read.result c.read.ensures in
    rw is

pub returns-then-unwrap-shape : goal.returns-then-unwrap-shape
returns-then-unwrap-shape c =
    let is = read_is c.args.known.shape.width c.args.known.shape.slots c.args.ring.now c.args.slot (known_lent c.args.known c.requires.0) c.requires.1 c.read.result c.read.ensures in
    let small = le-ltb c.args.known.shape.largest (field c.args.known.shape.width c.args.ring.now c.args.slot)
    (omega (arith, same_ok (sym c.unwrap.ensures ∙ is), c.if-unwrap-shape.true)) in
    rw (above_is c.args.known c.args.ring.now c.args.slot, small) (refl, refl)

pub unwrap-requires-2 : goal.unwrap-requires-2
unwrap-requires-2 c =
    let is = written_is c.args.known.shape.width c.args.known.shape.slots c.args.ring.now c.args.slot (known_lent c.args.known c.requires.0) c.requires.1 c.args.known.shape.largest (known_fits c.args.known)
    c.write.result c.write.ensures.0 in
    rw is

pub returns : goal.returns
returns c =
    let is = read_is c.args.known.shape.width c.args.known.shape.slots c.args.ring.now c.args.slot (known_lent c.args.known c.requires.0) c.requires.1 c.read.result c.read.ensures in
    let large = lt-ltb c.args.known.shape.largest (field c.args.known.shape.width c.args.ring.now c.args.slot)
    (omega (arith, same_ok (sym c.unwrap.ensures ∙ is), c.if-unwrap-shape.false)) in
    rw (above_is c.args.known c.args.ring.now c.args.slot, large) (
      refl,
      c.write.ensures.1
          ∙ write_writes c.args.known.shape.width c.args.known.shape.slots c.args.ring.now (known_lent c.args.known c.requires.0) c.args.slot c.requires.1 c.args.known.shape.largest (known_fits c.args.known)
          ∙ ap (λ (s : Shape). written s.width c.args.ring.now c.args.slot s.largest) c.args.known.derived,
    )
