-- A refusal leaves the ring, and without one the ring is cleared.
use Rattle.std.proofs.Common.{◌≡◌, ℕ, List, [], ◌∷◌, length, Result, Ok, Err, sym, refl, ap, ◌∙◌, arith, rules, le-ltb, lt-ltb}
use Rattle.refusals.specs.declared.Refusal.{Refusal}
use Rattle.refusals.specs.declared.Refusal.TheVariants.{RingTooShort}
use Rattle.refusals.specs.Refused.{number_of}
use Rattle.refusals.specs.First.{Fault, first_of}
use Rattle.refusals.specs.Call.{result_of, refusal_of}
use Rattle.refusals.proofs.Laws.{first_stops, first_goes_on}
use Rattle.refusals.proofs.Numbers.{number_not_0}
use Rattle.refusals.proofs.Calls.{result_taken, result_refused, left_taken, left_refused}
use Rattle.ring.specs.Slot.{cleared}
use Rattle.book.specs.declared.shape.Shape.{Shape}
use Rattle.book.specs.Derived.{bytes_needed}
use Rattle.book.specs.Record.{no_book_at_all}
use Rattle.book.specs.Shape.{number_faults, shape_of, shape_call}
use Rattle.book.specs.Sound.{Ranges}
use Rattle.book.specs.Calls.{room_fault, open_call}
use Rattle.book.specs.Told.{as_shaped, as_updated}
use Rattle.book.proofs.WhenTaken.{shape_refusal, shape_known}
use Rattle.book.proofs.StepsInRange.{book_lent}
use Rattle.book.proofs.open.Goals as goal

-- once L, n and D are judged
module _ (bound n tolerance : ℕ) (ring : List ℕ) where
  abbrev room : List Fault
  room = room_fault (bytes_needed bound n tolerance) (length ring) ∷ []

module _ (bound n tolerance : ℕ) (ring : List ℕ) {found : Result Shape Refusal} (told : as_shaped found ≡ result_of (shape_call bound n tolerance)) where
  refused : (refusal : Refusal) → found ≡ Err refusal → number_of refusal ≡ refusal_of (open_call bound n tolerance ring)
  unfolding open_call
  refused refusal e =
      first_stops (number_faults bound n tolerance) (room bound n tolerance ring) (number_of refusal)
      (sym (ap (λ f. (as_shaped f).refusal) e) ∙ shape_refusal bound n tolerance told) (number_not_0 refusal)

  module _ {shape : Shape} (passed : found ≡ Ok shape) where
    known : Ranges bound n tolerance × (shape ≡ shape_of bound n tolerance)
    known =
        let k = shape_known bound n tolerance told (ap (λ f. (as_shaped f).refusal) passed) in
        (k.0, sym (ap (λ f. (as_shaped f).shape) passed) ∙ k.1)

    bytes_is : shape.bytes ≡ bytes_needed bound n tolerance
    bytes_is = ap (λ (s : Shape). s.bytes) known.1

    decided : {m : ℕ} → m ≡ first_of (room bound n tolerance ring) → m ≡ refusal_of (open_call bound n tolerance ring)
    unfolding open_call
    decided e =
        e ∙ sym (first_goes_on (number_faults bound n tolerance) (room bound n tolerance ring)
        (sym (shape_refusal bound n tolerance told) ∙ ap (λ f. (as_shaped f).refusal) passed))

pub returns-in_err-shape : goal.returns-in_err-shape
unfolding open_call
returns-in_err-shape c =
    let a = c.args in
    let refusal = c.in_err-shape.field-0.0 in
    let back : c.from_residual.result ≡ Err refusal = search rules in
    let call = open_call a.bound a.length a.tolerance a.ring.now in
    let first = refused a.bound a.length a.tolerance a.ring.now c.derive.ensures refusal c.in_err-shape.was in (
      ap (as_updated no_book_at_all) back ∙ result_refused call first (number_not_0 refusal),
      left_refused call first (number_not_0 refusal),
    )

pub returns-then-ring-shape : goal.returns-then-ring-shape
unfolding open_call
returns-then-ring-shape c =
    let a = c.args in
    let call = open_call a.bound a.length a.tolerance a.ring.now in
    let bytes = bytes_is a.bound a.length a.tolerance a.ring.now c.derive.ensures c.in_ok-shape.was in
    let short = lt-ltb (length a.ring.now) (bytes_needed a.bound a.length a.tolerance) (omega (arith, bytes)) in
    let found : number_of RingTooShort ≡ refusal_of call = decided a.bound a.length a.tolerance a.ring.now c.derive.ensures c.in_ok-shape.was (rw short) in
    (result_refused call found (number_not_0 RingTooShort), left_refused call found (number_not_0 RingTooShort))

pub clear-requires : goal.clear-requires
clear-requires c =
    let a = c.args in
    let k = known a.bound a.length a.tolerance a.ring.now c.derive.ensures c.in_ok-shape.was in
    let bytes = bytes_is a.bound a.length a.tolerance a.ring.now c.derive.ensures c.in_ok-shape.was in
    rw k.1 (book_lent a.bound a.length a.tolerance (length a.ring.now) k.0 (omega (arith, bytes)))

pub returns : goal.returns
unfolding open_call
returns c =
    let a = c.args in
    let call = open_call a.bound a.length a.tolerance a.ring.now in
    let k = known a.bound a.length a.tolerance a.ring.now c.derive.ensures c.in_ok-shape.was in
    let bytes = bytes_is a.bound a.length a.tolerance a.ring.now c.derive.ensures c.in_ok-shape.was in
    let fits = le-ltb (length a.ring.now) (bytes_needed a.bound a.length a.tolerance) (omega (arith, bytes)) in
    let zeros : c.default.result ≡ no_book_at_all = search rules in
    let found : 0 ≡ refusal_of call = decided a.bound a.length a.tolerance a.ring.now c.derive.ensures c.in_ok-shape.was (rw fits) in (
      rw zeros (result_taken call found refl),
      c.clear.ensures ∙ ap (λ (s : Shape). cleared s.width s.slots a.ring.now) k.1 ∙ left_taken call found refl,
    )
