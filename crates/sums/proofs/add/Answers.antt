-- `sums::add`: 18 where the row is too short; otherwise the book's own adding answers, and where it closed a block the sum is stored.
-- Assumes nothing.
use Rattle.std.proofs.Common.{◌≡◌, ℕ, List, length, ap, ap₂, sym, subst, ◌∙◌, arith}
use Rattle.std.proofs.lemmas.Result.{err_from_is_err_and}
use Rattle.refusals.specs.Call.{refusal_of, result_of}
use Rattle.refusals.proofs.Numbers.{number_not_0}
use Rattle.ring.specs.Slot.{field}
use Rattle.book.specs.declared.Book.{Book}
use Rattle.book.specs.declared.shape.Shape.{Shape}
use Rattle.book.specs.declared.told.Updated.{Updated}
use Rattle.book.specs.Sound.{Usable}
use Rattle.book.specs.Adding.{added}
use Rattle.book.specs.Calls.{add_call}
use Rattle.book.proofs.Promises.{add_number, add_known, add_gives}
use Rattle.sums.specs.Row.{stored}
use Rattle.sums.proofs.ShapeInUse.{use_slots}
use Rattle.sums.proofs.BesideTheBook.{answers, refuses}
use Rattle.sums.proofs.Taken.{add_beside}
use Rattle.sums.proofs.ItemWithRow.{closed_by_phase, open_by_phase, row_stored, row_stays, usable_after}
use Rattle.sums.proofs.InOrder.{add_refused}
use Rattle.sums.proofs.add.Goals as goal

-- where the book has taken the item
module _ (book : Book) (ring : List ℕ) (item : ℕ) {next : Book}
    (told : record { refusal = 0; book = next } ≡ result_of (add_call book ring item)) where
  taken : refusal_of (add_call book ring item) ≡ 0
  taken = sym (add_number book ring item) ∙ sym (ap (λ (u : Updated). u.refusal) told)

  usable : Usable book (length ring)
  usable = (add_known book ring item taken).0

  phase_is : next.phase ≡ (added book item).phase
  phase_is = ap (λ (u : Updated). u.book.phase) (told ∙ (add_gives book ring item taken).0)

pub returns-in_err-shape : goal.returns-in_err-shape
returns-in_err-shape c =
    let p = err_from_is_err_and c.from_residual.result c.from_residual.ensures.1 in
    rw (p.1, p.2) (add_refused c.args.book c.args.ring.now c.args.row.now c.args.item c.in_err-shape.ensures (number_not_0 _))

pub returns-in_err-added : goal.returns-in_err-added
returns-in_err-added c =
    let p = err_from_is_err_and c.from_residual-in_err-added.result c.from_residual-in_err-added.ensures.1 in
    let a = c.args in
    let told = c.in_err-added.ensures.0 in
    rw (p.1, p.2) (refuses (add_beside a.book a.ring.now a.row.now a.item) c.in_ok-shape.ensures.1
    (λ e. number_not_0 c.in_err-added.field-0.0 (ap (λ (u : Updated). u.refusal) told ∙ add_number a.book a.ring.now a.item ∙ e))
    told c.in_err-added.ensures.1)

pub invariant_of-store : goal.invariant_of-store
invariant_of-store c =
    let a = c.args in
    let known = add_known a.book a.ring.now a.item (taken a.book a.ring.now a.item c.in_ok-added.ensures.0) in
    record { sound = known.0.sound; derived = c.in_ok-shape.ensures.0 }

pub store-requires : goal.store-requires
store-requires c =
    let a = c.args in
    let told = c.in_ok-added.ensures.0 in
    let known = add_known a.book a.ring.now a.item (taken a.book a.ring.now a.item told) in
    let ring_is = c.in_ok-added.ensures.1 ∙ (add_gives a.book a.ring.now a.item (taken a.book a.ring.now a.item told)).1 in
    let slots = use_slots c.in_ok-shape.ensures.0 known.0.sound in (
      rw c.in_ok-shape.ensures.0
          (subst (λ (r : List ℕ). Usable a.book (length r)) (sym ring_is) (usable_after a.book a.item a.ring.now known.0 known.1)).room,
      slots.2,
      omega (arith, slots.0, c.in_ok-shape.ensures.1),
    )

pub returns-then-added-eq0 : goal.returns-then-added-eq0
returns-then-added-eq0 c =
    let a = c.args in
    let told = c.in_ok-added.ensures.0 in
    let none = taken a.book a.ring.now a.item told in
    let ring_is = c.in_ok-added.ensures.1 ∙ (add_gives a.book a.ring.now a.item none).1 in
    let closes = closed_by_phase a.book a.item (sym (phase_is a.book a.ring.now a.item told) ∙ c.if-added-eq0.true) in
    answers (add_beside a.book a.ring.now a.row.now a.item) c.in_ok-shape.ensures.1 none told c.in_ok-added.ensures.1
    (c.store.ensures
    ∙ ap₂ (λ (q : Shape) (r : List ℕ). stored q.slots (field q.width r) a.row.now a.book.head) c.in_ok-shape.ensures.0 ring_is
    ∙ row_stored a.book a.item a.ring.now a.row.now closes)

pub returns-else-added-eq0 : goal.returns-else-added-eq0
returns-else-added-eq0 c =
    let a = c.args in
    let told = c.in_ok-added.ensures.0 in
    let more = open_by_phase a.book a.item (λ e. c.if-added-eq0.false (phase_is a.book a.ring.now a.item told ∙ e)) in
    answers (add_beside a.book a.ring.now a.row.now a.item) c.in_ok-shape.ensures.1 (taken a.book a.ring.now a.item told) told c.in_ok-added.ensures.1
    (row_stays a.book a.item a.ring.now a.row.now more)
