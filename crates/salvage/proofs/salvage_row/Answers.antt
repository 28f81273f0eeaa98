-- `salvage::salvage_row`: refused, it hands all back; taken, the ring is put right and the row is rebuilt from it.
-- Assumes nothing.
use Rattle.std.proofs.Common.{[], length, refl, sym, ap, ◌∙◌, arith}
use Rattle.std.proofs.lemmas.Result.{err_from_is_err_and}
use Rattle.refusals.proofs.Numbers.{number_not_0}
use Rattle.sums.specs.Row.{entries_of}
use Rattle.sums.proofs.Promises.{row_next, entries_are, row_has_room}
use Rattle.salvage.specs.declared.Mended.{Mended}
use Rattle.salvage.proofs.AtHand.{known_entries}
use Rattle.salvage.proofs.WhenTaken.{salvage_faults, salvage_refusal, salvage_row_refusal}
use Rattle.salvage.proofs.TheCalls.{asked_before_row, handed_back_row, numbers_are, judged_taken, as_called_with_row}
use Rattle.salvage.proofs.salvage_row.Goals as goal

pub returns-in_err-known : goal.returns-in_err-known
returns-in_err-known c =
    let p = err_from_is_err_and c.from_residual.result c.from_residual.ensures.1 in
    let a = c.args in
    rw (p.1, p.2)
    (handed_back_row a.book a.ring.now a.numbers.now a.row.now
    (asked_before_row a.book a.ring.now a.numbers.now a.row.now (c.in_err-known.ensures ∙ sym (salvage_refusal a.book a.ring.now a.numbers.now)) (number_not_0 _))
    (number_not_0 _) refl)

pub returns-in_err-room_for_row : goal.returns-in_err-room_for_row
returns-in_err-room_for_row c =
    let p = err_from_is_err_and c.from_residual-in_err-room_for_row.result c.from_residual-in_err-room_for_row.ensures.1 in
    let a = c.args in
    let ready = c.in_ok-known.ensures in
    let passed =
    sym (salvage_refusal a.book a.ring.now a.numbers.now) ∙ judged_taken c.in_ok-known.known ready.0 a.ring.now a.numbers.now ready.1 ready.2 in
    let found =
    row_next (salvage_faults a.book (length a.ring.now) (length a.numbers.now)) [] (entries_of a.book) (length a.row.now) passed
    (c.in_err-room_for_row.ensures ∙ entries_are a.book (length a.row.now) (numbers_are c.in_ok-known.known ready.0)) (number_not_0 _) in
    rw (p.1, p.2)
    (handed_back_row a.book a.ring.now a.numbers.now a.row.now (found ∙ sym (salvage_row_refusal a.book a.ring.now a.numbers.now a.row.now))
    (number_not_0 _) refl)

pub rebuild-requires : goal.rebuild-requires
rebuild-requires c =
    let known = c.in_ok-known.known in
    let room = row_has_room known.book (length c.args.row.now) known.derived c.in_ok-room_for_row.ensures in
    (omega (arith, c.mend-mended.auto.ring, c.in_ok-known.ensures.1), omega (arith, known_entries known, room))

pub returns : goal.returns
returns c =
    let a = c.args in
    let ready = c.in_ok-known.ensures in
    let mended = rw ready.0 at c.mend-mended.ensures in
    let numbers = numbers_are c.in_ok-known.known ready.0 in
    as_called_with_row a.book a.ring.now a.numbers.now (judged_taken c.in_ok-known.known ready.0 a.ring.now a.numbers.now ready.1 ready.2)
    {done = record { refusal = 0; count = c.mend-mended.result.count; book = c.mend-mended.result.book }}
    (ap (λ (m : Mended). record { refusal = 0; count = m.count; book = m.book }) mended.0) mended.1 mended.2
    a.row.now (row_has_room a.book (length a.row.now) numbers c.in_ok-room_for_row.ensures) (rw ready.0 at c.rebuild.ensures)
