-- A CALL WITH A ROW IS THE BOOK'S OWN with the row beside it (promise C-16.1), for any call of the book: where the row has room, refusal, result
-- and ring are the book's; where it has none, 18 is the refusal unless a fault up to 4 holds.
-- Assumes nothing.
use Prim.Native.Nat.{ℕ, ◌≤◌}
use mathlib.Core.Bool.{false}
use mathlib.Core.List.{List, ◌∷◌, ◌++◌}
use mathlib.Core.Path.{◌≡◌, refl, sym, ap, ◌∙◌}
use borrow.Author.Tests.{lt-ltb, le-ltb, ltb-false}
use lib.Dec.{T, ltb}
use lib.ListN.{length}
use Rattle.refusals.specs.First.{Fault, first_of}
use Rattle.refusals.specs.Call.{Call, refusal_of, result_of, left_of}
use Rattle.refusals.proofs.Laws.{first_append}
use Rattle.refusals.specs.Demand1.{Tells}
use Rattle.refusals.proofs.Calls.{same_result, same_left, none_refuses, none_is0, written_out, result_taken, result_refused, left_taken, left_refused}
use Rattle.sums.specs.Calls.{RingAndRow, row_fault, with_row}
use Rattle.sums.specs.Beside.{SameAs, BesideTheBook}
use Rattle.sums.proofs.RowFirst.{room_known}

-- ANY CALL of the book, the row's entries, and the row before and after
module _ {Result : Type 0} (own : Call Result (List ℕ)) (up_to4 later : List Fault) (decides : refusal_of own ≡ first_of (up_to4 ++ later))
    (entries : ℕ) (row after : List ℕ) where
  abbrev call : Call Result RingAndRow
  call = with_row own up_to4 (row_fault entries (length row)) later row after

  -- the same refusal comes with the same result and the same ring
  pub same_as : refusal_of call ≡ refusal_of own → SameAs own call
  same_as e =
      record { same_refusal = e; same_result = same_result call own e refl refl; same_ring = same_left (λ (l : RingAndRow). l.ring) call own e refl refl }

  in_room : entries ≤ length row → refusal_of call ≡ refusal_of own
  in_room room =
      let roomy : ltb (length row) entries ≡ false = le-ltb (length row) entries room in
      first_append up_to4 (row_fault entries (length row) ∷ later) ∙ rw roomy (sym (first_append up_to4 later)) ∙ sym decides

  pub beside_the_book : BesideTheBook own up_to4 entries row after call
  beside_the_book =
      record {
        with_room = λ room. same_as (in_room room);
        without_room = λ short. first_append up_to4 (row_fault entries (length row) ∷ later) ∙ rw (lt-ltb (length row) entries short);
        had_room = λ taken. ltb-false (length row) entries (room_known up_to4 later (ltb (length row) entries) taken);
        row_after = λ taken. ap (λ (l : RingAndRow). l.row) (sym (left_taken call (sym taken) refl));
        row_back = λ some. ap (λ (l : RingAndRow). l.row) (sym (left_refused call refl some));
        refused_result = λ some. sym (result_refused call refl some);
        refused_ring = λ some. ap (λ (l : RingAndRow). l.ring) (sym (left_refused call refl some));
      }

  -- it tells its number as the book's own does
  pub with_row_tells : (number_in : Result → ℕ) → number_in (result_of own) ≡ refusal_of own → ((number : ℕ) → number_in (own.back number) ≡ number)
      → T (none_is0 call.faults) → Tells number_in call
  with_row_tells number_in told back numbered =
      record {
        numbered = written_out call.faults numbered;
        given_0 = λ none. (let taken = none_refuses call.faults none in
            let e = sym (beside_the_book.with_room (beside_the_book.had_room taken)).same_refusal ∙ taken in
            ap number_in (result_taken own refl e) ∙ told ∙ e);
        back_own = back;
      }

-- AS THE CODE GIVES A REFUSAL BACK, found among the faults up to 18 or later: with what the book's own hands back, and ring and row as they were lent
module _ {Result : Type 0} {own : Call Result (List ℕ)} {earlier : List Fault} {entries : ℕ} {row after : List ℕ} {call : Call Result RingAndRow}
    (beside : BesideTheBook own earlier entries row after call) where
  pub handed_back : {number : ℕ} → number ≡ refusal_of call → (number ≡ 0 → ⊥)
      → (own.back number ≡ result_of call) × (own.lent ≡ (left_of call).ring) × (row ≡ (left_of call).row)
  handed_back {number} found some =
      let refused : refusal_of call ≡ 0 → ⊥ = λ e. some (found ∙ e) in
      (ap own.back found ∙ sym (beside.refused_result refused), sym (beside.refused_ring refused), sym (beside.row_back refused))

  -- and where the book's own call answers, the row has room for it
  module _ (room : entries ≤ length row) where
    abbrev same : SameAs own call
    same = beside.with_room room

    pub answers : {given : Result} {ring' row' : List ℕ} → refusal_of own ≡ 0 → given ≡ result_of own → ring' ≡ left_of own → row' ≡ after
        → (given ≡ result_of call) × (ring' ≡ (left_of call).ring) × (row' ≡ (left_of call).row)
    answers taken given_is ring_is row_is = (
      given_is ∙ sym same.same_result,
      ring_is ∙ sym same.same_ring,
      row_is ∙ sym (beside.row_after (same.same_refusal ∙ taken)),
    )

    pub refuses : {back : Result} {ring' : List ℕ} → (refusal_of own ≡ 0 → ⊥) → back ≡ result_of own → ring' ≡ left_of own
        → (back ≡ result_of call) × (ring' ≡ (left_of call).ring) × (row ≡ (left_of call).row)
    refuses some back_is ring_is = (
      back_is ∙ sym same.same_result,
      ring_is ∙ sym same.same_ring,
      sym (beside.row_back (λ e. some (sym same.same_refusal ∙ e))),
    )
