-- A call with a book, as the code judges it: the book and its ring first, and what is judged with them, then the call's own faults.
-- Assumes nothing.
use Rattle.std.proofs.Common.{◌≡◌, ℕ, ◌≤◌, List, ◌++◌, length, Result, Ok, Err, sym, refl, ap, ◌∙◌}
use Rattle.refusals.specs.declared.Refusal.{Refusal}
use Rattle.refusals.specs.First.{Fault, first_of}
use Rattle.refusals.specs.Refused.{number_of, number_in}
use Rattle.refusals.specs.Call.{Call, refusal_of, result_of, left_of}
use Rattle.refusals.proofs.Laws.{first_stops, first_goes_on}
use Rattle.refusals.proofs.Numbers.{number_not_0}
use Rattle.refusals.proofs.Calls.{result_taken, left_taken, result_refused, left_refused}
use Rattle.book.specs.declared.Book.{Book}
use Rattle.book.specs.declared.known.Known.{Known}
use Rattle.book.specs.Calls.{book_faults}
use Rattle.book.specs.Judged.{JudgedWith}

-- where a refusal was found, that is all that was judged
pub judged_refused : (book : Book) (lent : ℕ) (behind : List Fault) (refusal : Refusal)
    → number_of refusal ≡ first_of (book_faults book lent ++ behind) → {judged : Result Known Refusal} → judged ≡ Err refusal
    → JudgedWith book lent behind judged
judged_refused book lent behind refusal found {judged} e =
    record {
      refusal_is = ap number_in e ∙ found;
      same = λ known taken. absurd (clash known taken);
      room = λ known taken. absurd (clash known taken);
    }
  where
    clash : (known : Known) → judged ≡ Ok known → ⊥
    clash known taken = let both : Err refusal ≡ Ok known = sym e ∙ taken in cc

-- the call comes back with this refusal
abbrev pub Refuses : {Told : Type 0} → Call Told (List ℕ) → Refusal → Type 0
Refuses call refusal = (call.back (number_of refusal) ≡ result_of call) × (call.lent ≡ left_of call)

-- what the judging settles of a call whose own faults come after those that were judged
pub record JudgedFirst {Told : Type 0} (book : Book) (ring : List ℕ) (judged : Result Known Refusal) (own : List Fault)
    (call : Call Told (List ℕ)) : Type 0 where
  -- the refusal that was found is the call's
  pub refused : (refusal : Refusal) → judged ≡ Err refusal → Refuses call refusal
  -- without one the book is there with its ring, and the call's own faults decide
  pub same : (known : Known) → judged ≡ Ok known → known.book ≡ book
  pub room : (known : Known) → judged ≡ Ok known → known.shape.bytes ≤ length ring
  pub own_refused : (known : Known) → judged ≡ Ok known → (refusal : Refusal) → number_of refusal ≡ first_of own → Refuses call refusal
  pub taken : (known : Known) → judged ≡ Ok known → 0 ≡ first_of own → (call.given ≡ result_of call) × (call.left ≡ left_of call)

pub judged_first : {Told : Type 0} (book : Book) (ring : List ℕ) (behind own : List Fault) (call : Call Told (List ℕ))
    → call.faults ≡ book_faults book (length ring) ++ behind ++ own
    → {judged : Result Known Refusal} → JudgedWith book (length ring) behind judged → JudgedFirst book ring judged own call
judged_first book ring behind own call faults_are {judged} told =
    record {
      refused = λ refusal e. (
        result_refused call (first refusal e) (number_not_0 refusal),
        left_refused call (first refusal e) (number_not_0 refusal),
      );
      same = told.same;
      room = told.room;
      own_refused = λ known e refusal found. (
        result_refused call (next known e found) (number_not_0 refusal),
        left_refused call (next known e found) (number_not_0 refusal),
      );
      taken = λ known e none. (result_taken call (next known e none) refl, left_taken call (next known e none) refl);
    }
  where
    asked : List Fault
    asked = book_faults book (length ring) ++ behind

    first : (refusal : Refusal) → judged ≡ Err refusal → number_of refusal ≡ refusal_of call
    first refusal e =
        first_stops asked own (number_of refusal) (sym (ap number_in e) ∙ told.refusal_is) (number_not_0 refusal) ∙ sym (ap first_of faults_are)

    next : (known : Known) → judged ≡ Ok known → {n : ℕ} → n ≡ first_of own → n ≡ refusal_of call
    next known e found =
        found ∙ sym (ap first_of faults_are ∙ first_goes_on asked own (sym told.refusal_is ∙ ap number_in e))
