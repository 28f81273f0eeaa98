-- A book with its numbers at hand, and its ring lent whole: what the laws of its steps are told of it, and what the judge's answer says of both.
-- Assumes nothing.
use Rattle.std.proofs.Common.{◌≡◌, ℕ, ◌≤◌, Result, Ok, Err, sym, ap, ◌∙◌, subst, append-nil}
use Rattle.refusals.specs.declared.Refusal.{Refusal}
use Rattle.refusals.specs.First.{first_of}
use Rattle.refusals.specs.Refused.{number_of, number_in}
use Rattle.book.specs.declared.Book.{Book}
use Rattle.book.specs.declared.known.Known.{Known}
use Rattle.book.specs.Calls.{book_faults}
use Rattle.book.specs.Judged.{Judged}
pub use Rattle.book.specs.Ready.{Ready}

-- a book that was judged, whose ring has the bytes
pub ready : (known : Known) {lent : ℕ} → known.shape.bytes ≤ lent → Ready known.book known.shape lent
ready known {lent} room =
    record { usable = record { sound = known.sound; room = rw known.derived at room }; shape_is = known.derived }

-- what the judge says of a book and its ring: with a refusal it is 8 or 4 …
pub judged_number : (book : Book) (lent : ℕ) {judged : Result Known Refusal} → Judged book lent judged → (refusal : Refusal)
    → judged ≡ Err refusal → number_of refusal ≡ first_of (book_faults book lent)
judged_number book lent told refusal e =
    sym (ap number_in e) ∙ told.refusal_is ∙ ap first_of (append-nil (book_faults book lent))

-- … and without one the book has its numbers, and its ring is lent whole
pub judged_ready : (book : Book) (lent : ℕ) {judged : Result Known Refusal} → Judged book lent judged → (known : Known)
    → judged ≡ Ok known → Ready book known.shape lent
judged_ready book lent told known e =
    subst (λ (b : Book). Ready b known.shape lent) (told.same known e) (ready known (told.room known e))
