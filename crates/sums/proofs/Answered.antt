-- What a call below has returned where it is taken: the `Ok` that its row gives.
-- Assumes nothing.
use Rattle.std.proofs.Common.{◌≡◌, ℕ, Result, Ok, Err, ap, arith, refl, List, length, ◌<◌, ◌∙◌}
use Rattle.refusals.specs.declared.Refusal.{Refusal}
use Rattle.refusals.specs.Refused.{number_in}
use Rattle.refusals.proofs.Numbers.{number_not_0}
use Rattle.ring.specs.declared.Answer.{Answer}
use Rattle.refusals.specs.Call.{result_of}
use Rattle.ring.specs.Slot.{field}
use Rattle.ring.specs.Lent.{Lent}
use Rattle.ring.specs.Newest.{newest}
use Rattle.ring.specs.Told.{as_answer}
use Rattle.ring.specs.Calls.{read_call}
use Rattle.ring.proofs.Promises.{newest_lt, read_reads}
use Rattle.book.specs.declared.Book.{Book}
use Rattle.book.specs.declared.RunRefusal.{RunRefusal}
use Rattle.book.specs.declared.RunRefusal.TheVariants.{Refused, CountTooLarge}
use Rattle.book.specs.declared.told.Updated.{Updated}
use Rattle.book.specs.declared.told.Ran.{Ran}
use Rattle.book.specs.Told.{as_updated, as_ran}

-- two such values are one
pub same_ok : {T E : Type 0} {one other : T} → ◌≡◌ {A = Result T E} (Ok one) (Ok other) → one ≡ other
same_ok e = cc

-- of the ring
pub ring_ok : (answer : Result ℕ Refusal) {value : ℕ} → as_answer answer ≡ record { refusal = 0; value = value } → answer ≡ Ok value
ring_ok (Ok given) e = ap (λ (a : Answer). Ok a.value) e
ring_ok (Err refusal) e = absurd (number_not_0 refusal (ap (λ (a : Answer). a.refusal) e))

-- where the oldest of the j newest slots is read, that is what it holds
pub oldest_read : (width slots head j : ℕ) (ring : List ℕ) (answer : Result ℕ Refusal) {place : ℕ} → Lent width slots (length ring) → head < slots
    → place ≡ newest slots head j → as_answer answer ≡ result_of (read_call width slots ring place)
    → answer ≡ Ok (field width ring (newest slots head j))
oldest_read width slots head j ring answer {place} whole in_ring place_is told =
    ring_ok answer (told ∙ read_reads width slots ring whole place (omega (arith, place_is, newest_lt slots head j in_ring)))
    ∙ ap (λ (slot : ℕ). Ok (field width ring slot)) place_is

-- of a call of the ring that only writes
pub done_ok : (answer : Result (Unit {0}) Refusal) → number_in answer ≡ 0 → answer ≡ Ok tt
done_ok (Ok done) e = refl
done_ok (Err refusal) e = absurd (number_not_0 refusal e)

-- of a call that gives a record
pub updated_ok : (before : Book) (answer : Result Book Refusal) {book : Book} → as_updated before answer ≡ record { refusal = 0; book = book }
    → answer ≡ Ok book
updated_ok before (Ok given) e = ap (λ (u : Updated). Ok u.book) e
updated_ok before (Err refusal) e = absurd (number_not_0 refusal (ap (λ (u : Updated). u.refusal) e))

-- of a run
pub run_ok : (book : Book) (answer : Result Book RunRefusal) {last : Book} → as_ran book answer ≡ record { refusal = 0; place = 0; book = last }
    → answer ≡ Ok last
run_ok book (Ok given) e = ap (λ (r : Ran). Ok r.book) e
run_ok book (Err (Refused refusal)) e = absurd (number_not_0 refusal (ap (λ (r : Ran). r.refusal) e))
run_ok book (Err (CountTooLarge place)) e = absurd (let seven : 7 ≡ 0 = ap (λ (r : Ran). r.refusal) e in omega arith)
