-- Demand 1 and uniqueness of the two calls: what a statement says is what its row says.
-- `Post` is the statement itself, as it stands at the function in src/lib.rt; of bytes that are only read, none can change.
-- Assumes nothing.
use Prim.Native.Nat.{ℕ}
use mathlib.Core.List.{List}
use native.Mathlib.Omega.{arith}
use mathlib.Core.Path.{◌≡◌, refl, sym, ap, ◌∙◌}
use Rattle.std.specs.Prelude.{Result}
use contract.Lifetimes.{Lfts}
use Rattle.refusals.specs.declared.Refusal.{Refusal}
use Rattle.refusals.specs.Demand1.{Promised, Settles}
use Rattle.refusals.proofs.Numbers.{number_once}
use Rattle.refusals.proofs.Calls.{promised, seen_promised, tells}
use Rattle.refusals.proofs.OneOutcome.{seen_apart, one_outcome}
use Rattle.book.specs.Record.{no_book_at_all}
use Rattle.book.proofs.Promises.{open_tells}
use Rattle.watch.specs.declared.State.{State}
use Rattle.watch.specs.declared.Line.{Line}
use Rattle.watch.specs.declared.Turn as code
use Rattle.watch.specs.declared.Turn.TheVariants as code_turns
use Rattle.watch.specs.declared.Stepped as code_steps
use Rattle.watch.specs.Answers.{Turn, Row, Refused, Ends, Wait, Started, Stepped}
use Rattle.watch.specs.Setting as setting
use Rattle.watch.specs.Told.{as_turn, as_started, as_stepped}
use Rattle.watch.specs.Calls.{opening, started_by, start_call, step_call}
use Rattle.watch.proofs.Starting.{start_gives, start_leaves}
use Rattle.watch.proofs.start.Reads as start_reads
use Rattle.watch.proofs.step.Reads as step_reads

-- starting, by the book's opening
pub start_promised : (κs : Lfts 1)
    → Promised (start_reads.Post κs) (λ a r. as_started r) (λ a e. e.0.now) (λ a. start_call a.0.now) (λ (r : Started). r.refusal)
unfolding start_call
start_promised κs =
    seen_promised _ _ _ started_by (λ a. opening a.0.now)
    (λ a r e p. (p.0 ∙ sym (start_gives a.0.now), p.1 ∙ sym (start_leaves a.0.now))) _
    (λ a. open_tells setting.bound setting.length setting.tolerance a.0.now)

-- In `a` stand the state, the ring, the image before, the bytes behind it, whether they are all, and the buffer, in `e` the same as the
-- step returns.
pub step_promised : (κs : Lfts 4)
    → Promised {Lent = List ℕ × List ℕ} (step_reads.Post κs) (λ a r. as_stepped r) (λ a e. (e.1.0.now, e.1.1.1.1.1.0.now))
    (λ a. step_call a.0 a.1.0.now a.1.1.0.now a.1.1.1.0.now a.1.1.1.1.0 a.1.1.1.1.1.0.now)
    (λ (r : Stepped). r.refusal)
unfolding step_call
step_promised κs = promised _ _ _ _ (λ a r e p. p.0) _ (λ a. tells tt refl (λ number. refl))

-- EACH FORM is that of one result: of the state before the first frame …
started_apart : (r r' : Result State Refusal) → as_started r ≡ as_started r' → r ≡ r'
started_apart =
    seen_apart _ (λ number. record { refusal = number; state = record { book = no_book_at_all; frames = 0 } }) (λ (s : Started). s.refusal)
    (λ state. refl) (λ number. refl) (λ x y e. ap (λ (s : Started). s.state) e)

-- … of a turn: what kind it is, and its line or the number of its refusal, where it has one …
abbrev kind_of : Turn → ℕ
kind_of (Row line) = 0
kind_of (Refused number) = 1
kind_of Ends = 2
kind_of Wait = 3

abbrev line_or : Line → Turn → Line
line_or other (Row line) = line
line_or other (Refused number) = other
line_or other Ends = other
line_or other Wait = other

abbrev number_or_0 : Turn → ℕ
number_or_0 (Row line) = 0
number_or_0 (Refused number) = number
number_or_0 Ends = 0
number_or_0 Wait = 0

turn_apart : (x y : code.Turn) → as_turn x ≡ as_turn y → x ≡ y
turn_apart (code_turns.Row line) (code_turns.Row other) e = ap code_turns.Row (ap (line_or line) e)
turn_apart (code_turns.Refused one) (code_turns.Refused other) e = ap code_turns.Refused (number_once one other (ap number_or_0 e))
turn_apart code_turns.Ends code_turns.Ends e = refl
turn_apart code_turns.Wait code_turns.Wait e = refl
turn_apart x y e = absurd (let kind = ap kind_of e in omega (arith, kind))

-- … and of a step
stepped_apart : (r r' : Result code_steps.Stepped Refusal) → as_stepped r ≡ as_stepped r' → r ≡ r'
stepped_apart =
    seen_apart _ (λ number. record { refusal = number; turn = Refused number; wrote = 0 }) (λ (s : Stepped). s.refusal) (λ stepped. refl) (λ number. refl)
    (λ x y e. (let turn = turn_apart x.turn y.turn (ap (λ (s : Stepped). s.turn) e) in
    λ i. record { turn = turn i; wrote = (e i).wrote }))

-- UNIQUENESS of the results themselves, and not of the numbers that they tell alone
pub start_settled : (κs : Lfts 1) → Settles (start_reads.Post κs) (λ a r. r) (λ a e. e.0.now)
start_settled κs = one_outcome _ _ _ (start_promised κs).settled (λ a r r' e e' p p'. started_apart r r')

pub step_settled : (κs : Lfts 4)
    → Settles {Lent = List ℕ × List ℕ} (step_reads.Post κs) (λ a r. r) (λ a e. (e.1.0.now, e.1.1.1.1.1.0.now))
step_settled κs = one_outcome _ _ _ (step_promised κs).settled (λ a r r' e e' p p'. stepped_apart r r')
