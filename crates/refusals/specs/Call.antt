-- A call as data over its own arguments: its faults in order, and what comes of it without one and with one.
-- That a refusal leaves what was lent as it came is in the shape itself: a row has no place to say otherwise.
use Rattle.std.specs.Prelude.{ℕ, zero, suc, List}
use Rattle.refusals.specs.First.{Fault, first_of, unless_refused}

pub record Call (Result Lent : Type 0) : Type 0 where
  -- the faults, in the order of SCOPE, Refusals
  pub faults : List Fault
  -- where none holds: the result, and what was lent as the call leaves it
  pub given : Result
  pub left : Lent
  -- where one does: the result by its number, and what was lent as it came
  pub back : ℕ → Result
  pub lent : Lent

-- the refusal: the number of the first fault that holds, 0 for none
abbrev pub refusal_of : {Result Lent : Type 0} → Call Result Lent → ℕ
refusal_of call = first_of call.faults

-- what a refusal number leads to: the one thing at 0, the other by any other number
abbrev pub by_refusal : {A : Type 0} → ℕ → A → (ℕ → A) → A
by_refusal zero given back = given
by_refusal (suc number) given back = back (suc number)

-- the result
unfoldable pub result_of : {Result Lent : Type 0} → Call Result Lent → Result
result_of call = by_refusal (refusal_of call) call.given call.back

-- what was lent, as the call leaves it
unfoldable pub left_of : {Result Lent : Type 0} → Call Result Lent → Lent
left_of call = unless_refused (refusal_of call) call.left call.lent

-- the same call with its result seen in another form
abbrev pub seen_as : {Result Seen Lent : Type 0} → (Result → Seen) → Call Result Lent → Call Seen Lent
seen_as form call =
    record {
      faults = call.faults;
      given = form call.given;
      left = call.left;
      back = λ number. form (call.back number);
      lent = call.lent;
    }
