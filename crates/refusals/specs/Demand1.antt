-- Demand 1 (SCOPE, Demands), once for every call of every crate: a result or a numbered refusal, the number exactly that of the first
-- fault that holds, and a refusal changes nothing. And when a function's statement says what its row says.
use Rattle.std.specs.Prelude.{ℕ, ◌<◌, true, false, List, [], ◌∷◌, ◌++◌, ◌⊎◌, ◌≡◌}
use Rattle.refusals.specs.First.{Fault, ◌gives◌}
use Rattle.refusals.specs.Call.{Call, result_of, left_of}

-- no fault of the list holds
abbrev pub NoneHolds : List Fault → Type 0
NoneHolds [] = Unit {0}
NoneHolds ((holds gives number) ∷ later) = (holds ≡ false) × NoneHolds later

-- a fault with this number holds, and none before it does
pub record FirstThatHolds (faults : List Fault) (number : ℕ) : Type 0 where
  pub earlier : List Fault
  pub later : List Fault
  pub split : faults ≡ earlier ++ (true gives number) ∷ later
  pub none_earlier : NoneHolds earlier

-- no fault that holds has the number 0, which means that nothing is refused
abbrev pub Numbered : List Fault → Type 0
Numbered [] = Unit {0}
Numbered ((holds gives number) ∷ later) = (holds ≡ true → 0 < number) × Numbered later

-- one of the list's faults is the first that holds
pub record SomeHolds (faults : List Fault) : Type 0 where
  pub number : ℕ
  pub first : FirstThatHolds faults number

-- `number_in` reads the refusal number off a result: 0 off the one that is given, its own number off one that comes back
pub record Tells {Result Lent : Type 0} (number_in : Result → ℕ) (call : Call Result Lent) : Type 0 where
  pub numbered : Numbered call.faults
  pub given_0 : NoneHolds call.faults → number_in call.given ≡ 0
  pub back_own : (number : ℕ) → number_in (call.back number) ≡ number

-- DEMAND 1 of a call that came to a result and left what was lent so
pub record Demand1 {Result Lent : Type 0} (number_in : Result → ℕ) (call : Call Result Lent) (result : Result) (after : Lent) : Type 0 where
  -- no fault holds, or one is the first that does
  pub decided : NoneHolds call.faults ⊎ SomeHolds call.faults
  -- none holds: the number is 0, and all is as the call gives and leaves it
  pub taken : NoneHolds call.faults → (number_in result ≡ 0) × (result ≡ call.given) × (after ≡ call.left)
  -- 0 is told only then
  pub none : number_in result ≡ 0 → NoneHolds call.faults
  -- one is the first: its number it is, the result is that of the number, and what was lent is as it came
  pub refused : (number : ℕ) → FirstThatHolds call.faults number
      → (number_in result ≡ number) × (result ≡ call.back number) × (after ≡ call.lent)

-- A function's statement, over its arguments, its result and its parameters as it returns, says what a row says.
-- shown: what a caller, who knows the arguments too, can see of the result. after: what was lent, as the function returns.
abbrev pub States : {Args Result Exit Shown Lent : Type 0} → (Args → Result → Exit → Type 0) → (Args → Result → Shown) → (Args → Exit → Lent)
    → (Args → Call Shown Lent) → Type 0
States {Args} {Result} {Exit} Post shown after call =
    (a : Args) (r : Result) (e : Exit) → Post a r e → (shown a r ≡ result_of (call a)) × (after a e ≡ left_of (call a))

-- Demand 1 of a function: of every outcome that its statement allows
abbrev pub MeetsDemand1 : {Args Result Exit Shown Lent : Type 0} → (Args → Result → Exit → Type 0) → (Args → Result → Shown) → (Args → Exit → Lent)
    → (Args → Call Shown Lent) → (Shown → ℕ) → Type 0
MeetsDemand1 {Args} {Result} {Exit} Post shown after call number_in =
    (a : Args) (r : Result) (e : Exit) → Post a r e → Demand1 number_in (call a) (shown a r) (after a e)

-- A statement settles what is seen of a call: any two outcomes that it allows for one set of arguments look the same.
abbrev pub Settles : {Args Result Exit Shown Lent : Type 0} → (Args → Result → Exit → Type 0) → (Args → Result → Shown) → (Args → Exit → Lent) → Type 0
Settles {Args} {Result} {Exit} Post shown after =
    (a : Args) (r r' : Result) (e e' : Exit) → Post a r e → Post a r' e' → (shown a r ≡ shown a r') × (after a e ≡ after a e')

-- both promises of a function
pub record Promised {Args Result Exit Shown Lent : Type 0} (Post : Args → Result → Exit → Type 0) (shown : Args → Result → Shown)
    (after : Args → Exit → Lent) (call : Args → Call Shown Lent) (number_in : Shown → ℕ) : Type 0 where
  pub demand_1 : MeetsDemand1 Post shown after call number_in
  pub settled : Settles Post shown after
