-- A history: a book that is opened, then the items that come in one after the other; and how the calls replay it.
use Rattle.std.specs.Prelude.{ℕ, List, [], ◌∷◌}
use Rattle.refusals.specs.First.{unless_refused}
use Rattle.refusals.specs.Call.{refusal_of, result_of, left_of}
use Rattle.book.specs.declared.Book.{Book}
use Rattle.book.specs.Calls.{open_call, add_call}

infix 40 L◌n◌D◌lent◌
-- what a book is opened with: L, n, D and the ring that is lent
pub data Start : Type 0 where
  L◌n◌D◌lent◌ : (bound length tolerance : ℕ) (ring : List ℕ) → Start

infixl 30 ◌then◌
pub data History : Type 0 where
  opened : Start → History
  ◌then◌ : History → (item : ℕ) → History

abbrev pub start_of : History → Start
start_of (opened start) = start
start_of (history then item) = start_of history

-- the record and the ring as the last call left them, and the items that were accepted, the newest first
pub record State : Type 0 where
  pub book : Book
  pub ring : List ℕ
  pub accepted : List ℕ

-- the state after the call of opening
abbrev pub opened_state : Start → State
opened_state (L bound n length D tolerance lent ring) =
    let call = open_call bound length tolerance ring in
    record { book = (result_of call).book; ring = left_of call; accepted = [] }

-- the state after the call of adding: an item that is refused is not among the accepted ones
abbrev pub added_to : State → ℕ → State
added_to state item =
    let call = add_call state.book state.ring item in
    record {
      book = (result_of call).book;
      ring = left_of call;
      accepted = unless_refused (refusal_of call) (item ∷ state.accepted) state.accepted;
    }

-- the state that a history leaves
abbrev pub state_of : History → State
state_of (opened start) = opened_state start
state_of (history then item) = added_to (state_of history) item

-- a start and a state with another ring
abbrev pub start_over : Start → List ℕ → Start
start_over (L bound n length D tolerance lent ring) another = L bound n length D tolerance lent another

abbrev pub state_over : State → List ℕ → State
state_over state another = record { book = state.book; ring = another; accepted = state.accepted }
