-- Demand 3 (SCOPE, Demands): "how far back for v", over the call and the true totals.
use Rattle.std.specs.Prelude.{ℕ, ◌+◌, ◌-◌, ◌≤◌, ◌<◌, List, ◌⊎◌, ◌↔◌, ◌≡◌}
use Rattle.refusals.specs.Numbers.{not_reached}
use Rattle.refusals.specs.Call.{result_of}
use Rattle.book.specs.declared.Book.{Book}
use Rattle.book.specs.Figure.{figure}
use Rattle.book.specs.HowFar.{Smallest, NoWindow}
use Rattle.book.specs.Calls.{how_far_call}
use Rattle.demands.specs.History.{true_total}

module _ (book : Book) (ring items : List ℕ) (v : ℕ) where
  -- the call names window i
  abbrev pub Names : ℕ → Type 0
  Names i = result_of (how_far_call book ring v) ≡ record { refusal = 0; window = i }

  -- the call says "not reached"
  abbrev pub SaysNotReached : Type 0
  SaysNotReached = result_of (how_far_call book ring v) ≡ record { refusal = not_reached; window = 0 }

  -- NAMED: it names the shortest window whose figure reaches v; that window truly holds v, and every shorter one truly holds less than
  -- v + D − 1
  pub record Named (i : ℕ) : Type 0 where
    pub names : Names i
    pub smallest : Smallest book.kept (figure book ring) v i
    pub truly_holds : v ≤ true_total i items
    pub shorter_less : (k : ℕ) → k < i → true_total k items < v + book.tolerance - 1

  pub record SomeNamed : Type 0 where
    pub window : ℕ
    pub named : Named window

  -- NOT REACHED: it says so; no window that is kept has a figure that reaches v, and none truly holds v + D − 1
  pub record NotReached : Type 0 where
    pub says : SaysNotReached
    pub none_reaches : NoWindow book.kept (figure book ring) v
    pub none_holds : (k : ℕ) → k ≤ book.kept → true_total k items < v + book.tolerance - 1

  -- AT D = 1 it is exact: the window named is the shortest that truly holds v, and "not reached" comes where none does
  pub record Exact : Type 0 where
    pub window_exact : (i : ℕ) → Names i ↔ Smallest book.kept (λ k. true_total k items) v i
    pub none_exact : SaysNotReached ↔ NoWindow book.kept (λ k. true_total k items) v

  -- DEMAND 3 for one amount: one of the two comes, each exactly where it is due
  pub record Demand3 : Type 0 where
    pub decided : SomeNamed ⊎ NotReached
    pub where_some : (i : ℕ) → Smallest book.kept (figure book ring) v i → Named i
    pub where_none : NoWindow book.kept (figure book ring) v → NotReached
    pub exact_at_1 : book.tolerance ≡ 1 → Exact
