-- What judging a book comes to. A device of the code: the contracts of the judge cite it, here and where crates above ask it.
use Rattle.std.specs.Prelude.{◌≡◌, ℕ, ◌≤◌, List, [], ◌∷◌, ◌++◌, Result, Ok}
use Rattle.refusals.specs.declared.Refusal.{Refusal}
use Rattle.refusals.specs.First.{Fault, first_of}
use Rattle.refusals.specs.Refused.{number_in}
use Rattle.book.specs.declared.Book.{Book}
use Rattle.book.specs.declared.known.Known.{Known}
use Rattle.book.specs.Calls.{record_faults, book_faults, rest_fault}

-- the refusal 8, or the book
pub record JudgedAlone (book : Book) (judged : Result Known Refusal) : Type 0 where
  pub refusal_is : number_in judged ≡ first_of (record_faults book)
  pub same : (known : Known) → judged ≡ Ok known → known.book ≡ book

-- the refusal 8 or 4, or that of a fault which is asked right behind them; or the book, whose ring is lent whole
pub record JudgedWith (book : Book) (lent : ℕ) (behind : List Fault) (judged : Result Known Refusal) : Type 0 where
  pub refusal_is : number_in judged ≡ first_of (book_faults book lent ++ behind)
  pub same : (known : Known) → judged ≡ Ok known → known.book ≡ book
  pub room : (known : Known) → judged ≡ Ok known → known.shape.bytes ≤ lent

-- with none behind them …
abbrev pub Judged : Book → ℕ → Result Known Refusal → Type 0
Judged book lent judged = JudgedWith book lent [] judged

-- … and with 17
abbrev pub JudgedTaking : Book → ℕ → Result Known Refusal → Type 0
JudgedTaking book lent judged = JudgedWith book lent (rest_fault book ∷ []) judged
