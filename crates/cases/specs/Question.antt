-- What can be asked of a history, and what can be answered: in SCOPE's words and letters, or a refusal by its number.
use Rattle.std.specs.Prelude.{ℕ, List, ℤ, pos, neg_ℤ}
use Rattle.book.specs.declared.verdicts.Verdict.{Verdict}

infixl 20 ◌over◌
pub data Question : Type 0 where
  -- the numbers that follow from L, n and D
  shape : Question
  -- does the book open?
  opening : Question
  -- the record and the ring that the history leaves …
  state : Question
  -- … and those that one more item leaves
  adding : (item : ℕ) → Question
  -- the figure for the last `window` items
  total : (window : ℕ) → Question
  -- the true total of the last `window` items that were accepted
  truly : (window : ℕ) → Question
  -- the smallest window whose figure is at least the amount
  how_far : (amount : ℕ) → Question
  verdict : (window amount : ℕ) → Question
  -- twice the figure for the last `window` items less that for twice as many …
  trend : (window : ℕ) → Question
  -- … and the same difference of true totals
  truly_trend : (window : ℕ) → Question
  -- the same question, but the call is lent another ring
  ◌over◌ : Question → (another : List ℕ) → Question

infix 20 c◌s◌z◌b◌B◌
infix 20 R◌p◌kept◌head◌ring◌
pub data Answer : Type 0 where
  -- the shape: block length, slots, largest quotient, field width, ring bytes
  c◌s◌z◌b◌B◌ : ℕ → ℕ → ℕ → ℕ → ℕ → Answer
  opens : Answer
  -- the record's carry, phase, kept and head, and every byte of the ring
  R◌p◌kept◌head◌ring◌ : ℕ → ℕ → ℕ → ℕ → List ℕ → Answer
  figure : ℕ → Answer
  true : ℕ → Answer
  window : ℕ → Answer
  -- a verdict with its figure
  told : Verdict → Answer
  -- a trend, and a true one, each with its sign
  signed : ℤ → Answer
  truly_signed : ℤ → Answer
  refused : ℕ → Answer

-- the two signs, as they are written by hand
abbrev pub plus : ℕ → ℤ
plus number = pos number

abbrev pub minus : ℕ → ℤ
minus number = neg_ℤ (pos number)
