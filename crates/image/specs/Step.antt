-- One step of reading a header: it finds something and leaves the bytes behind it, or it stops at a refusal.
use Rattle.std.specs.Prelude.{ℕ, List, [], ◌∷◌}
use Rattle.image.specs.Seen.{Seen}

pub data Step (A : Type 0) : Type 0 where
  stopped : (refusal : ℕ) → Step A
  found : (value : A) (used : ℕ) (rest : List Seen) → Step A

-- the next header byte; `end` is the refusal where there is none
abbrev pub next_byte : ℕ → List Seen → Step ℕ
next_byte end [] = stopped end
next_byte end (seen ∷ rest) = found seen.byte seen.upto rest

-- a step, and what is made of what it finds, of the bytes used and of the rest; a refusal is passed on
abbrev pub and_then : {A B : Type 0} → (ℕ → B) → Step A → (A → ℕ → List Seen → B) → B
and_then refused (stopped refusal) next = refused refusal
and_then refused (found value used rest) next = next value used rest
