-- A book is awake, or it rests: what the test of its mark says.
-- Assumes nothing.
use Rattle.std.proofs.Common.{◌≡◌, ◌≤◌, true, false, arith, ltb-false, le-ltb, lt-ltb}
use Rattle.book.specs.declared.Book.{Book}
use Rattle.book.specs.Resting.{awake, rests}

module _ (book : Book) where
  pub awake_known : rests book ≡ false → book.resting ≡ awake
  awake_known e = let h : book.resting ≤ awake = ltb-false awake book.resting e in omega arith

  pub awake_passes : book.resting ≡ awake → rests book ≡ false
  awake_passes up = le-ltb awake book.resting (omega arith)

  pub rest_holds : (book.resting ≡ awake → ⊥) → rests book ≡ true
  rest_holds down = lt-ltb awake book.resting (omega arith)
