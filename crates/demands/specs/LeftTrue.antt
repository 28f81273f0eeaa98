-- "If all fields it left were true" (SCOPE, Salvage).
use Rattle.std.specs.Prelude.{ℕ, ◌≤◌, false, List, ◌≡◌}
use Rattle.book.specs.declared.Book.{Book}
use Rattle.book.specs.Record.{held_in}
use Rattle.book.specs.Figure.{slots_for}
use Rattle.salvage.specs.Altered.{newest_slot, too_large}

-- `truth` is a ring as it should be with this record. Among the ceil((kept − p)/c) newest slots, of which the oldest may be kept in part only, the
-- ring that salvage goes through holds the same as `truth` in every slot that is not altered. What the altered slots and all others held, nobody
-- asks
abbrev pub LeftTrue : Book → List ℕ → List ℕ → Type 0
LeftTrue book ring truth =
    (j : ℕ) → 1 ≤ j → j ≤ slots_for book book.kept → too_large book ring (newest_slot book j) ≡ false
    → held_in book ring (newest_slot book j) ≡ held_in book truth (newest_slot book j)
