-- A text written into a line behind what stands there: nothing else of the buffer changes. Only contracts of private functions speak of this.
use Rattle.std.specs.Prelude.{ℕ, ◌+◌, List, ◌≡◌, length}
use Rattle.std.proofs.lemmas.List.Edits.{sets}
use Rattle.rows.specs.declared.put.Line.{Line}

pub record Appended (old : Line) (text : List ℕ) (new : Line) : Type 0 where
  pub same : new.out.ghost_name ≡ old.out.ghost_name
  pub bytes : new.out.now ≡ sets old.out.now old.at text
  pub long : length new.out.now ≡ length old.out.now
  pub moved : new.at ≡ old.at + length text
