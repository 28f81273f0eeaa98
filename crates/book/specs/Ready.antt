-- A book with its ring and its numbers at hand: what a call that has judged both goes on with, here and in the crates above.
use Rattle.std.specs.Prelude.{◌≡◌, ℕ}
use Rattle.book.specs.declared.Book.{Book}
use Rattle.book.specs.declared.shape.Shape.{Shape}
use Rattle.book.specs.Record.{shape_for}
use Rattle.book.specs.Sound.{Usable}

pub record Ready (book : Book) (shape : Shape) (lent : ℕ) : Type 0 where
  pub usable : Usable book lent
  pub shape_is : shape ≡ shape_for book
