-- The slots that salvage alters (SCOPE, Salvage): those whose field is above z, and how new the newest of them is.
use Rattle.std.specs.Prelude.{ℕ, zero, suc, Bool, cond, List, [], ◌∷◌, ltb}
use Rattle.refusals.specs.First.{or_else}
use Rattle.ring.specs.Newest.{newest}
use Rattle.book.specs.declared.Book.{Book}
use Rattle.book.specs.Record.{slots_of, largest_of, held_in}

-- the j-th newest slot of a book
abbrev pub newest_slot : Book → ℕ → ℕ
newest_slot book j = newest (slots_of book) book.head j

module _ (book : Book) (ring : List ℕ) where
  -- a field above z, which no block's quotient can be
  abbrev pub too_large : ℕ → Bool
  too_large slot = ltb (largest_of book) (held_in book ring slot)

  -- of the j newest slots those that are altered, from the oldest of the j round to the newest
  unfoldable pub altered_of : ℕ → List ℕ
  altered_of zero = []
  altered_of (suc j) = cond (too_large (newest_slot book (suc j))) (newest_slot book (suc j) ∷ altered_of j) (altered_of j)

  -- ALL THAT ARE ALTERED, from slot head, which is the s-th newest, round to the newest
  abbrev pub altered : List ℕ
  altered = altered_of (slots_of book)

  -- among the j newest slots: how new the newest altered one is, 0 for none. A newer one goes before the oldest of the j
  unfoldable pub how_new_of : ℕ → ℕ
  how_new_of zero = 0
  how_new_of (suc j) = or_else (how_new_of j) (cond (too_large (newest_slot book (suc j))) (suc j) 0)

  -- u: the newest altered slot is the u-th newest, and 0 stands for none
  abbrev pub how_new : ℕ
  how_new = how_new_of (slots_of book)
