-- What salvage comes to, slot by slot and bit by bit, of a book with its ring.
use Rattle.std.specs.Prelude.{ℕ, suc, ◌*◌, ◌≤◌, ◌<◌, min, true, false, cond, List, [], ◌∷◌, ◌≡◌, eqb, length, get_or, drop}
use Rattle.bits.specs.Row.{bits}
use Rattle.bits.specs.Bytes.{Bytes}
use Rattle.book.specs.declared.Book.{Book}
use Rattle.book.specs.Record.{slots_of, largest_of, width_of, bytes_of, held_in}
use Rattle.salvage.specs.Altered.{newest_slot, too_large}

-- THE RING: a field above z is z then and any other stays; the bits after the last slot are 0; and the bytes from B on are as they were lent
pub record Mended (book : Book) (ring ring' : List ℕ) : Type 0 where
  pub field_is : (slot : ℕ) → slot < slots_of book → held_in book ring' slot ≡ min (held_in book ring slot) (largest_of book)
  pub tail_0 : (i : ℕ) → slots_of book * width_of book ≤ i → i < bytes_of book * 8 → get_or (bits ring') i 0 ≡ 0
  pub same_length : length ring' ≡ length ring
  pub rest_stays : Bytes ring → drop (bytes_of book) ring' ≡ drop (bytes_of book) ring

-- THE NEWEST ALTERED SLOT is the u-th newest: that one is altered, and no newer one is
pub record NewestAltered (book : Book) (ring : List ℕ) (u : ℕ) : Type 0 where
  pub low : 1 ≤ u
  pub high : u ≤ slots_of book
  pub is_altered : too_large book ring (newest_slot book u) ≡ true
  pub none_newer : (j : ℕ) → 1 ≤ j → j < u → too_large book ring (newest_slot book j) ≡ false

-- no slot of the ring is altered
abbrev pub NoneAltered : Book → List ℕ → Type 0
NoneAltered book ring = (slot : ℕ) → slot < slots_of book → too_large book ring slot ≡ false

-- how often a slot stands in a list of slot numbers
unfoldable pub times_listed : ℕ → List ℕ → ℕ
times_listed slot [] = 0
times_listed slot (first ∷ later) = cond (eqb first slot) (suc (times_listed slot later)) (times_listed slot later)
