-- Adding counts one by one, by the call `add` (SCOPE, Run of counts): what a run is held to.
use Rattle.std.specs.Prelude.{◌≡◌, ℕ, List, [], ◌∷◌}
use Rattle.refusals.specs.Call.{refusal_of, result_of, left_of}
use Rattle.book.specs.declared.Book.{Book}
use Rattle.book.specs.Calls.{add_call}

-- OneByOne book ring counts last left: beginning with `book` and `ring`, the counts are added by one call each, every call with the record
-- and the ring as the one before it gave and left them; none is refused; and the last one gives `last` and leaves `left`. Without counts there
-- is no call, and these are `book` and `ring`
pub data OneByOne : Book → List ℕ → List ℕ → Book → List ℕ → Type 0 where
  none : (book : Book) (ring : List ℕ) → OneByOne book ring [] book ring
  first : (book : Book) (ring : List ℕ) (count : ℕ) (later : List ℕ) (last : Book) (left : List ℕ)
      → refusal_of (add_call book ring count) ≡ 0
      → OneByOne (result_of (add_call book ring count)).book (left_of (add_call book ring count)) later last left
      → OneByOne book ring (count ∷ later) last left
