-- Adding leaves how many bytes a book takes, and how many bytes its ring has.
-- Assumes nothing.
use Prim.Native.Nat.{ℕ, ◌^◌, ◌≤◌, ◌<◌}
use mathlib.Core.List.{List}
use mathlib.Core.Path.{◌≡◌, refl}
use lib.ListN.{length}
use Rattle.ring.proofs.Promises.{length_written}
use Rattle.book.specs.declared.Book.{Book}
use Rattle.book.specs.Derived.{bytes_needed}
use Rattle.book.specs.Record.{slots_of, width_of, bytes_of}
use Rattle.book.specs.Sound.{Usable}
use Rattle.book.specs.Adding.{quotient_of, added, added_ring}
use Rattle.book.proofs.Promises.{added_same, adding_cases, quotient_in, book_lent}

-- L, n and D stay, and with them B
pub added_bytes : (book : Book) (item : ℕ) → bytes_of (added book item) ≡ bytes_of book
added_bytes book item =
    let same = added_same book item in
    λ i. bytes_needed (same.bound_same i) (same.length_same i) (same.tolerance_same i)

-- no byte of the ring comes or goes
pub added_length : (book : Book) (ring : List ℕ) (item : ℕ) → Usable book (length ring) → item ≤ book.bound
    → length (added_ring book ring item) ≡ length ring
added_length book ring item usable small =
    adding_cases (λ b r. length r ≡ length ring) book ring item
    (λ closes. (let fits : quotient_of book item < 2 ^ width_of book = quotient_in book usable.sound item small closes in
    let whole = book_lent book.bound book.length book.tolerance (length ring) usable.sound.ranges usable.room in
    length_written (width_of book) (slots_of book) ring whole book.head usable.sound.head_high (quotient_of book item) fits))
    (λ more. refl)
