-- A run of counts in two parts: adding all counts is adding those of the one part, and then those of the other.
-- Assumes nothing.
use Rattle.std.proofs.Common.{◌≡◌, ℕ, List, [], ◌∷◌, ◌++◌, refl}
use Rattle.book.specs.declared.Book.{Book}
use Rattle.book.specs.Adding.{added, added_ring}
use Rattle.book.specs.RunOfCounts.{added_all, added_all_ring}

-- the record …
pub added_all_apart : (book : Book) (one two : List ℕ) → added_all book (one ++ two) ≡ added_all (added_all book one) two
unfolding added_all
added_all_apart book [] two = refl
added_all_apart book (count ∷ later) two = added_all_apart (added book count) later two

-- … and the ring
pub added_ring_apart : (book : Book) (ring one two : List ℕ)
    → added_all_ring book ring (one ++ two) ≡ added_all_ring (added_all book one) (added_all_ring book ring one) two
unfolding added_all added_all_ring
added_ring_apart book ring [] two = refl
added_ring_apart book ring (count ∷ later) two = added_ring_apart (added book count) (added_ring book ring count) later two
