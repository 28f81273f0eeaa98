-- What is lent for zones (SCOPE, Zones): their records, and one slice of ring bytes, in which every zone has its own stretch, in order and as long as
-- its own B. Zones are numbered from 0.
use Rattle.std.specs.Prelude.{ℕ, zero, suc, ◌+◌, List, [], ◌∷◌, ◌++◌, length, get_or, take, drop}
use Rattle.book.specs.declared.Book.{Book}
use Rattle.book.specs.Record.{bytes_of, no_book_at_all}

pub record ZonesAndRings : Type 0 where
  pub zones : List Book
  pub rings : List ℕ

-- the record of a zone
abbrev pub zone_at : List Book → ℕ → Book
zone_at zones zone = get_or zones zone no_book_at_all

-- where a zone's stretch starts: behind the stretches of the zones before it
unfoldable pub stretch_start : List Book → ℕ → ℕ
stretch_start zones zero = 0
stretch_start [] (suc zone) = 0
stretch_start (book ∷ zones) (suc zone) = bytes_of book + stretch_start zones zone

-- what the stretches of all zones take
abbrev pub all_bytes : List Book → ℕ
all_bytes zones = stretch_start zones (length zones)

-- a zone's stretch: its ring
unfoldable pub stretch_of : ZonesAndRings → ℕ → List ℕ
stretch_of lent zone = take (bytes_of (zone_at lent.zones zone)) (drop (stretch_start lent.zones zone) lent.rings)

-- the ring bytes with other bytes in the place of those from `start` on, as many as there are
unfoldable pub with_stretch : List ℕ → ℕ → List ℕ → List ℕ
with_stretch rings start stretch = take start rings ++ (stretch ++ drop (start + length stretch) rings)
