-- Zones that pass refusals 20, 8 and 4, and a zone that passes 17 and 7 with an item (SCOPE, Zones and Refusals), put positively.
use Rattle.std.specs.Prelude.{ℕ, ◌≤◌, ◌<◌, List, ◌≡◌, length}
use Rattle.book.specs.declared.Book.{Book}
use Rattle.book.specs.Resting.{awake}
use Rattle.book.specs.Sound.{Sound}
use Rattle.zones.specs.Stretches.{zone_at, all_bytes}
use Rattle.zones.specs.Calls.{most_zones}

-- one zone to 96, every record of them a book, and the stretches of all lent whole
pub record AllSound (zones : List Book) (lent : ℕ) : Type 0 where
  pub some : 1 ≤ length zones
  pub few : length zones ≤ most_zones
  pub sound : (zone : ℕ) → zone < length zones → Sound (zone_at zones zone)
  pub room : all_bytes zones ≤ lent

-- the zone is awake, and the item is at most its L
pub record TakesItem (book : Book) (item : ℕ) : Type 0 where
  pub up : book.resting ≡ awake
  pub small : item ≤ book.bound
