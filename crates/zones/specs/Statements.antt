-- What the statements of both calls say, over plain lists: of what is lent, of the result, and of the records and ring bytes as the call returns.
-- That they say this at the functions in src/ is checked (proofs/Demand1.antt, `all_says` and `one_says`).
use Rattle.std.specs.Prelude.{ℕ, List, ◌≡◌}
use Rattle.refusals.specs.Call.{Call, result_of, left_of}
use Rattle.book.specs.declared.Book.{Book}
use Rattle.zones.specs.declared.told.Zoned.{Zoned}
use Rattle.zones.specs.Stretches.{ZonesAndRings}
use Rattle.zones.specs.Calls.{add_all_call, add_one_call}

-- what is lent and handed over: the records, the ring bytes and the counts; for one zone its number and the item in their place
pub record LentToAll : Type 0 where
  pub zones : List Book
  pub rings : List ℕ
  pub counts : List ℕ

pub record LentToOne : Type 0 where
  pub zones : List Book
  pub rings : List ℕ
  pub zone : ℕ
  pub item : ℕ

-- the rows of these
abbrev pub all_call : LentToAll → Call Zoned ZonesAndRings
all_call lent = add_all_call lent.zones lent.rings lent.counts

abbrev pub one_call : LentToOne → Call Zoned ZonesAndRings
one_call lent = add_one_call lent.zones lent.rings lent.zone lent.item

-- a statement that says what a row says, of the result, the records and the ring bytes
abbrev pub SaysRow : Call Zoned ZonesAndRings → Zoned → ZonesAndRings → Type 0
SaysRow call r after = (r ≡ result_of call) × (after.zones ≡ (left_of call).zones) × (after.rings ≡ (left_of call).rings)

abbrev pub AllSays : LentToAll → Zoned → ZonesAndRings → Type 0
AllSays lent = SaysRow (all_call lent)

abbrev pub OneSays : LentToOne → Zoned → ZonesAndRings → Type 0
OneSays lent = SaysRow (one_call lent)
