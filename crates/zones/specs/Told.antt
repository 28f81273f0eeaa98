-- The results of the calls with zones in numbers, as the calls' rows have them (specs/Calls.antt) and C is told them.
use Rattle.std.specs.Prelude.{ℕ, Result, Ok, Err, Option, Some, None}
use Rattle.refusals.specs.Refused.{number_of}
use Rattle.zones.specs.declared.refused.ZoneRefusal.{ZoneRefusal}
use Rattle.zones.specs.declared.told.Zoned.{Zoned}

-- the zone that is named, or 0
abbrev pub zone_or_0 : Option ℕ → ℕ
zone_or_0 None = 0
zone_or_0 (Some zone) = zone

-- a refusal with its zone
abbrev pub refused_as : ZoneRefusal → Zoned
refused_as refused = record { refusal = number_of refused.refusal; zone = zone_or_0 refused.zone }

-- 0 and 0, whatever is given, or the refusal with its zone
abbrev pub as_zoned : {T : Type 0} → Result T ZoneRefusal → Zoned
as_zoned (Ok given) = record { refusal = 0; zone = 0 }
as_zoned (Err refused) = refused_as refused
