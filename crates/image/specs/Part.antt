-- A part of a lent slice: the place in memory where it starts, and the bytes that it holds (SCOPE, Images: the raster).
use Rattle.std.specs.Prelude.{ℕ, ◌+◌, ◌-◌, List, [], ◌∷◌, take, drop}
use Rattle.std.specs.Borrow.{Bor}
use Rattle.refusals.specs.First.{passed_on}
use Rattle.refusals.specs.Call.{Call}
use Rattle.image.specs.Reading.{numbers_of}

pub record Part : Type 0 where
  pub start : ℕ × ℕ
  pub bytes : List ℕ

-- what a slice refers to: its block of memory with the offset there, and its bytes
abbrev pub part_of : Bor (List ℕ) → Part
part_of s = record { start = s.ref_ptr; bytes = s.now }

-- the k bytes of a slice from byte a on
abbrev pub cut : Bor (List ℕ) → ℕ → ℕ → Part
cut s a k = record { start = (s.ref_ptr.0, a + s.ref_ptr.1); bytes = take k (drop a s.now) }

-- the raster of an image: the part of the slice from the header's end up to the bytes used
abbrev pub raster_of : Bor (List ℕ) → Part
raster_of s = let numbers = numbers_of s.now in cut s numbers.start (numbers.used - numbers.start)

-- the empty part where a slice starts
abbrev pub empty_part : Bor (List ℕ) → Part
empty_part s = record { start = s.ref_ptr; bytes = [] }

-- the call that gives the raster: its one fault is the reading's own, and with it comes the empty part
unfoldable pub raster_call : Bor (List ℕ) → Call Part (List ℕ)
raster_call s =
    record {
      faults = passed_on (numbers_of s.now).refusal ∷ [];
      given = raster_of s;
      left = s.now;
      back = λ number. empty_part s;
      lent = s.now;
    }
