-- The numbers c, s, z, b and B of a book (SCOPE, Numbers) together, as they follow from L, n and D; and the call that gives them.
use Rattle.std.specs.Prelude.{ℕ, ◌*◌, List, [], ◌∷◌}
use Rattle.refusals.specs.Numbers.{bad_bound, bad_length, bad_tolerance}
use Rattle.refusals.specs.First.{Fault, ◌gives◌, outside}
use Rattle.refusals.specs.Call.{Call}
use Rattle.book.specs.declared.shape.Shape.{Shape}
use Rattle.book.specs.declared.shape.Shaped.{Shaped}
use Rattle.book.specs.Limits.{largest_bound, largest_length}
use Rattle.book.specs.Derived.{block_length, slot_count, largest_quotient, field_width, bytes_needed}

-- c, s, z, b, B
abbrev pub shape_of : ℕ → ℕ → ℕ → Shape
shape_of bound length tolerance =
    record {
      block = block_length bound tolerance;
      slots = slot_count bound length tolerance;
      largest = largest_quotient bound tolerance;
      width = field_width bound tolerance;
      bytes = bytes_needed bound length tolerance;
    }

-- five zeros
abbrev pub no_shape : Shape
no_shape = record { block = 0; slots = 0; largest = 0; width = 0; bytes = 0 }

-- 1, 2, 3: L is not 1 to 65,535, n is not 1 to 4,096, D is 0 or above n·L
abbrev pub number_faults : ℕ → ℕ → ℕ → List Fault
number_faults bound length tolerance =
    (outside 1 largest_bound bound gives bad_bound)
    ∷ (outside 1 largest_length length gives bad_length)
    ∷ (outside 1 (length * bound) tolerance gives bad_tolerance)
    ∷ []

-- the numbers of a book with L, n and D, before it is opened: refusals 1, 2, 3. Nothing is lent
unfoldable pub shape_call : ℕ → ℕ → ℕ → Call Shaped (Unit {0})
shape_call bound length tolerance =
    record {
      faults = number_faults bound length tolerance;
      given = record { refusal = 0; shape = shape_of bound length tolerance };
      left = tt;
      back = λ refusal. record { refusal = refusal; shape = no_shape };
      lent = tt;
    }
