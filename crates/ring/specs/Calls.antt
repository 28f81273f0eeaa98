-- What each call of the ring answers and leaves, for every input. Refusals: 10 before 4 (SCOPE, Refusals).
use Rattle.std.specs.Prelude.{ℕ, ◌^◌, List, [], ◌∷◌, ◌++◌, ltb, leb, length}
use Rattle.refusals.specs.Numbers.{ring_too_short, bad_ring_call}
use Rattle.refusals.specs.First.{Fault, ◌gives◌, outside}
use Rattle.refusals.specs.Call.{Call}
use Rattle.ring.specs.declared.Answer.{Answer}
use Rattle.ring.specs.Limits.{widest, most_slots}
use Rattle.ring.specs.Slot.{ring_bytes, field, written, cleared}
use Rattle.ring.specs.Newest.{sum_newest}

-- 10: the width is not 1 to 16, or the slots are not 1 to 4,096
abbrev pub shape_faults : ℕ → ℕ → List Fault
shape_faults width slots =
    (outside 1 widest width gives bad_ring_call)
    ∷ (outside 1 most_slots slots gives bad_ring_call)
    ∷ []

-- 4: fewer bytes are lent than the ring takes
abbrev pub room_faults : ℕ → ℕ → ℕ → List Fault
room_faults width slots lent = (ltb lent (ring_bytes width slots) gives ring_too_short) ∷ []

-- 10: a slot number that is not below the slots
abbrev pub slot_fault : ℕ → ℕ → Fault
slot_fault slots slot = leb slots slot gives bad_ring_call

-- 10: a value too large for the width
abbrev pub value_fault : ℕ → ℕ → Fault
value_fault width value = leb (2 ^ width) value gives bad_ring_call

-- 10: more newest slots asked for than there are
abbrev pub newest_fault : ℕ → ℕ → Fault
newest_fault slots j = ltb slots j gives bad_ring_call

-- CLEAR: sets the first B bytes of the ring to 0
unfoldable pub clear_call : (width slots : ℕ) (ring : List ℕ) → Call ℕ (List ℕ)
clear_call width slots ring =
    record {
      faults = shape_faults width slots ++ room_faults width slots (length ring);
      given = 0;
      left = cleared width slots ring;
      back = λ number. number;
      lent = ring;
    }

-- READ A SLOT: the number in it
unfoldable pub read_call : (width slots : ℕ) (ring : List ℕ) (slot : ℕ) → Call Answer (List ℕ)
read_call width slots ring slot =
    record {
      faults = shape_faults width slots ++ slot_fault slots slot ∷ room_faults width slots (length ring);
      given = record { refusal = 0; value = field width ring slot };
      left = ring;
      back = λ number. record { refusal = number; value = 0 };
      lent = ring;
    }

-- WRITE A SLOT: puts a value into it, and leaves every other bit
unfoldable pub write_call : (width slots : ℕ) (ring : List ℕ) (slot value : ℕ) → Call ℕ (List ℕ)
write_call width slots ring slot value =
    record {
      faults = shape_faults width slots ++ slot_fault slots slot ∷ value_fault width value ∷ room_faults width slots (length ring);
      given = 0;
      left = written width ring slot value;
      back = λ number. number;
      lent = ring;
    }

-- SUM THE j NEWEST SLOTS before a given next slot; the slot before 0 is the last one
unfoldable pub sum_call : (width slots : ℕ) (ring : List ℕ) (next j : ℕ) → Call Answer (List ℕ)
sum_call width slots ring next j =
    record {
      faults = shape_faults width slots ++ slot_fault slots next ∷ newest_fault slots j ∷ room_faults width slots (length ring);
      given = record { refusal = 0; value = sum_newest (field width ring) slots next j };
      left = ring;
      back = λ number. record { refusal = number; value = 0 };
      lent = ring;
    }
