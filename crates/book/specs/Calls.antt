-- What each call of the book gives and leaves, for every input, with its refusals in the order of SCOPE, Refusals.
use Rattle.std.specs.Prelude.{ℕ, ◌+◌, ◌-◌, ◌*◌, List, [], ◌∷◌, ◌++◌, length, nat_eq, nat_le, nat_lt}
use Rattle.refusals.specs.Numbers.{ring_too_short, window_too_long, zero_asked, item_too_large, no_book, not_reached, book_rests}
use Rattle.refusals.specs.First.{Fault, ◌gives◌, outside}
use Rattle.refusals.specs.Call.{Call}
use Rattle.ring.specs.Slot.{cleared}
use Rattle.book.specs.declared.Book.{Book}
use Rattle.book.specs.declared.told.Updated.{Updated}
use Rattle.book.specs.declared.told.Ran.{Ran}
use Rattle.book.specs.declared.told.Figure.{Figure}
use Rattle.book.specs.Answers.{Figures}
use Rattle.book.specs.declared.told.Window.{Window}
use Rattle.book.specs.Answers.{Ruling}
use Rattle.book.specs.Answers.{Told, Refused}
use Rattle.book.specs.Limits.{largest_bound, largest_length}
use Rattle.book.specs.Derived.{slot_count, field_width, bytes_needed}
use Rattle.book.specs.Shape.{number_faults}
use Rattle.book.specs.Resting.{awake, at_rest, rests, marked}
use Rattle.book.specs.Record.{block_of, slots_of, bytes_of, opened, no_book_at_all}
use Rattle.book.specs.Adding.{added, added_ring}
use Rattle.book.specs.RunOfCounts.{any_above, place_with, added_all, added_all_ring}
use Rattle.book.specs.Figure.{figure}
use Rattle.book.specs.HowFar.{how_far_back}
use Rattle.book.specs.Verdict.{verdict_now}

-- 4: the ring slice has fewer than B bytes
abbrev pub room_fault : ℕ → ℕ → Fault
room_fault needed lent = nat_lt lent needed gives ring_too_short

-- 8, the record is no book: L, n or D out of range …
abbrev pub range_faults : Book → List Fault
range_faults book =
    (outside 1 largest_bound book.bound gives no_book)
    ∷ (outside 1 largest_length book.length gives no_book)
    ∷ (outside 1 (book.length * book.bound) book.tolerance gives no_book)
    ∷ []

-- … kept above n or below p, p ≥ c, head ≥ s, or R above D − 1 + p·L
abbrev pub state_faults : Book → List Fault
state_faults book =
    (nat_lt book.length book.kept gives no_book)
    ∷ (nat_lt book.kept book.phase gives no_book)
    ∷ (nat_le (block_of book) book.phase gives no_book)
    ∷ (nat_le (slots_of book) book.head gives no_book)
    ∷ (nat_lt (book.tolerance - 1 + book.phase * book.bound) book.carry gives no_book)
    ∷ []

-- all that gives 8: it is said of the record alone, and not of its mark
abbrev pub record_faults : Book → List Fault
record_faults book = range_faults book ++ state_faults book

-- 8, then 4: every call with a book and its ring begins with these
abbrev pub book_faults : Book → ℕ → List Fault
book_faults book lent = record_faults book ++ room_fault (bytes_of book) lent ∷ []

-- 17: the book rests
abbrev pub rest_fault : Book → Fault
rest_fault book = rests book gives book_rests

-- 7: the item is above L
abbrev pub item_fault : Book → ℕ → Fault
item_fault book item = nat_lt book.bound item gives item_too_large

-- 7: a count of a run is above L
abbrev pub counts_fault : Book → List ℕ → Fault
counts_fault book counts = any_above book.bound counts gives item_too_large

-- 5: the window is longer than kept
abbrev pub window_fault : Book → ℕ → Fault
window_fault book window = nat_lt book.kept window gives window_too_long

-- 6: an amount of 0, or a verdict's window of 0
abbrev pub zero_fault : ℕ → Fault
zero_fault asked = nat_eq asked 0 gives zero_asked

-- 9: not reached
abbrev pub reach_fault : ℕ → Fault
reach_fault window = nat_eq window 0 gives not_reached

-- Opening: 1, 2, 3, 4. It gives the fresh record and clears the first B bytes of the ring; a refusal hands back the record of all zeros
unfoldable pub open_call : ℕ → ℕ → ℕ → List ℕ → Call Updated (List ℕ)
open_call bound n tolerance ring =
    record {
      faults = number_faults bound n tolerance ++ room_fault (bytes_needed bound n tolerance) (length ring) ∷ [];
      given = record { refusal = 0; book = opened bound n tolerance };
      left = cleared (field_width bound tolerance) (slot_count bound n tolerance) ring;
      back = λ refusal. record { refusal = refusal; book = no_book_at_all };
      lent = ring;
    }

-- Adding: 8, 4, 17, 7. It gives the record with the item and puts the quotient into the ring where the block closes; a refusal hands the record
-- back as it came
unfoldable pub add_call : Book → List ℕ → ℕ → Call Updated (List ℕ)
add_call book ring item =
    record {
      faults = book_faults book (length ring) ++ rest_fault book ∷ item_fault book item ∷ [];
      given = record { refusal = 0; book = added book item };
      left = added_ring book ring item;
      back = λ refusal. record { refusal = refusal; book = book };
      lent = ring;
    }

-- A run of counts: 8, 4, 17, 7. It gives the record and leaves the ring with all counts added; a refusal hands the record back as it came, and
-- with 7 comes the place of the first count above L
unfoldable pub run_call : Book → List ℕ → List ℕ → Call Ran (List ℕ)
run_call book ring counts =
    record {
      faults = book_faults book (length ring) ++ rest_fault book ∷ counts_fault book counts ∷ [];
      given = record { refusal = 0; place = 0; book = added_all book counts };
      left = added_all_ring book ring counts;
      back = λ refusal. record { refusal = refusal; place = place_with book.bound counts refusal; book = book };
      lent = ring;
    }

-- Setting the mark: 8. It gives the record with that mark; a refusal hands the record back as it came. Nothing is lent
unfoldable pub mark_call : Book → ℕ → Call Updated (Unit {0})
mark_call book mark =
    record {
      faults = record_faults book;
      given = record { refusal = 0; book = marked book mark };
      left = tt;
      back = λ refusal. record { refusal = refusal; book = book };
      lent = tt;
    }

-- Resting sets it, and waking clears it
abbrev pub rest_call : Book → Call Updated (Unit {0})
rest_call book = mark_call book at_rest

abbrev pub wake_call : Book → Call Updated (Unit {0})
wake_call book = mark_call book awake

-- Total: 8, 4, 5. It gives the figure, whatever the mark
unfoldable pub total_call : Book → List ℕ → ℕ → Call Figure (List ℕ)
total_call book ring window =
    record {
      faults = book_faults book (length ring) ++ window_fault book window ∷ [];
      given = record { refusal = 0; figure = figure book ring window };
      left = ring;
      back = λ refusal. record { refusal = refusal; figure = 0 };
      lent = ring;
    }

-- Two totals at once: 8, 4, 5. It gives the figures for the last i items and for the last i + k, and is refused as a total of the longer window is
unfoldable pub two_totals_call : Book → List ℕ → ℕ → ℕ → Call Figures (List ℕ)
two_totals_call book ring window more =
    record {
      faults = book_faults book (length ring) ++ window_fault book (window + more) ∷ [];
      given = record { refusal = 0; shorter = figure book ring window; longer = figure book ring (window + more) };
      left = ring;
      back = λ refusal. record { refusal = refusal; shorter = 0; longer = 0 };
      lent = ring;
    }

-- How far back: 8, 4, 6, 9. It gives the window, whatever the mark
unfoldable pub how_far_call : Book → List ℕ → ℕ → Call Window (List ℕ)
how_far_call book ring amount =
    let window = how_far_back book ring amount in
    record {
      faults = book_faults book (length ring) ++ zero_fault amount ∷ reach_fault window ∷ [];
      given = record { refusal = 0; window = window };
      left = ring;
      back = λ refusal. record { refusal = refusal; window = 0 };
      lent = ring;
    }

-- Verdict: 8, 4, 6, 5. It tells the page the window and the verdict with its figure; only then is it asked whether the book rests
unfoldable pub verdict_call : Book → List ℕ → ℕ → ℕ → Call Ruling (List ℕ)
verdict_call book ring window amount =
    record {
      faults = book_faults book (length ring) ++ zero_fault amount ∷ zero_fault window ∷ window_fault book window ∷ [];
      given = Told (record { window = window; verdict = verdict_now book amount (figure book ring window) });
      left = ring;
      back = λ refusal. Refused refusal;
      lent = ring;
    }
