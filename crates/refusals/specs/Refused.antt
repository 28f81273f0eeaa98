-- A refusal and its number, and what a result tells in numbers: how the results of the code are seen by the calls' rows (specs/Call.antt).
use Rattle.std.specs.Prelude.{ℕ, Result, Ok, Err}
use Rattle.refusals.specs.declared.Refusal.{Refusal}
use Rattle.refusals.specs.declared.Refusal.TheVariants.{BadBound, BadLength, BadTolerance, RingTooShort, WindowTooLong, ZeroAsked, ItemTooLarge, NoBook, NotReached, BadRingCall, WrongByte, NumberOutOfRange, ImageTooLarge, EndsTooEarly, PixelTooLarge, ImagesDiffer, BookRests, RowTooShort, CannotCoarsen, BadZones, NumbersTooShort, BadLitCall, BufferTooShort}
use Rattle.refusals.specs.Numbers.{bad_bound, bad_length, bad_tolerance, ring_too_short, window_too_long, zero_asked, item_too_large, no_book, not_reached, bad_ring_call, wrong_byte, number_out_of_range, image_too_large, ends_too_early, pixel_too_large, images_differ, book_rests, row_too_short, cannot_coarsen, bad_zones, numbers_too_short, bad_lit_call, buffer_too_short}

-- the number of a refusal
abbrev pub number_of : Refusal → ℕ
number_of BadBound = bad_bound
number_of BadLength = bad_length
number_of BadTolerance = bad_tolerance
number_of RingTooShort = ring_too_short
number_of WindowTooLong = window_too_long
number_of ZeroAsked = zero_asked
number_of ItemTooLarge = item_too_large
number_of NoBook = no_book
number_of NotReached = not_reached
number_of BadRingCall = bad_ring_call
number_of WrongByte = wrong_byte
number_of NumberOutOfRange = number_out_of_range
number_of ImageTooLarge = image_too_large
number_of EndsTooEarly = ends_too_early
number_of PixelTooLarge = pixel_too_large
number_of ImagesDiffer = images_differ
number_of BookRests = book_rests
number_of RowTooShort = row_too_short
number_of CannotCoarsen = cannot_coarsen
number_of BadZones = bad_zones
number_of NumbersTooShort = numbers_too_short
number_of BadLitCall = bad_lit_call
number_of BufferTooShort = buffer_too_short

-- the number that a result tells: 0 where nothing is refused
abbrev pub number_in : {T : Type 0} → Result T Refusal → ℕ
number_in (Ok given) = 0
number_in (Err refusal) = number_of refusal

-- a result in numbers: what is given in one form, and a refusal by its number in another
abbrev pub in_numbers : {T Told : Type 0} → (T → Told) → (ℕ → Told) → Result T Refusal → Told
in_numbers given back (Ok x) = given x
in_numbers given back (Err refusal) = back (number_of refusal)
