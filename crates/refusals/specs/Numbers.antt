-- The refusal numbers of SCOPE, Refusals, each with a name. 0 means that nothing was refused.
use Rattle.std.specs.Prelude.{ℕ}

-- 1: L is not 1 to 65,535
abbrev pub bad_bound : ℕ
bad_bound = 1

-- 2: n is not 1 to 4,096
abbrev pub bad_length : ℕ
bad_length = 2

-- 3: D is 0 or above n·L
abbrev pub bad_tolerance : ℕ
bad_tolerance = 3

-- 4: the ring slice has fewer bytes than the ring takes
abbrev pub ring_too_short : ℕ
ring_too_short = 4

-- 5: the window is longer than kept
abbrev pub window_too_long : ℕ
window_too_long = 5

-- 6: an amount of 0, or a verdict's window of 0
abbrev pub zero_asked : ℕ
zero_asked = 6

-- 7: the item is above L
abbrev pub item_too_large : ℕ
item_too_large = 7

-- 8: the record is no book
abbrev pub no_book : ℕ
no_book = 8

-- 9: no window reaches the amount
abbrev pub not_reached : ℕ
not_reached = 9

-- 10: a call of the ring itself with a number out of its range
abbrev pub bad_ring_call : ℕ
bad_ring_call = 10

-- 11: a wrong byte in a header, or a number without digits
abbrev pub wrong_byte : ℕ
wrong_byte = 11

-- 12: width, height or maxval out of range
abbrev pub number_out_of_range : ℕ
number_out_of_range = 12

-- 13: an image of more than 24,576 bytes
abbrev pub image_too_large : ℕ
image_too_large = 13

-- 14: the slice ends too early
abbrev pub ends_too_early : ℕ
ends_too_early = 14

-- 15: a pixel above maxval
abbrev pub pixel_too_large : ℕ
pixel_too_large = 15

-- 16: two images that differ in width, height or maxval, or a mask of another width or height
abbrev pub images_differ : ℕ
images_differ = 16

-- 17: the book rests
abbrev pub book_rests : ℕ
book_rests = 17

-- 18: the row of running sums has fewer entries than there are groups of slots
abbrev pub row_too_short : ℕ
row_too_short = 18

-- 19: a book cannot be made coarser: D is no multiple of L, or m is not 2 to 16
abbrev pub cannot_coarsen : ℕ
cannot_coarsen = 19

-- 20: no zones or more than 96, a zone number not below their count, or counts and records that differ in number
abbrev pub bad_zones : ℕ
bad_zones = 20

-- 21: the row of slot numbers has fewer entries than there are slots
abbrev pub numbers_too_short : ℕ
numbers_too_short = 21

-- 22: a call on lit frames with a number out of its range: a length above 65,536 or above the bits of the slice, an i above the length,
-- a step of 0, or a k of 0 or above the number of lit frames
abbrev pub bad_lit_call : ℕ
bad_lit_call = 22

-- 23: a buffer for a line has fewer than 96 bytes
abbrev pub buffer_too_short : ℕ
buffer_too_short = 23
