-- The box's own setting, L 600, n 1,440 and D 3,600: blocks of 6, 240 slots of one bit, 30 bytes (SCOPE, Program).
-- Assumes nothing.
use Rattle.std.proofs.Common.{◌≡◌}
use Rattle.ring.proofs.Promises.{bytes_are}
use Rattle.book.specs.Derived.{ceil_div, block_length, slot_count, largest_quotient, digits_within, binary_digits, field_width, bytes_needed}
use Rattle.book.specs.Shape.{shape_of}

pub box_shape : shape_of 600 1440 3600 ≡ record { block = 6; slots = 240; largest = 1; width = 1; bytes = 30 }
unfolding bytes_needed slot_count field_width largest_quotient block_length ceil_div binary_digits digits_within
box_shape = rw bytes_are
