-- The one statement of the table (promise W.1): in every row the definitions that the contracts cite answer what was worked by hand.
-- Assumes nothing.
use mathlib.Core.List.{map}
use mathlib.Core.Path.{◌≡◌, refl}
use Rattle.refusals.specs.Call.{result_of, left_of}
use Rattle.bits.specs.Row.{digits, number, bits, packed}
use Rattle.ring.specs.Slot.{ring_bytes, field, written, cleared}
use Rattle.ring.specs.Newest.{slot_before, newest, sum_newest}
use Rattle.book.specs.Derived.{ceil_div, block_length, slot_count, largest_quotient, digits_within, binary_digits, field_width, bytes_needed}
use Rattle.book.specs.Shape.{shape_call}
use Rattle.book.specs.Adding.{slot_after, added, added_ring}
use Rattle.book.specs.Figure.{reckoned, slots_for, figure_by}
use Rattle.book.specs.HowFar.{first_reaching, how_far_back}
use Rattle.book.specs.Verdict.{verdict_of, verdict_now}
use Rattle.book.specs.Calls.{open_call, add_call, total_call, how_far_call, verdict_call}
use Rattle.trend.specs.Trend.{trend_of, trend_call}
use Rattle.demands.specs.History.{sum_of, true_total}
use Rattle.cases.specs.Table.{table, answered, given}

pub starred : map answered table ≡ map given table
unfolding result_of left_of digits number bits packed ring_bytes field written cleared slot_before newest sum_newest ceil_div block_length slot_count largest_quotient digits_within binary_digits field_width bytes_needed shape_call slot_after added added_ring reckoned slots_for figure_by first_reaching how_far_back verdict_of verdict_now open_call add_call total_call how_far_call verdict_call trend_of trend_call sum_of true_total
starred = refl
