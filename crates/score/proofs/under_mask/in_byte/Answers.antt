-- `score::under_mask::in_byte`: one threshold decides which pixels moved, of one byte or of two.
-- Assumes nothing.
use Rattle.std.proofs.Common.{ℕ, ◌≤◌, ap, ◌∙◌, arith}
use Rattle.image.proofs.Promises.{pixel_bytes_one, pixel_bytes_two}
use Rattle.score.specs.Near.{far_at}
use Rattle.score.specs.Rows.{black_bit, count_from}
use Rattle.score.proofs.Near.{threshold_most, far_moved}
use Rattle.score.proofs.Runs.{have_few, bytes_had}
use Rattle.score.proofs.under_mask.in_byte.Goals as goal

pub far_under_byte-requires : goal.far_under_byte-requires
far_under_byte-requires c =
    let has = bytes_had c.requires.2 (pixel_bytes_one c.args.maxval c.if-maxval-le-BYTE_MOST.true) in
    record {
      table = c.requires.0;
      in_byte = c.requires.1;
      first_has = has.0;
      second_has = has.1;
      few = omega (arith, have_few c.requires.2);
    }

pub returns-then-maxval-le-BYTE_MOST : goal.returns-then-maxval-le-BYTE_MOST
returns-then-maxval-le-BYTE_MOST c = let a = c.args in
    c.far_under_byte.ensures
    ∙ ap (λ (t : ℕ). count_from (black_bit a.byte) (far_at 1 t a.first.now a.second.now) a.at a.columns) c.byte_threshold-threshold.ensures
    ∙ far_moved (black_bit a.byte) a.allowance a.maxval a.first.now a.second.now a.at a.columns
    (pixel_bytes_one a.maxval c.if-maxval-le-BYTE_MOST.true)

pub overflow_cast-threshold : goal.overflow_cast-threshold
overflow_cast-threshold c =
    let byte : c.args.allowance ≤ 255 = omega arith in
    omega (arith, c.threshold-threshold.ensures, threshold_most c.args.allowance c.args.maxval byte, c.requires.2.maxval_most)

pub far_under_byte-requires-2 : goal.far_under_byte-requires-2
far_under_byte-requires-2 c =
    let has = bytes_had c.requires.2 (pixel_bytes_two c.args.maxval c.if-maxval-le-BYTE_MOST.false) in
    record {
      table = c.requires.0;
      in_byte = c.requires.1;
      first_has = has.0;
      second_has = has.1;
      few = omega (arith, have_few c.requires.2);
    }

pub returns : goal.returns
returns c = let a = c.args in
    c.far_under_byte-2.ensures
    ∙ ap (λ (t : ℕ). count_from (black_bit a.byte) (far_at 2 t a.first.now a.second.now) a.at a.columns) c.threshold-threshold.ensures
    ∙ far_moved (black_bit a.byte) a.allowance a.maxval a.first.now a.second.now a.at a.columns
    (pixel_bytes_two a.maxval c.if-maxval-le-BYTE_MOST.false)
