-- No line is longer than `line_most` bytes, as long as its numbers are of 64 bits (each has 20 digits then, at most); so a buffer that is
-- not refused takes every byte of its line.
-- Assumes nothing.
use Rattle.std.specs.Prelude.{Option, None, Some}
use Prim.Native.Nat.{ℕ, ◌^◌, ◌≤◌, ◌<◌}
use native.Mathlib.Nat.{zero-add}
use native.Mathlib.Omega.{arith}
use mathlib.Core.List.{List, [], ◌∷◌, ◌++◌}
use mathlib.Core.Path.{◌≡◌, refl, sym, ap, ◌∙◌}
use lib.ListN.{length, drop, length-append}
use lib.Seq.{sets-eq}
use Rattle.refusals.specs.Call.{left_of}
use Rattle.refusals.proofs.Calls.{left_taken}
use Rattle.decimals.specs.Decimal.{decimal}
use Rattle.decimals.proofs.Digits.{decimal_20}
use Rattle.rows.specs.declared.Word.{Word}
use Rattle.rows.specs.declared.Word.TheVariants.{Early, Live, Frozen, Undecided, Resting}
use Rattle.rows.specs.Ascii.{ascii}
use Rattle.rows.specs.Row.{comma, line_end, field_text, score_text, word_text, row_text, refused_text, head_text}
use Rattle.rows.specs.Calls.{line_most, line_call}
use Rattle.rows.proofs.Writing.{line_fits}

-- the score, where there is one, is below a number
abbrev pub ScoreBelow : ℕ → Option ℕ → Type 0
ScoreBelow bound None = Unit {0}
ScoreBelow bound (Some score) = score < bound

field_fits : (n : ℕ) → n < 2 ^ 64 → length (field_text n) ≤ 21
unfolding field_text
field_fits n h = omega (arith, length-append (decimal n) (comma ∷ []), decimal_20 n h)

score_fits : (score : Option ℕ) → ScoreBelow (2 ^ 64) score → length (score_text score) ≤ 21
unfolding score_text
score_fits None h = omega arith
score_fits (Some score) h = field_fits score h

word_fits : (word : Word) → length (word_text word) ≤ 11
unfolding word_text
word_fits Early = omega arith
word_fits Live = omega arith
word_fits Frozen = omega arith
word_fits Undecided = omega arith
word_fits Resting = omega arith

-- four fields of 21 bytes at most, and a last one of 11: 95
pub row_fits : (frame : ℕ) (score : Option ℕ) (kept total : ℕ) (word : Word) → frame < 2 ^ 64 → ScoreBelow (2 ^ 64) score
    → kept < 2 ^ 64 → total < 2 ^ 64 → length (row_text frame score kept total word) ≤ line_most
unfolding row_text
row_fits frame score kept total word frame_below score-below kept-below total-below =
    let last = word_text word in
    let from_total = field_text total ++ last in
    let from_kept = field_text kept ++ from_total in
    let from_score = score_text score ++ from_kept in
    omega (
      arith,
      length-append (field_text frame) from_score,
      length-append (score_text score) from_kept,
      length-append (field_text kept) from_total,
      length-append (field_text total) last,
      field_fits frame frame_below,
      score_fits score score-below,
      field_fits kept kept-below,
      field_fits total total-below,
      word_fits word,
    )

-- a field of 21 bytes at most, 8 of the word, 20 digits and 5 bytes more: 54
pub refused_fits : (frame refusal : ℕ) → frame < 2 ^ 64 → refusal < 2 ^ 64 → length (refused_text frame refusal) ≤ line_most
unfolding refused_text
refused_fits frame refusal frame_below refusal-below =
    let empty = ascii ",,," ++ line_end in
    let from_number = decimal refusal ++ empty in
    omega (
      arith,
      length-append (field_text frame) (ascii "refused " ++ from_number),
      length-append (decimal refusal) empty,
      field_fits frame frame_below,
      decimal_20 refusal refusal-below,
    )

pub head_fits : length head_text ≤ line_most
unfolding head_text
head_fits = omega arith

-- a line that is no longer stands whole at the start of the buffer, and the bytes behind it are the old ones
pub line_whole : (out text : List ℕ) → line_most ≤ length out → length text ≤ line_most → left_of (line_call out text) ≡ text ++ drop (length text) out
unfolding line_call
line_whole out text room fits =
    sym (left_taken (line_call out text) (line_fits out text room) refl)
    ∙ sets-eq text out 0 (omega arith)
    ∙ ap (λ (k : ℕ). text ++ drop k out) (zero-add (length text))
