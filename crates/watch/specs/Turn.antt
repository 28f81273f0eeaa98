-- What a frame leads to (SCOPE, Program), in the program's setting (specs/Setting.antt).
use Rattle.std.specs.Prelude.{Option, None, Some, ℕ, ◌+◌, min, Bool, not, cond, ◌&&◌, ◌||◌, List, eqb, length, take}
use Rattle.refusals.specs.Numbers.{ends_too_early}
use Rattle.refusals.specs.First.{unless_refused}
use Rattle.refusals.specs.Call.{result_of, left_of}
use Rattle.book.specs.declared.verdicts.Verdict.{Verdict}
use Rattle.book.specs.declared.verdicts.Verdict.TheVariants.{Live, Frozen, Undecided, Resting}
use Rattle.book.specs.Answers.{Ruling, Told}
use Rattle.book.specs.Answers as rulings
use Rattle.book.specs.Calls.{add_call, total_call, verdict_call}
use Rattle.image.specs.Reading.{numbers_of}
use Rattle.score.specs.Calls.{score_call}
use Rattle.rows.specs.declared.Word.{Word}
use Rattle.rows.specs.declared.Word.TheVariants as words
use Rattle.watch.specs.Answers.{Turn, Row, Refused, Ends, Wait}
use Rattle.watch.specs.declared.State.{State}
use Rattle.watch.specs.Setting as setting

-- the verdict's word …
abbrev pub verdict_word : Verdict → Word
verdict_word (Live figure) = words.Live
verdict_word (Frozen figure) = words.Frozen
verdict_word (Undecided figure) = words.Undecided
verdict_word (Resting figure) = words.Resting

-- … and `early` where it is refused
abbrev pub word_of : Ruling → Word
word_of (Told notice) = verdict_word notice.verdict
word_of (rulings.Refused refusal) = words.Early

-- the number of the next frame; a number of 64 bits ends at its largest
abbrev pub frame_after : ℕ → ℕ
frame_after frames = min 18446744073709551615 (frames + 1)

-- the row that a frame's state and score lead to: the figure for the window kept, and the verdict of the setting
unfoldable pub shown_of : State → List ℕ → Option ℕ → ℕ → Turn
shown_of state ring score used =
    let book = state.book in
    let total = result_of (total_call book ring book.kept) in
    unless_refused total.refusal
    (Row
    (record {
      state = record { book = book; frames = frame_after state.frames };
      used = used;
      score = score;
      total = total.figure;
      word = word_of (result_of (verdict_call book ring setting.window setting.amount));
    }))
    (Refused total.refusal)

-- what the bytes at hand lead to, and the ring as it is left
pub record Outcome : Type 0 where
  pub turn : Turn
  pub ring : List ℕ

-- a refused turn leaves the ring as it was
abbrev pub refused_turn : List ℕ → ℕ → Outcome
refused_turn ring refusal = record { turn = Refused refusal; ring = ring }

-- an image after the first: its score against the image before goes into the book, and what the book then says is shown
unfoldable pub counted_of : State → List ℕ → List ℕ → List ℕ → Outcome
counted_of state ring last image =
    let score = result_of (score_call setting.bound setting.allowance last image) in
    let adding = add_call state.book ring score.value in
    let added = result_of adding in
    unless_refused score.refusal
    (unless_refused added.refusal
    (record {
      turn = shown_of (record { book = added.book; frames = state.frames }) (left_of adding) (Some score.value) (length image);
      ring = left_of adding;
    })
    (refused_turn ring added.refusal))
    (refused_turn ring score.refusal)

-- an image that is whole, or refused
unfoldable pub decided_of : State → List ℕ → List ℕ → List ℕ → Outcome
decided_of state ring last rest =
    let numbers = numbers_of rest in
    unless_refused numbers.refusal
    (cond (eqb state.frames 0)
    (record { turn = shown_of state ring None numbers.used; ring = ring })
    (counted_of state ring last (take numbers.used rest)))
    (refused_turn ring numbers.refusal)

-- more bytes are needed: there are none yet, or they end within an image
abbrev pub waits : List ℕ → Bool → Bool
waits rest over = not over && (eqb (length rest) 0 || eqb (numbers_of rest).refusal ends_too_early)

-- the bytes at hand: it waits; or the input is at its end; or the image decides
unfoldable pub outcome_of : State → List ℕ → List ℕ → List ℕ → Bool → Outcome
outcome_of state ring last rest over =
    cond (waits rest over)
    (record { turn = Wait; ring = ring })
    (cond (eqb (length rest) 0) (record { turn = Ends; ring = ring }) (decided_of state ring last rest))
