-- In a run the book's items are the scores that the rows print, and nothing else; so every row is true of them (promises P.1, 2.3, 3.6): its
-- kept, its total, its verdict's word, and `early` exactly while fewer than 30 items are kept (SCOPE, Program). And the book is awake, so that no
-- row says `resting`.
-- Assumes nothing.
use Rattle.std.specs.Prelude.{Option, Result, Ok, Err}
use Prim.Native.Nat.{ℕ, ◌≤◌, ◌<◌}
use native.Mathlib.Omega.{arith}
use mathlib.Core.Bool.{Bool, false}
use mathlib.Core.List.{List, [], ◌∷◌, ◌++◌}
use mathlib.Core.Logic.{◌⊎◌, ⊎_elim}
use mathlib.Core.Path.{◌≡◌, refl, sym, ap, subst, ◌∙◌}
use Rattle.refusals.specs.declared.Refusal.{Refusal}
use Rattle.refusals.specs.Numbers.{window_too_long}
use Rattle.refusals.proofs.Numbers.{number_not_0}
use Rattle.refusals.proofs.Calls.{result_number}
use Rattle.book.specs.declared.told.Updated.{Updated}
use Rattle.refusals.specs.Call.{refusal_of, result_of, left_of}
use Rattle.book.specs.declared.Book.{Book}
use Rattle.book.specs.declared.shape.Shape.{Shape}
use Rattle.book.specs.declared.verdicts.Verdict.{Verdict}
use Rattle.book.specs.declared.verdicts.Verdict.TheVariants.{Live, Frozen, Undecided, Resting}
use Rattle.book.specs.Answers as rulings
use Rattle.book.specs.Derived.{bytes_needed}
use Rattle.book.specs.Resting.{awake}
use Rattle.book.specs.Sound.{Ranges}
use Rattle.book.specs.Calls.{add_call, total_call, verdict_call}
use Rattle.book.proofs.Promises.{open_tells, open_taken, opening_awake, add_leaves_mark, box_shape, le_or_lt}
use Rattle.demands.specs.History.{Good, true_total}
use Rattle.demands.specs.Demand2.{TotalGiven}
use Rattle.demands.specs.VerdictMeans.{Says, VerdictMeans}
use Rattle.demands.specs.RunFromOpening.{FromOpening, RecordFollows}
use Rattle.demands.proofs.GoodUsable.{item_taken, verdict_5}
use Rattle.demands.proofs.Demand2.{demand_2}
use Rattle.demands.proofs.VerdictMeans.{verdict_means}
use Rattle.demands.proofs.RunFromOpening.{opening_begins, adding_goes_on, run_good, record_follows}
use Rattle.score.proofs.Promises.{score_le_bound}
use Rattle.rows.specs.declared.Word.{Word}
use Rattle.rows.specs.declared.Word.TheVariants as words
use Rattle.watch.specs.Answers.{Row, Started}
use Rattle.watch.specs.declared.State.{State}
use Rattle.watch.specs.declared.Line.{Line}
use Rattle.watch.specs.Setting as setting
use Rattle.watch.specs.Turn.{word_of, Outcome, shown_of, outcome_of}
use Rattle.watch.specs.Told.{as_started}
use Rattle.watch.specs.Calls.{opening, start_call}
use Rattle.watch.specs.Output.{no_bytes, first_state, first_ring, Moment, outcome_at, Runs, begins, reads, turns}
use Rattle.watch.specs.TrueRows.{score_in, scores_of, TrueRow}
use Rattle.watch.proofs.Starting.{start_gives, start_leaves}
use Rattle.watch.proofs.OutcomeCases.{line_of, shown_cases, score_of, counted_cases, decided_cases, outcome_cases}
use Rattle.watch.proofs.Streaming.{refused_no_row, wait_no_row, ends_no_row}

-- a book opened with the setting in the program's ring, whose items are these scores, and which is awake
abbrev pub Scores : Book → List ℕ → List ℕ → Type 0
Scores book ring scores = FromOpening setting.bound setting.length setting.tolerance no_bytes book ring scores × (book.resting ≡ awake)

module _ (book : Book) (ring scores : List ℕ) (run : Scores book ring scores) where
  pub scores_good : Good book ring scores
  scores_good = run_good setting.bound setting.length setting.tolerance no_bytes book ring scores run.0

  scores_follow : RecordFollows setting.bound setting.length setting.tolerance book scores
  scores_follow = record_follows setting.bound setting.length setting.tolerance no_bytes book ring scores run.0

  -- a score is an item that it takes …
  pub score_taken : (last image : List ℕ) → refusal_of (add_call book ring (score_of last image).value) ≡ 0
  score_taken last image =
      item_taken book ring scores scores_good (score_of last image).value
      (rw scores_follow.bound_is (score_le_bound setting.bound setting.allowance last image)) run.1

  -- … and goes on with
  score_goes_on : (last image : List ℕ) → let call = add_call book ring (score_of last image).value in
      Scores (result_of call).book (left_of call) ((score_of last image).value ∷ scores)
  score_goes_on last image =
      let item = (score_of last image).value in
      let taken = score_taken last image in (
        adding_goes_on setting.bound setting.length setting.tolerance no_bytes book ring scores run.0 item taken,
        add_leaves_mark book ring item ∙ run.1,
      )

-- A ROW goes on with the book of the scores and its own, and says what that book says
record GoesOn (scores ring : List ℕ) (line : Line) : Type 0 where
  run : Scores line.state.book ring (score_in line.score ++ scores)
  total_is : line.total ≡ (result_of (total_call line.state.book ring line.state.book.kept)).figure
  word_is : line.word ≡ word_of (result_of (verdict_call line.state.book ring setting.window setting.amount))

shown_goes_on : (state : State) (ring : List ℕ) (scored : Option ℕ) (used : ℕ) (scores : List ℕ) (line : Line)
    → Scores state.book ring (score_in scored ++ scores) → shown_of state ring scored used ≡ Row line → GoesOn scores ring line
shown_goes_on state ring scored used scores line run =
    shown_cases state ring scored used (λ t. t ≡ Row line → GoesOn scores ring line)
    (λ none e. (let same : line_of state ring scored used ≡ line = cc in
    subst (GoesOn scores ring) same (record { run = run; total_is = refl; word_is = refl })))
    (λ refused e. absurd (refused_no_row e))

row_goes_on : (state : State) (ring last rest : List ℕ) (over : Bool) (scores : List ℕ) (line : Line) → Scores state.book ring scores
    → (outcome_of state ring last rest over).turn ≡ Row line → GoesOn scores (outcome_of state ring last rest over).ring line
row_goes_on state ring last rest over scores line run =
    outcome_cases state ring last rest over Claim (λ go why e. absurd (wait_no_row e)) (λ done none e. absurd (ends_no_row e))
    (λ some whole. decided_cases state ring last rest Claim (λ refused e. absurd (refused_no_row e))
    (λ taken first. shown_goes_on _ _ _ _ scores line run)
    (λ taken later. counted_cases state ring last _ Claim (λ refused e. absurd (refused_no_row e)) (λ refused e. absurd (refused_no_row e))
    (λ scored added. shown_goes_on _ _ _ _ scores line (score_goes_on state.book ring scores run last _))))
  where
    Claim : Outcome → Type 0
    Claim outcome = outcome.turn ≡ Row line → GoesOn scores outcome.ring line

-- the program's ring is as long as its book takes, so that the book opens
opens : refusal_of (opening no_bytes) ≡ 0
opens =
    let ranges : Ranges setting.bound setting.length setting.tolerance =
    record {
      bound_low = omega arith;
      bound_high = omega arith;
      length_low = omega arith;
      length_high = omega arith;
      tolerance_low = omega arith;
      tolerance_high = omega arith;
    } in
    let takes : bytes_needed setting.bound setting.length setting.tolerance ≡ setting.ring_length = ap (λ (s : Shape). s.bytes) box_shape in
    open_taken setting.bound setting.length setting.tolerance no_bytes ranges (omega arith)

first_opened : Scores first_state.book first_ring []
first_opened =
    rw (sym (ap (λ (s : Started). s.state.book) (start_gives no_bytes)), sym (start_leaves no_bytes)) (
      opening_begins setting.bound setting.length setting.tolerance no_bytes opens,
      opening_awake setting.bound setting.length setting.tolerance no_bytes,
    )

-- so that a caller who starts with that ring is not refused
pub start_given : (result : Result State Refusal) → as_started result ≡ result_of (start_call no_bytes) → result ≡ Ok first_state
start_given result said = by result said
  where
    none : (result_of (start_call no_bytes)).refusal ≡ 0
    none =
        ap (λ (s : Started). s.refusal) (sym (start_gives no_bytes))
        ∙ result_number (λ (u : Updated). u.refusal) (opening no_bytes) (open_tells setting.bound setting.length setting.tolerance no_bytes)
        ∙ opens

    by : (result : Result State Refusal) → as_started result ≡ result_of (start_call no_bytes) → result ≡ Ok first_state
    by (Ok state) e = ap (λ (s : Started). Ok s.state) e
    by (Err refusal) e = absurd (number_not_0 refusal (ap (λ (s : Started). s.refusal) e ∙ none))

-- AT EACH MOMENT of a run the book's items are the scores of its rows, and the book is awake
pub runs_from_opening : (input : List ℕ) (moment : Moment) → Runs input moment
    → FromOpening setting.bound setting.length setting.tolerance no_bytes moment.state.book moment.ring (scores_of moment.lines)
    × (moment.state.book.resting ≡ awake)
runs_from_opening input moment begins = first_opened
runs_from_opening input moment (reads before run piece unread split) = runs_from_opening input before run
runs_from_opening input moment (turns before run line row) =
    (row_goes_on before.state before.ring before.last before.hand false (scores_of before.lines) line
    (runs_from_opening input before run) row).run

-- what the word of a verdict that is told means while the book is awake
record Means (word : Word) (scores : List ℕ) : Type 0 where
  not_early : word ≡ words.Early → ⊥
  live : word ≡ words.Live → setting.amount ≤ true_total setting.window scores
  frozen : word ≡ words.Frozen → true_total setting.window scores < setting.amount
  not_at_rest : word ≡ words.Resting → ⊥

word_means : (book : Book) (ring scores : List ℕ) → book.resting ≡ awake → VerdictMeans book ring setting.window setting.amount scores
    → Means (word_of (result_of (verdict_call book ring setting.window setting.amount))) scores
word_means book ring scores up means = by _ means.told
  where
    by : (verdict : Verdict) → Says book ring setting.window setting.amount verdict
        → Means (word_of (result_of (verdict_call book ring setting.window setting.amount))) scores
    by (Live figure) told =
        rw told
        (record {
          not_early = λ e. cc;
          live = λ e. means.live_holds figure told;
          frozen = λ e. absurd cc;
          not_at_rest = λ e. cc;
        })
    by (Frozen figure) told =
        rw told
        (record {
          not_early = λ e. cc;
          live = λ e. absurd cc;
          frozen = λ e. means.frozen_less figure told;
          not_at_rest = λ e. cc;
        })
    by (Undecided figure) told =
        rw told
        (record {
          not_early = λ e. cc;
          live = λ e. absurd cc;
          frozen = λ e. absurd cc;
          not_at_rest = λ e. cc;
        })
    by (Resting figure) told = absurd (means.resting_only figure told up)

-- WHATEVER a run has come to, of the next row
module _ (input : List ℕ) (moment : Moment) (runs : Runs input moment) (over : Bool) (line : Line)
    (row : (outcome_at moment over).turn ≡ Row line) where
  abbrev after : List ℕ
  after = (outcome_at moment over).ring

  abbrev book : Book
  book = line.state.book

  abbrev scores : List ℕ
  scores = scores_of (line ∷ moment.lines)

  next : GoesOn (scores_of moment.lines) after line
  next =
      row_goes_on moment.state moment.ring moment.last moment.hand over (scores_of moment.lines) line
      (runs_from_opening input moment runs) row

  good : Good book after scores
  good = scores_good book after scores next.run

  follows : RecordFollows setting.bound setting.length setting.tolerance book scores
  follows = scores_follow book after scores next.run

  total_given : TotalGiven book after scores book.kept
  total_given = demand_2 book after scores good book.kept (omega arith)

  -- its word, while the verdict's window is longer than kept, and from then on
  pub early_at_5 : book.kept < setting.window
      → (result_of (verdict_call book after setting.window setting.amount) ≡ rulings.Refused window_too_long) × (line.word ≡ words.Early)
  early_at_5 few =
      let refused = verdict_5 book after scores good setting.window setting.amount (omega arith) (omega arith) few in
      (refused, next.word_is ∙ ap word_of refused)

  told : setting.window ≤ book.kept → Means line.word scores
  told many =
      rw next.word_is
      (word_means book after scores next.run.1 (verdict_means book after scores good setting.window setting.amount (omega arith) (omega arith) many))

  pub early_no_more : setting.window ≤ book.kept → line.word ≡ words.Early → ⊥
  early_no_more many = (told many).not_early

  -- IT IS TRUE of the scores of the rows and its own
  pub row_is_true : TrueRow (scores_of (line ∷ moment.lines)) line
  row_is_true =
      record {
        kept = follows.kept_is;
        never_above = rw next.total_is total_given.bounds.not_above;
        short_by_less = rw (next.total_is, sym follows.tolerance_is) total_given.bounds.not_far_below;
        early_only = λ e. ⊎_elim (λ many. absurd ((told many).not_early e)) (λ few. few) enough;
        early_while = λ few. (early_at_5 few).1;
        live = λ e. ⊎_elim (λ many. (told many).live e) (λ few. absurd (let both = sym (early_at_5 few).1 ∙ e in cc)) enough;
        frozen = λ e. ⊎_elim (λ many. (told many).frozen e) (λ few. absurd (let both = sym (early_at_5 few).1 ∙ e in cc)) enough;
        never_resting = λ e. ⊎_elim (λ many. (told many).not_at_rest e) (λ few. let both = sym (early_at_5 few).1 ∙ e in cc) enough;
      }
    where
      enough : (setting.window ≤ book.kept) ⊎ (book.kept < setting.window)
      enough = le_or_lt setting.window book.kept
