-- How the definitions that the contracts cite answer a question: for each call its result, or its refusal where that is not 0.
use Rattle.std.specs.Prelude.{ℕ, List}
use Rattle.refusals.specs.Call.{by_refusal, result_of, left_of}
use Rattle.book.specs.declared.Book.{Book}
use Rattle.book.specs.Answers.{Ruling}
use Rattle.book.specs.Answers.{Told, Refused}
use Rattle.book.specs.Shape.{shape_call}
use Rattle.book.specs.Calls.{open_call, add_call, total_call, how_far_call, verdict_call}
use Rattle.trend.specs.Trend.{trend_call}
use Rattle.demands.specs.History.{true_total}
use Rattle.demands.specs.TrendMeans.{true_trend}
use Rattle.cases.specs.History.{Start, L◌n◌D◌lent◌, History, start_of, start_over, State, state_of, state_over}
use Rattle.cases.specs.Question.{Question, shape, opening, state, adding, total, truly, how_far, verdict, trend, truly_trend, ◌over◌}
use Rattle.cases.specs.Question.{Answer, c◌s◌z◌b◌B◌, opens, R◌p◌kept◌head◌ring◌, figure, true, window, told, signed, truly_signed, refused}

abbrev shape_answer : Start → Answer
shape_answer (L bound n length D tolerance lent bytes) =
    let r = result_of (shape_call bound length tolerance) in
    let of = r.shape in
    by_refusal r.refusal (c of.block s of.slots z of.largest b of.width B of.bytes) refused

abbrev open_answer : Start → Answer
open_answer (L bound n length D tolerance lent bytes) =
    by_refusal (result_of (open_call bound length tolerance bytes)).refusal opens refused

abbrev state_answer : Book → List ℕ → Answer
state_answer book bytes = R book.carry p book.phase kept book.kept head book.head ring bytes

abbrev add_answer : State → ℕ → Answer
add_answer left item =
    let call = add_call left.book left.ring item in
    by_refusal (result_of call).refusal (state_answer (result_of call).book (left_of call)) refused

abbrev total_answer : State → ℕ → Answer
total_answer left asked =
    let r = result_of (total_call left.book left.ring asked) in
    by_refusal r.refusal (figure r.figure) refused

abbrev how_far_answer : State → ℕ → Answer
how_far_answer left amount =
    let r = result_of (how_far_call left.book left.ring amount) in
    by_refusal r.refusal (window r.window) refused

abbrev ruling_answer : Ruling → Answer
ruling_answer (Told notice) = told notice.verdict
ruling_answer (Refused number) = refused number

abbrev verdict_answer : State → ℕ → ℕ → Answer
verdict_answer left asked amount = ruling_answer (result_of (verdict_call left.book left.ring asked amount))

abbrev trend_answer : State → ℕ → Answer
trend_answer left asked =
    let r = result_of (trend_call left.book left.ring asked) in
    by_refusal r.refusal (signed r.trend) refused

-- the answer by how the book was opened and what the history left
abbrev answer_by : Start → State → Question → Answer
answer_by start left shape = shape_answer start
answer_by start left opening = open_answer start
answer_by start left state = state_answer left.book left.ring
answer_by start left (adding item) = add_answer left item
answer_by start left (total asked) = total_answer left asked
answer_by start left (truly asked) = true (true_total asked left.accepted)
answer_by start left (how_far amount) = how_far_answer left amount
answer_by start left (verdict asked amount) = verdict_answer left asked amount
answer_by start left (trend asked) = trend_answer left asked
answer_by start left (truly_trend asked) = truly_signed (true_trend asked left.accepted)
answer_by start left (question over another) = answer_by (start_over start another) (state_over left another) question

abbrev pub answer_to : History → Question → Answer
answer_to history question = answer_by (start_of history) (state_of history) question
