-- `frozen::round::turn` is the step of watch over the desk.
-- Assumes nothing.
use Rattle.std.proofs.Common.{◌≡◌, ℕ, ◌+◌, ◌≤◌, ◌<◌, ◌^◌, length, arith, w64, Fits}
use Rattle.std.specs.Prelude.{Result, Ok, IfOk}
use Rattle.refusals.specs.declared.Refusal.{Refusal}
use Rattle.rows.specs.Calls.{line_most}
use Rattle.watch.specs.declared.Stepped.{Stepped}
use Rattle.frozen.proofs.OneTurn.{step_ok, turn_there, turn_tells}
use Rattle.frozen.proofs.round.turn.Goals as goal

-- a row that the buffer has room for ends at a machine number
sum_fits : (full wrote size : ℕ) → wrote ≤ line_most → full + line_most ≤ size → size < 2 ^ 64 → Fits w64 (full + wrote)
sum_fits full wrote size most room small = omega arith

pub unwrap-stepped-requires : goal.unwrap-stepped-requires
unwrap-stepped-requires c = let a = c.args in
    step_ok a.desk a.ring.now a.buf.now a.out.now a.over a.full c.requires.1 c.step.result c.step.ensures.told.0

-- the row takes no more than the line that there is room for
row_most : {result : Result Stepped Refusal} {stepped : Stepped} → IfOk result (λ s. s.wrote ≤ line_most) → result ≡ Ok stepped → stepped.wrote ≤ line_most
row_most room is = rw is at room

pub overflow_add-full : goal.overflow_add-full
overflow_add-full c = let a = c.args in
    let most = row_most c.step.ensures.room c.unwrap-stepped.ensures in
    sum_fits a.full c.unwrap-stepped.result.wrote (length a.out.now) most c.requires.1 (omega arith)

pub after-requires : goal.after-requires
after-requires c = let a = c.args in
    let u = c.unwrap-stepped in
    let most = row_most c.step.ensures.room u.ensures in
    turn_there a.desk a.ring.now a.buf.now a.out.now a.over a.full c.requires.1 c.step.result c.step.ensures.told.0 u.result u.ensures most c.requires.0

pub returns : goal.returns
returns c = let a = c.args in
    let s = c.step in
    let u = c.unwrap-stepped in
    let most = row_most s.ensures.room u.ensures in
    turn_tells a.desk a.ring.now a.buf.now a.out.now a.over a.full c.requires.1 s.result s.ensures.told.0 u.result u.ensures most s.new.ring s.new.out
    s.ensures.told.1 c.after.result c.after.ensures
