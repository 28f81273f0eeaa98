-- `frozen::run`: with the ring that it is lent the book opens as a run of watch begins, and the first line is written.
-- Assumes nothing.
use Rattle.std.proofs.Common.{◌≡◌, ◌≤◌, ℕ, List, Result, Ok, length, sym, ap, ◌∙◌, arith, rules}
use Rattle.refusals.specs.declared.Refusal.{Refusal}
use Rattle.refusals.specs.Call.{result_of, left_of}
use Rattle.rows.specs.Calls.{line_most}
use Rattle.rows.specs.Row.{head_text}
use Rattle.rows.proofs.Writing.{line_given}
use Rattle.watch.specs.Calls.{start_call}
use Rattle.watch.specs.Output.{first_state}
use Rattle.watch.specs.declared.State.{State}
use Rattle.watch.proofs.RowsAreTrue.{start_given}
use Rattle.frozen.proofs.LoopBegins.{stands_first, first_due}
use Rattle.frozen.proofs.run.Goals as goal

pub unwrap-state-requires : goal.unwrap-state-requires
unwrap-state-requires g c =
    let started = c.start.ensures.0 ∙ ap (λ (l : List ℕ). result_of (start_call l)) c.requires in
    rw (start_given c.start.result started) (search rules)

pub unwrap-length-requires : goal.unwrap-length-requires
unwrap-length-requires g c =
    let room : line_most ≤ length c.args.out.now = omega arith in
    rw (line_given c.args.out.now head_text c.head.result room c.head.ensures.told).0 (search rules)

pub send-requires : goal.send-requires
send-requires g c =
    (first_due c.args.out.now (omega arith) c.head.result c.head.ensures.told c.unwrap-length.ensures).1

pub rounds-requires : goal.rounds-requires
rounds-requires g c =
    let started = c.start.ensures.0 ∙ ap (λ (l : List ℕ). result_of (start_call l)) c.requires in
    let given : ◌≡◌ {A = Result State Refusal} (Ok c.unwrap-state.result) (Ok first_state) =
    sym c.unwrap-state.ensures ∙ start_given c.start.result started in
    let state : c.unwrap-state.result ≡ first_state = cc in
    let ring = c.start.ensures.1 ∙ ap (λ (l : List ℕ). left_of (start_call l)) c.requires in (
      stands_first (record { state = c.unwrap-state.result; from = 0; at = 0; end = 0 }) c.start.new.ring c.args.buf.now
          (λ i. record { state = state i; from = 0; at = 0; end = 0 }) ring,
      record { starts = omega arith; order = omega arith; there = omega arith; image = omega arith },
      omega arith,
    )
