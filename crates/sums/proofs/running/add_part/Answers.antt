-- `sums::running::add_part`: the book's own run takes the counts, and where they fill head's group the row takes its sum.
-- Assumes nothing.
use Rattle.std.proofs.Common.{◌≡◌, ℕ, List, length, Result, Ok, sym, ◌∙◌, arith}
use Rattle.refusals.specs.Call.{result_of}
use Rattle.book.specs.declared.Book.{Book}
use Rattle.book.specs.declared.RunRefusal.{RunRefusal}
use Rattle.book.specs.declared.shape.Shape.{Shape}
use Rattle.book.specs.RunOfCounts.{added_all}
use Rattle.book.specs.Calls.{run_call}
use Rattle.book.specs.Told.{as_ran}
use Rattle.sums.proofs.Answered.{run_ok, same_ok}
use Rattle.sums.proofs.RunTurns.{Takes, takes, end_ahead, end_within, run_adds, part_stores, part_leaves, part_front}
use Rattle.sums.proofs.running.add_part.Goals as goal

-- the book's own run gives the record with the counts
run_gave : {book : Book} {shape : Shape} {row : ℕ} (ring : List ℕ) {counts : List ℕ} (ran : Result Book RunRefusal)
    → Takes book shape (length ring) row counts → as_ran book ran ≡ result_of (run_call book ring counts) → ran ≡ Ok (added_all book counts)
run_gave {book} ring ran taking told = run_ok book ran (told ∙ (run_adds ring taking).0)

pub unwrap-added-requires : goal.unwrap-added-requires
unwrap-added-requires c = let is = run_gave c.args.ring.now c.run.result (takes c.args.known c.requires.0) c.run.ensures.0 in rw is

pub put-requires : goal.put-requires
put-requires c =
    let t = takes c.args.known c.requires.0 in
    let ahead = end_ahead t.usable.sound t.shape_is c.group_end-end.ensures in (
      omega (arith, c.requires.0.ring_room, c.run.auto.ring),
      omega (arith, ahead),
      end_within t.usable.sound t.shape_is c.group_end-end.ensures,
      c.requires.0.row_room,
      omega (arith, ahead, c.requires.2),
      part_front c.args.ring.now c.args.row.now t c.requires.1 c.requires.2 (c.run.ensures.1 ∙ (run_adds c.args.ring.now t).1) c.requires.3,
    )

pub returns-then-counts-items_left : goal.returns-then-counts-items_left
returns-then-counts-items_left c =
    let t = takes c.args.known c.requires.0 in
    let ring_is = c.run.ensures.1 ∙ (run_adds c.args.ring.now t).1 in (
      same_ok (sym c.unwrap-added.ensures ∙ run_gave c.args.ring.now c.run.result t c.run.ensures.0),
      ring_is,
      c.put.ensures
          ∙ part_stores c.args.ring.now c.args.row.now t c.requires.1 (c.if-counts-items_left.true ∙ c.items_left.ensures) c.group_end-end.ensures ring_is,
    )

pub returns-else-counts-items_left : goal.returns-else-counts-items_left
returns-else-counts-items_left c =
    let t = takes c.args.known c.requires.0 in (
      same_ok (sym c.unwrap-added.ensures ∙ run_gave c.args.ring.now c.run.result t c.run.ensures.0),
      c.run.ensures.1 ∙ (run_adds c.args.ring.now t).1,
      part_leaves c.args.ring.now c.args.row.now t c.requires.1 (λ e. c.if-counts-items_left.false (e ∙ sym c.items_left.ensures)),
    )
