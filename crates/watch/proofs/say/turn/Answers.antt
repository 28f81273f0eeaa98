-- `watch::say::turn`: it goes by the cases, and a line that has room is not refused.
-- Assumes nothing.
use Rattle.std.proofs.Common.{◌≡◌, ◌≤◌, ℕ, List, Result, Ok, length, sym, ◌∙◌, rules}
use Rattle.std.proofs.lemmas.List.Edits.{sets}
use Rattle.refusals.specs.declared.Refusal.{Refusal}
use Rattle.refusals.specs.Call.{result_of, left_of}
use Rattle.rows.specs.Calls.{line_most, line_call}
use Rattle.rows.specs.Told.{as_wrote}
use Rattle.rows.proofs.Writing.{line_given}
use Rattle.watch.proofs.say.turn.Goals as goal

-- a line into a buffer that has room for it, and the length that is taken out of its result
line_there : (out text : List ℕ) → line_most ≤ length out → (result : Result ℕ Refusal) {new : List ℕ}
    → (as_wrote result ≡ result_of (line_call out text)) × (new ≡ left_of (line_call out text)) → {wrote : ℕ} → result ≡ Ok wrote
    → (wrote ≡ length text) × (new ≡ sets out 0 text)
line_there out text room result said {wrote} taken =
    let given = line_given out text result room said in
    let same : ◌≡◌ {A = Result ℕ Refusal} (Ok wrote) (Ok (length text)) = sym taken ∙ given.0 in
    (cc, given.1)

pub unwrap-requires : goal.unwrap-requires
unwrap-requires c = rw (line_given c.args.out.now _ c.row.result c.requires c.row.ensures.told).0 (search rules)

pub unwrap-requires-in-Refused : goal.unwrap-requires-in-Refused
unwrap-requires-in-Refused c = rw (line_given c.args.out.now _ c.refused.result c.requires c.refused.ensures.told).0 (search rules)

pub returns-in-Row-clause-told : goal.returns-in-Row-clause-told
returns-in-Row-clause-told c = rw c.in-Row.is (line_there c.args.out.now _ c.requires c.row.result c.row.ensures.told c.unwrap.ensures)

pub returns-in-Refused-clause-told : goal.returns-in-Refused-clause-told
returns-in-Refused-clause-told c =
    let said = rw c.number.ensures at c.refused.ensures.told in
    rw c.in-Refused.is (line_there c.args.out.now _ c.requires c.refused.result said c.unwrap-in-Refused.ensures)
