-- Where the program's loop begins: as a run of watch does, with the first line due.
-- Assumes nothing.
use Prim.Native.Nat.{ℕ, ◌≤◌}
use mathlib.Core.List.{List, [], ◌++◌}
use mathlib.Core.Path.{◌≡◌, sym, ap, subst, ◌∙◌}
use native.Mathlib.Omega.{arith}
use lib.ListN.{length, take, drop, length-append}
use lib.Seq.{take-append_seam}
use Rattle.std.specs.Prelude.{Result, Ok}
use Rattle.refusals.specs.declared.Refusal.{Refusal}
use Rattle.refusals.specs.Call.{result_of, left_of}
use Rattle.rows.specs.Told.{as_wrote}
use Rattle.rows.specs.Row.{head_text}
use Rattle.rows.specs.Calls.{line_most, line_call}
use Rattle.rows.proofs.Writing.{line_given}
use Rattle.rows.proofs.RowsFitTheirBuffer.{head_fits, line_whole}
use Rattle.watch.specs.Output.{begins, first_state, first_ring}
use Rattle.frozen.specs.declared.desk.Desk.{Desk}
use Rattle.frozen.specs.Running.{Standing, Due, first}

-- AT THE BEGINNING the first line is written, and nothing is read
pub stands_first : (desk : Desk) (ring buf : List ℕ) → desk ≡ record { state = first_state; from = 0; at = 0; end = 0 } → ring ≡ first_ring
    → Standing desk ring buf
stands_first desk ring buf places bytes =
    subst (λ (d : Desk). Standing d ring buf) (sym places)
    (subst (λ (r : List ℕ). Standing (record { state = first_state; from = 0; at = 0; end = 0 }) r buf) (sym bytes)
    (record { consumed = []; written = head_text; along = record { lines = []; run = λ unread. begins } }))

-- the first line is at the start of the buffer
pub first_due : (out : List ℕ) → line_most ≤ length out → (result : Result ℕ Refusal) {out_after : List ℕ}
    → (as_wrote result ≡ result_of (line_call out head_text)) × (out_after ≡ left_of (line_call out head_text))
    → {wrote : ℕ} → result ≡ Ok wrote → (wrote ≤ length out_after) × Due (take wrote out_after)
first_due out room result {out_after} said {wrote} is =
    let given : ◌≡◌ {A = Result ℕ Refusal} (Ok wrote) (Ok (length head_text)) = sym is ∙ (line_given out head_text result room said).0 in
    let many : wrote ≡ length head_text = cc in
    let bytes : out_after ≡ head_text ++ drop (length head_text) out = said.1 ∙ line_whole out head_text room head_fits in
    let long = ap (λ (l : List ℕ). length l) bytes ∙ length-append head_text (drop (length head_text) out) in (
      omega (arith, many, long),
      first
          (ap (λ (k : ℕ). take k out_after) many
          ∙ ap (λ (l : List ℕ). take (length head_text) l) bytes
          ∙ take-append_seam head_text (drop (length head_text) out)),
    )
