-- Texts written one after the other are one text; what becomes of a line by the length of the buffer.
-- Assumes nothing.
use Rattle.std.proofs.Common.{◌≡◌, ℕ, suc, ◌+◌, ◌≤◌, ◌<◌, List, [], ◌∷◌, ◌++◌, Result, Err, Ok, length, take, drop, refl, sym, ap, ◌∙◌, arith, length-append, add-zero, add-suc, suc-add, append_assoc}
use Rattle.std.proofs.lemmas.List.Edits.{sets, sets-eq}
use Rattle.std.proofs.Math.Seq.{drop-drop, length-sets}
use Rattle.std.proofs.Math.ListN.{set}
use borrow.Rule.Slice.PartMut.{put_mid}
use borrow.Author.Tests.{lt-ltb, le-ltb}
use Rattle.refusals.specs.declared.Refusal.{Refusal}
use Rattle.refusals.specs.declared.Refusal.TheVariants.{BufferTooShort}
use Rattle.refusals.proofs.Numbers.{number_not_0}
use Rattle.refusals.specs.Numbers.{buffer_too_short}
use Rattle.refusals.specs.Call.{refusal_of, result_of, left_of}
use Rattle.refusals.proofs.Calls.{result_taken, left_taken, result_refused, left_refused, asks_leaves}
use Rattle.rows.specs.Appended.{Appended}
use Rattle.rows.specs.declared.put.Line.{Line}
use Rattle.rows.specs.Answers.{Wrote}
use Rattle.rows.specs.Calls.{line_most, line_call}
use Rattle.rows.specs.Told.{as_wrote}

pub sets_append : (l : List ℕ) (a : ℕ) (vs ws : List ℕ) → sets l a (vs ++ ws) ≡ sets (sets l a vs) (a + length vs) ws
sets_append l a [] ws = ap (λ (k : ℕ). sets l k ws) (sym (add-zero a))
sets_append l a (v ∷ vs) ws =
    sets_append (set l a v) (suc a) vs ws
    ∙ ap (λ (k : ℕ). sets (sets (set l a v) (suc a) vs) k ws) (suc-add a (length vs) ∙ sym (add-suc a (length vs)))

-- a part of the buffer that a text is copied to
pub put_text : (out text : List ℕ) (at k : ℕ) → k ≡ length text → at + length text ≤ length out → put_mid at k out text ≡ sets out at text
put_text out text at k e h =
    ap (λ (l : List ℕ). take at out ++ (text ++ l)) (drop-drop k at out ∙ ap (λ (n : ℕ). drop (at + n) out) e)
    ∙ sym (append_assoc (take at out) text (drop (at + length text) out))
    ∙ sym (sets-eq text out at h)

-- a text that is copied behind what is written
pub text_written : {old new : Line} (text part : List ℕ) (k : ℕ) → part ≡ text → k ≡ length text → old.at + length text ≤ length old.out.now
    → new.out.ghost_name ≡ old.out.ghost_name → new.out.now ≡ put_mid old.at k old.out.now part → new.at ≡ old.at + length text
    → Appended old text new
text_written {old} {new} text part k same_part e h same put moved =
    let bytes : new.out.now ≡ sets old.out.now old.at text =
    put ∙ ap (λ (l : List ℕ). put_mid old.at k old.out.now l) same_part ∙ put_text old.out.now text old.at k e h in
    record { same = same; bytes = bytes; long = ap (λ (l : List ℕ). length l) bytes ∙ length-sets old.out.now old.at text; moved = moved }

-- a text and then another
pub appended_then : {old mid new : Line} (first second : List ℕ) → Appended old first mid → Appended mid second new → Appended old (first ++ second) new
appended_then {old} {mid} {new} first second a b =
    record {
      same = b.same ∙ a.same;
      bytes =
          b.bytes
          ∙ ap (λ (l : List ℕ). sets l mid.at second) a.bytes
          ∙ ap (λ (k : ℕ). sets (sets old.out.now old.at first) k second) a.moved
          ∙ sym (sets_append old.out.now old.at first second);
      long = b.long ∙ a.long;
      moved = omega (arith, a.moved, b.moved, length-append first second);
    }

-- a line: what the length of the buffer makes of it
module _ (out text : List ℕ) where
  pub line_short : length out < line_most → buffer_too_short ≡ refusal_of (line_call out text)
  unfolding line_call
  line_short h = rw (lt-ltb (length out) line_most h)

  pub line_fits : line_most ≤ length out → 0 ≡ refusal_of (line_call out text)
  unfolding line_call
  line_fits h = rw (le-ltb (length out) line_most h)

  pub line_refused : length out < line_most → (as_wrote (Err BufferTooShort) ≡ result_of (line_call out text)) × (out ≡ left_of (line_call out text))
  unfolding line_call
  line_refused h =
      (result_refused (line_call out text) (line_short h) (λ z. omega arith), left_refused (line_call out text) (line_short h) (λ z. omega arith))

  pub line_written : {start line : Line} {new : List ℕ} → line_most ≤ length out → start.out.now ≡ out → start.at ≡ 0 → Appended start text line
      → new ≡ line.out.now → (as_wrote (Ok line.at) ≡ result_of (line_call out text)) × (new ≡ left_of (line_call out text))
  unfolding line_call
  line_written {start} {line} {new} h lent begins written after =
      let moved : line.at ≡ length text = omega (arith, written.moved) in
      let bytes : new ≡ sets out 0 text =
      after ∙ written.bytes ∙ ap (λ (l : List ℕ). sets l start.at text) lent ∙ ap (λ (k : ℕ). sets out k text) begins in (
        ap (λ (n : ℕ). record { refusal = 0; length = n }) moved ∙ result_taken (line_call out text) (line_fits h) refl,
        bytes ∙ left_taken (line_call out text) (line_fits h) refl,
      )

  -- so a caller with room for a line has its length, and the line at the start of the buffer
  pub line_given : (result : Result ℕ Refusal) {new : List ℕ} → line_most ≤ length out
      → (as_wrote result ≡ result_of (line_call out text)) × (new ≡ left_of (line_call out text))
      → (result ≡ Ok (length text)) × (new ≡ sets out 0 text)
  unfolding line_call
  line_given result h said =
      (by result (said.0 ∙ sym (result_taken (line_call out text) (line_fits h) refl)), said.1 ∙ sym (left_taken (line_call out text) (line_fits h) refl))
    where
      by : (result : Result ℕ Refusal) → as_wrote result ≡ record { refusal = 0; length = length text } → result ≡ Ok (length text)
      by (Ok n) e = ap (λ (w : Wrote). Ok w.length) e
      by (Err refusal) e = absurd (number_not_0 refusal (ap (λ (w : Wrote). w.refusal) e))

-- nothing to write leaves the buffer as it is
pub line_empty : (out : List ℕ) → out ≡ left_of (line_call out [])
unfolding line_call
line_empty out = asks_leaves (line_call out []) refl
