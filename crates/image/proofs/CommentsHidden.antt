-- What is seen of bytes with comments among them: behind the first two bytes, those that are left without the comments, and no other.
-- Assumes nothing.
use Prim.Native.Nat.{ℕ, suc, ◌+◌, ◌≤◌}
use mathlib.Core.Bool.{true, false}
use mathlib.Core.List.{List, [], ◌∷◌, ◌++◌, append_assoc, append-nil}
use mathlib.Core.Path.{◌≡◌, refl, sym, ap, ◌∙◌}
use native.Mathlib.Nat.{add-zero}
use native.Mathlib.Omega.{arith}
use borrow.Author.Tests.{not-true}
use lib.ListN.{length, length-append}
use Rattle.image.specs.Bytes.{hash, line_end}
use Rattle.image.specs.Seen.{Seen, visible, bytes_of}
use Rattle.image.specs.Comments.{InLine, Comment, Without, nothing, byte, comment}
use Rattle.image.proofs.FirstByteSeen.{opens_none, hash_opens, shown_first, opened_first, hidden_first, ended_first}
use Rattle.image.proofs.SeenLists.{bytes_append, reach_from, reach_append}

-- inside of a comment, bytes of which none ends a line
pub inline_hidden : (used : ℕ) (text later : List ℕ) → InLine text
    → visible true used (text ++ later) ≡ visible true (used + length text) later
inline_hidden used [] later within = ap (λ (k : ℕ). visible true k later) (sym (add-zero used))
inline_hidden used (first ∷ text) later within =
    let at : suc used + length text ≡ used + suc (length text) = omega arith in
    hidden_first used first (text ++ later) (not-true (line_end first) within.0)
    ∙ inline_hidden (suc used) text later within.1
    ∙ ap (λ (k : ℕ). visible true k later) at

-- a `#` behind the first two bytes
pub hash_hidden : (used : ℕ) (later : List ℕ) → 2 ≤ used → visible false used (hash ∷ later) ≡ visible true (suc used) later
hash_hidden used later two = opened_first used hash later (hash_opens used two)

-- a whole comment
pub comment_hidden : (used : ℕ) (bytes later : List ℕ) → 2 ≤ used → Comment bytes
    → visible false used (bytes ++ later) ≡ visible false (used + length bytes) later
comment_hidden used bytes later two c =
    let text = c.text in
    let parted : bytes ++ later ≡ hash ∷ (text ++ (c.last ∷ later)) =
    ap (λ (l : List ℕ). l ++ later) c.split ∙ ap (λ (l : List ℕ). hash ∷ l) (append_assoc text (c.last ∷ []) later) in
    let at : suc (suc used + length text) ≡ used + length bytes = omega (arith, ap length c.split, length-append text (c.last ∷ [])) in
    ap (visible false used) parted
    ∙ hash_hidden used (text ++ (c.last ∷ later)) two
    ∙ inline_hidden (suc used) text (c.last ∷ later) c.within
    ∙ ended_first (suc used + length text) c.last later c.ends
    ∙ ap (λ (k : ℕ). visible false k later) at

-- a comment that no line end ends
pub unended_hidden : (used : ℕ) (text : List ℕ) → 2 ≤ used → InLine text → visible false used (hash ∷ text) ≡ []
unfolding visible
unended_hidden used text two within =
    hash_hidden used text two
    ∙ ap (visible true (suc used)) (sym (append-nil text))
    ∙ inline_hidden (suc used) text [] within

-- a byte that is no `#` is seen
pub other_seen : (used first : ℕ) (later : List ℕ) → (first ≡ hash → ⊥)
    → visible false used (first ∷ later) ≡ record { byte = first; upto = suc used } ∷ visible false (suc used) later
other_seen used first later other = shown_first used first later (opens_none used first (λ two. other))

-- of bytes with comments among them: what is left of them is seen, and then what comes behind them
record Shown (used : ℕ) (bytes left : List ℕ) : Type 0 where
  front : List Seen
  front_is : bytes_of front ≡ left
  then : (later : List ℕ) → visible false used (bytes ++ later) ≡ front ++ visible false (used + length bytes) later

shown : (used : ℕ) (bytes left : List ℕ) → 2 ≤ used → Without bytes left → Shown used bytes left
shown used _ _ two nothing =
    record { front = []; front_is = refl; then = λ later. ap (λ (k : ℕ). visible false k later) (sym (add-zero used)) }
shown used _ _ two (byte first later left other w) =
    let p = shown (suc used) later left (omega arith) w in
    let at : suc used + length later ≡ used + suc (length later) = omega arith in
    let own : Seen = record { byte = first; upto = suc used } in
    record {
      front = own ∷ p.front;
      front_is = ap (λ (l : List ℕ). first ∷ l) p.front_is;
      then = λ behind.
          other_seen used first (later ++ behind) other
          ∙ ap (λ (l : List Seen). own ∷ l) (p.then behind)
          ∙ ap (λ (k : ℕ). (own ∷ p.front) ++ visible false k behind) at;
    }
shown used _ _ two (comment bytes later left c w) =
    let p = shown (used + length bytes) later left (omega arith) w in
    let at : used + length bytes + length later ≡ used + length (bytes ++ later) = omega (arith, length-append bytes later) in
    record {
      front = p.front;
      front_is = p.front_is;
      then = λ behind.
          ap (visible false used) (append_assoc bytes later behind)
          ∙ comment_hidden used bytes (later ++ behind) two c
          ∙ p.then behind
          ∙ ap (λ (k : ℕ). p.front ++ visible false k behind) at;
    }

pub without_seen : (used : ℕ) (bytes left later : List ℕ) → 2 ≤ used → Without bytes left
    → bytes_of (visible false used (bytes ++ later)) ≡ left ++ bytes_of (visible false (used + length bytes) later)
without_seen used bytes left later two w =
    let p = shown used bytes left two w in
    let behind = visible false (used + length bytes) later in
    ap bytes_of (p.then later) ∙ bytes_append p.front behind ∙ ap (λ (l : List ℕ). l ++ bytes_of behind) p.front_is

-- what comes behind them may not be seen at all
pub without_unseen : (used : ℕ) (bytes left later : List ℕ) → 2 ≤ used → Without bytes left → visible false (used + length bytes) later ≡ []
    → visible false used (bytes ++ later) ≡ visible false used bytes
unfolding visible
without_unseen used bytes left later two w none =
    let p = shown used bytes left two w in
    p.then later ∙ ap (λ (l : List Seen). p.front ++ l) none ∙ sym (p.then []) ∙ ap (visible false used) (append-nil bytes)

-- the end of a header: behind such bytes one that is no `#`, which is seen, and with which all of them are used
module _ (used : ℕ) (bytes left : List ℕ) (last : ℕ) (two : 2 ≤ used) (w : Without bytes left) (other : last ≡ hash → ⊥) where
  abbrev own : Seen
  own = record { byte = last; upto = suc (used + length bytes) }

  last_seen : visible false (used + length bytes) (last ∷ []) ≡ own ∷ []
  unfolding visible
  last_seen = other_seen (used + length bytes) last [] other

  pub end_seen : bytes_of (visible false used (bytes ++ (last ∷ []))) ≡ left ++ (last ∷ [])
  end_seen = without_seen used bytes left (last ∷ []) two w ∙ ap (λ (l : List Seen). left ++ bytes_of l) last_seen

  pub end_reached_from : (start : ℕ) → reach_from start (visible false used (bytes ++ (last ∷ []))) ≡ used + length bytes + 1
  end_reached_from start =
      let p = shown used bytes left two w in
      let next : suc (used + length bytes) ≡ used + length bytes + 1 = omega arith in
      ap (reach_from start) (p.then (last ∷ []) ∙ ap (λ (l : List Seen). p.front ++ l) last_seen)
      ∙ reach_append start p.front (own ∷ [])
      ∙ next

-- the first two bytes of all are seen, whatever they are
pub first_two_seen : (first second : ℕ) (behind : List ℕ)
    → visible false 0 (first ∷ second ∷ behind)
    ≡ record { byte = first; upto = 1 } ∷ record { byte = second; upto = 2 } ∷ visible false 2 behind
first_two_seen first second behind =
    shown_first 0 first (second ∷ behind) (opens_none 0 first (λ two. absurd (omega arith)))
    ∙ ap (λ (l : List Seen). record { byte = first; upto = 1 } ∷ l) (shown_first 1 second behind (opens_none 1 second (λ two. absurd (omega arith))))
