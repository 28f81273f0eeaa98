-- Any bytes are bytes with whole comments among them, and behind these nothing or a comment that has begun; and what is seen of them is what
-- is left without these.
-- Assumes nothing.
use Prim.Native.Nat.{ℕ, ◌+◌, ◌≤◌}
use mathlib.Core.Bool.{Bool, true, false, not}
use mathlib.Core.List.{List, [], ◌∷◌, ◌++◌, append_assoc, append-nil}
use mathlib.Core.Logic.{◌⊎◌, inl, inr}
use mathlib.Core.Path.{◌≡◌, refl, sym, ap, ◌∙◌}
use native.Mathlib.Omega.{arith}
use borrow.Author.Tests.{eqb-true, eqb-false}
use lib.Dec.{eqb}
use lib.ListN.{length}
use Rattle.image.specs.Bytes.{hash, line_end}
use Rattle.image.specs.Seen.{Seen, visible, bytes_of}
use Rattle.image.specs.Comments.{InLine, Comment, nothing, byte, comment}
use Rattle.image.specs.Promised.{Unended, CommentParts}
use Rattle.image.proofs.CommentsHidden.{unended_hidden, without_seen}

-- bytes inside of a comment, up to the line end that ends it and with those behind it
record Ended (all : List ℕ) : Type 0 where
  text : List ℕ
  last : ℕ
  rest : List ℕ
  split : all ≡ text ++ (last ∷ rest)
  within : InLine text
  ends : line_end last ≡ true
  behind : CommentParts rest

-- by where one stands: outside of comments, or inside of one, which may not end
abbrev PartsFrom : (inside : Bool) → List ℕ → Type 0
PartsFrom false all = CommentParts all
PartsFrom true all = InLine all ⊎ Ended all

-- one byte more before such bytes, which is no `#` …
byte_before : (first : ℕ) (later : List ℕ) → (first ≡ hash → ⊥) → CommentParts later → CommentParts (first ∷ later)
byte_before first later other p =
    record {
      bytes = first ∷ p.bytes;
      tail = p.tail;
      left = first ∷ p.left;
      split = ap (λ (l : List ℕ). first ∷ l) p.split;
      without = byte first p.bytes p.left other p.without;
      unended = p.unended;
    }

-- … or one that opens a comment
hash_before : (later : List ℕ) → InLine later ⊎ Ended later → CommentParts (hash ∷ later)
hash_before later (inl within) =
    record {
      bytes = [];
      tail = hash ∷ later;
      left = [];
      split = refl;
      without = nothing;
      unended = inr record { text = later; split = refl; within = within };
    }
hash_before later (inr e) =
    let p = e.behind in
    let own = hash ∷ (e.text ++ (e.last ∷ [])) in
    let whole : Comment own = record { text = e.text; last = e.last; split = refl; within = e.within; ends = e.ends } in
    let behind : e.text ++ (e.last ∷ e.rest) ≡ e.text ++ (e.last ∷ []) ++ (p.bytes ++ p.tail) =
    ap (λ (l : List ℕ). e.text ++ (e.last ∷ l)) p.split ∙ sym (append_assoc e.text (e.last ∷ []) (p.bytes ++ p.tail)) in
    record {
      bytes = own ++ p.bytes;
      tail = p.tail;
      left = p.left;
      split = ap (λ (l : List ℕ). hash ∷ l) (e.split ∙ behind) ∙ sym (append_assoc own p.bytes p.tail);
      without = comment own p.bytes p.left whole p.without;
      unended = p.unended;
    }

-- inside of a comment: one byte more that ends no line, or one that does
inside_before : (first : ℕ) (later : List ℕ) → line_end first ≡ false → InLine later ⊎ Ended later → InLine (first ∷ later) ⊎ Ended (first ∷ later)
inside_before first later goes_on (inl within) = inl (ap not goes_on, within)
inside_before first later goes_on (inr e) =
    inr
    record {
      text = first ∷ e.text;
      last = e.last;
      rest = e.rest;
      split = ap (λ (l : List ℕ). first ∷ l) e.split;
      within = (ap not goes_on, e.within);
      ends = e.ends;
      behind = e.behind;
    }

end_before_lem : (first : ℕ) (later : List ℕ) → line_end first ≡ true → CommentParts later → Ended (first ∷ later)
end_before_lem first later ends p =
    record { text = []; last = first; rest = later; split = refl; within = tt; ends = ends; behind = p }

parts_from : (inside : Bool) (all : List ℕ) → PartsFrom inside all
parts_from false [] = record { bytes = []; tail = []; left = []; split = refl; without = nothing; unended = inl refl }
parts_from true [] = inl tt
parts_from false (first ∷ later) = by (eqb first hash) refl (parts_from false later) (parts_from true later)
  where
    by : (b : Bool) → eqb first hash ≡ b → CommentParts later → InLine later ⊎ Ended later → CommentParts (first ∷ later)
    by true e outside inside = rw (eqb-true first hash e) (hash_before later inside)
    by false e outside inside = byte_before first later (eqb-false first hash e) outside
parts_from true (first ∷ later) = by (line_end first) refl (parts_from false later) (parts_from true later)
  where
    by : (b : Bool) → line_end first ≡ b → CommentParts later → InLine later ⊎ Ended later → InLine (first ∷ later) ⊎ Ended (first ∷ later)
    by true e outside inside = inr (end_before_lem first later e outside)
    by false e outside inside = inside_before first later e inside

pub comment_parts : (all : List ℕ) → CommentParts all
comment_parts all = parts_from false all

module _ (used : ℕ) (two : 2 ≤ used) where
  tail_hidden : (tail : List ℕ) → (tail ≡ []) ⊎ Unended tail → visible false used tail ≡ []
  unfolding visible
  tail_hidden tail (inl none) = ap (visible false used) none
  tail_hidden tail (inr u) = ap (visible false used) u.split ∙ unended_hidden used u.text two u.within

-- behind the first two bytes, what is left is seen
pub parts_seen : (used : ℕ) (all : List ℕ) → 2 ≤ used → (p : CommentParts all) → bytes_of (visible false used all) ≡ p.left
parts_seen used all two p =
    let hidden = tail_hidden (used + length p.bytes) (omega arith) p.tail p.unended in
    ap (λ (l : List ℕ). bytes_of (visible false used l)) p.split
    ∙ without_seen used p.bytes p.left p.tail two p.without
    ∙ ap (λ (l : List Seen). p.left ++ bytes_of l) hidden
    ∙ append-nil p.left
