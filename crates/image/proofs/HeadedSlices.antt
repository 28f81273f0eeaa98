-- A header is read off a slice exactly where the slice starts with one that ends within the limit.
-- Assumes nothing.
use Prim.Native.Nat.{ℕ, ◌≤◌, ◌<◌}
use mathlib.Core.Bool.{false}
use mathlib.Core.List.{List, [], ◌∷◌, ◌++◌}
use mathlib.Core.Path.{◌≡◌, sym, ap, ◌∙◌}
use native.Mathlib.Omega.{arith}
use lib.ListN.{length, take, drop, take-append-drop, length-take, length-append}
use lib.Seq.{length-take-le, drop_at}
use Rattle.image.specs.Tests.{Test}
use Rattle.image.specs.Seen.{Seen, limit, visible, ahead, end_of, bytes_of, reach}
use Rattle.image.specs.Step.{found}
use Rattle.image.specs.Fields.{header_fields}
use Rattle.image.specs.Kinds.{Kind}
use Rattle.image.specs.Format.{Header}
use Rattle.image.specs.FirstFault.{Headed}
use Rattle.image.specs.Reading.{header_of}
use Rattle.image.proofs.HeaderExact.{header_sound, header_complete}
use Rattle.image.proofs.VisibleBytes.{visible_cut, visible_behind}

-- a header has bytes
header_some : {sign : ℕ} {tests : List Test} {numbers : List ℕ} (taken : List Seen) → Header sign tests numbers (bytes_of taken) → 0 < length taken
header_some [] h = let none : ◌≡◌ {A = List ℕ} [] (_ ∷ _) = h.split in cc
header_some (seen ∷ taken) h = omega arith

-- bytes of which something is seen are there
seen_some : (bytes : List ℕ) → 0 < length (visible false 0 bytes) → 0 < length bytes
unfolding visible
seen_some [] h = absurd (omega arith)
seen_some (byte ∷ bytes) h = omega arith

pub headed : (kind : Kind) (s : List ℕ) {numbers : List ℕ} {start : ℕ} {rest : List Seen} → header_of kind s ≡ found numbers start rest
    → Headed kind s numbers start
unfolding header_of ahead
headed kind s e =
    let t = header_sound (end_of s) kind.sign kind.tests (ahead s 0) e in
    let c = visible_cut (take limit s) t.taken _ (header_some t.taken t.header) t.split in
    let n = reach t.taken in
    record {
      header = take n (take limit s);
      rest = drop n (take limit s);
      split = sym (take-append-drop n (take limit s));
      head = record {
        header = rw c.front t.header;
        ends = ap reach c.front ∙ sym (length-take-le n (take limit s) c.there);
      };
      starts = t.uses ∙ sym (length-take-le n (take limit s) c.there);
    }

-- the header of a slice that has one takes a byte or more, and no more than the slice and the limit have
module _ (kind : Kind) (s numbers : List ℕ) (start : ℕ) (h : Headed kind s numbers start) where
  pub headed_some : 0 < start
  headed_some =
      let some = seen_some h.header (header_some (visible false 0 h.header) h.head.header) in
      omega (arith, h.starts)

  pub headed_within : start ≤ limit
  headed_within = omega (arith, ap length h.split, length-append h.header h.rest, length-take limit s, h.starts)

  pub headed_there : start ≤ length s
  headed_there = omega (arith, ap length h.split, length-append h.header h.rest, length-take limit s, h.starts)

  -- and it is read, with all that comes behind it still ahead
  pub headed_ahead : header_of kind s ≡ found numbers start (ahead s start)
  unfolding header_of ahead
  headed_ahead =
      let bytes = h.header in
      let seen = visible false 0 bytes in
      let some : 0 < length bytes = omega (arith, headed_some, h.starts) in
      let front : ahead s 0 ≡ seen ++ visible false (length bytes) h.rest =
      ap (visible false 0) h.split ∙ visible_behind bytes h.rest some h.head.ends in
      let back : h.rest ≡ drop start (take limit s) = sym (ap (drop start) h.split ∙ drop_at bytes h.rest start (sym h.starts)) in
      ap (header_fields (end_of s) kind.sign kind.tests) front
      ∙ header_complete (end_of s) kind.sign kind.tests seen (visible false (length bytes) h.rest) h.head.header
      ∙ λ i. found numbers ((h.head.ends ∙ sym h.starts) i) (visible false (sym h.starts i) (back i))

pub headed_read : (kind : Kind) (s : List ℕ) {numbers : List ℕ} {start : ℕ} → Headed kind s numbers start
    → (rest : List Seen) × (header_of kind s ≡ found numbers start rest)
headed_read kind s {numbers} {start} h = (ahead s start, headed_ahead kind s numbers start h)

-- so no slice has two headers
pub headed_once : (kind : Kind) (s : List ℕ) {numbers numbers' : List ℕ} {start start' : ℕ}
    → Headed kind s numbers start → Headed kind s numbers' start' → (numbers ≡ numbers') × (start ≡ start')
headed_once kind s {numbers} {numbers'} {start} {start'} one two =
    let first = headed_ahead kind s numbers start one in
    let second = headed_ahead kind s numbers' start' two in
    (cc, cc)
