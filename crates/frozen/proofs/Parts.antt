-- A part of a list, `take k (drop a l)`: where only the bytes behind it change, where it is cut in two, and where it is moved.
-- Assumes nothing.
use Prim.Native.Nat.{ℕ, ◌+◌, ◌-◌, ◌≤◌}
use mathlib.Core.List.{List, [], ◌++◌, append_assoc, append-nil}
use mathlib.Core.Path.{◌≡◌, sym, ap, ◌∙◌}
use native.Mathlib.Omega.{arith}
use lib.ListN.{length, take, drop, take-append-drop, length-drop}
use lib.Seq.{length-take-le, take-append-le, drop-append-le, drop_at, take-add, drop-drop, sets, sets-eq, take_all, drop-length, paste}
use borrow.Rule.Slice.PartMut.{mid_of, post_of, put_mid}

-- a part of the front is the same whatever lies behind
pub part_of_front : (a k : ℕ) (front behind : List ℕ) → a + k ≤ length front → take k (drop a (front ++ behind)) ≡ take k (drop a front)
part_of_front a k front behind h =
    ap (λ (l : List ℕ). take k l) (drop-append-le a front behind (omega arith))
    ∙ take-append-le k (drop a front) behind (rw (length-drop a front) (omega arith))

part_in_front : (a k n : ℕ) (l : List ℕ) → a + k ≤ n → n ≤ length l → take k (drop a l) ≡ take k (drop a (take n l))
part_in_front a k n l h there =
    ap (λ (z : List ℕ). take k (drop a z)) (sym (take-append-drop n l))
    ∙ part_of_front a k (take n l) (drop n l) (rw (length-take-le n l there) h)

-- lists that begin alike have the same parts there
pub same_front : (a k n : ℕ) (l m : List ℕ) → a + k ≤ n → n ≤ length l → n ≤ length m → take n l ≡ take n m
    → take k (drop a l) ≡ take k (drop a m)
same_front a k n l m h thereL thereM e =
    part_in_front a k n l h thereL ∙ ap (λ (z : List ℕ). take k (drop a z)) e ∙ sym (part_in_front a k n m h thereM)

-- behind its first bytes a part is the rest of it
pub drop_take : (m n : ℕ) (l : List ℕ) → m ≤ n → n ≤ length l → drop m (take n l) ≡ take (n - m) (drop m l)
drop_take m n l h there =
    let e : m + (n - m) ≡ n = omega arith in
    ap (λ (k : ℕ). drop m (take k l)) (sym e)
    ∙ ap (λ (z : List ℕ). drop m z) (take-add m (n - m) l)
    ∙ drop_at (take m l) (take (n - m) (drop m l)) m (length-take-le m l (omega arith))

-- bytes copied to the start have the same parts as where they came from
pub part_moved : (a k n : ℕ) (buf from : List ℕ) → a + k ≤ n → n ≤ length from → take k (drop a (paste buf 0 from n)) ≡ take k (drop a from)
part_moved a k n buf from h there =
    part_of_front a k (take n from) (drop (0 + n) buf) (rw (length-take-le n from there) h) ∙ sym (part_in_front a k n from h there)

-- a part that reaches to the end is lent, stored to at its start, and put back
pub put_sets : (out text : List ℕ) (at : ℕ) → at + length text ≤ length out
    → put_mid at (length out - at) out (sets (mid_of at (length out - at) out) 0 text) ≡ sets out at text
put_sets out text at h =
    let k : ℕ = length out - at in
    let long : length (drop at out) ≡ k = length-drop at out in
    let part : mid_of at k out ≡ drop at out = take_all k (drop at out) (omega arith) in
    let none : post_of at k out ≡ [] = ap (λ (n : ℕ). drop n (drop at out)) (sym long) ∙ drop-length (drop at out) in
    let z : 0 + length text ≡ length text = omega arith in
    let there : 0 + length text ≤ length (drop at out) = omega arith in
    ap (λ (l : List ℕ). take at out ++ (sets (mid_of at k out) 0 text ++ l)) none
    ∙ ap (λ (l : List ℕ). take at out ++ l) (append-nil (sets (mid_of at k out) 0 text))
    ∙ ap (λ (l : List ℕ). take at out ++ sets l 0 text) part
    ∙ ap (λ (l : List ℕ). take at out ++ l) (sets-eq text (drop at out) 0 there)
    ∙ ap (λ (n : ℕ). take at out ++ (text ++ drop n (drop at out))) z
    ∙ ap (λ (l : List ℕ). take at out ++ (text ++ l)) (drop-drop (length text) at out)
    ∙ sym (append_assoc (take at out) text (drop (at + length text) out))
    ∙ sym (sets-eq text out at h)
