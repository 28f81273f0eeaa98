-- `bits::ones::of_bytes`: the bytes of the words, and those that are left, are all of them.
use Rattle.std.proofs.Common.{◌≡◌, ◌+◌, ◌%◌, ◌^◌, sym, ap, ◌∙◌, List, ℕ, take, drop, take-append-drop}
use Rattle.std.proofs.Math.Nat.{mod-add-mod}
use Rattle.bits.specs.Row.{bits}
use Rattle.bits.specs.Ones.{ones_of}
use Rattle.bits.proofs.CountingOnes.{bytes_append}
use Rattle.bits.proofs.ones.of_bytes.Goals as goal

-- the ones of the first n bytes and of the rest
in_two : (n : ℕ) (row : List ℕ) {front back : List ℕ} {some more : ℕ} → front ≡ take n row → back ≡ drop n row
    → some ≡ ones_of (bits front) % 2 ^ 64 → more ≡ ones_of (bits back) → (some + more) % 2 ^ 64 ≡ ones_of (bits row) % 2 ^ 64
in_two n row {front} {back} first rest own own' =
    rw (own, own', first, rest)
    (mod-add-mod (ones_of (bits (take n row))) (2 ^ 64) (ones_of (bits (drop n row)))
    ∙ ap (λ (k : ℕ). k % 2 ^ 64) (sym (bytes_append (take n row) (drop n row)) ∙ ap (λ (l : List ℕ). ones_of (bits l)) (take-append-drop n row)))

pub returns : goal.returns
returns c = in_two _ c.args.bytes.now c.split_at.ensures.front c.split_at.ensures.back c.of_eights.ensures c.of_singles.ensures
