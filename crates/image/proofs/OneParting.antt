-- A header can be taken apart in one way only: every run of white bytes and every number in it is settled by the bytes.
-- Assumes nothing.
use Prim.Native.Nat.{ℕ, suc}
use mathlib.Core.Bool.{Bool, true, false}
use mathlib.Core.List.{List, [], ◌∷◌, ◌++◌, append_assoc}
use mathlib.Core.Path.{◌≡◌, refl, sym, ap, ◌∙◌}
use native.Mathlib.Omega.{arith}
use lib.ListN.{length}
use Rattle.decimals.specs.Decimal.{digit}
use Rattle.image.specs.Bytes.{white}
use Rattle.image.specs.Tests.{Test}
use Rattle.image.specs.Format.{AllOf, Some, Field, Written, bytes_in, numbers_in, Header}
use Rattle.image.specs.Promised.{SameParts}
use Rattle.image.proofs.KindsOfBytes.{digit_not_white, white_not_digit}

-- the list goes on with a byte that is not of the kind
abbrev Breaks : (ℕ → Bool) → List ℕ → Type 0
Breaks kind [] = ⊥
Breaks kind (byte ∷ rest) = kind byte ≡ false

both : {A : Type 0} (b : Bool) → b ≡ true → b ≡ false → A
both b t f = cc

-- a run goes up to the first byte of another kind
run_once : (kind : ℕ → Bool) (a a' r r' : List ℕ) → AllOf kind a → AllOf kind a' → Breaks kind r → Breaks kind r' → a ++ r ≡ a' ++ r'
    → (a ≡ a') × (r ≡ r')
run_once kind [] [] r r' k k' b b' e = (refl, e)
run_once kind [] (x ∷ a') [] r' k k' b b' e = absurd b
run_once kind [] (x ∷ a') (y ∷ r) r' k k' b b' e =
    let same : y ≡ x = cc in
    both (kind x) k'.0 (sym (ap kind same) ∙ b)
run_once kind (x ∷ a) [] r [] k k' b b' e = absurd b'
run_once kind (x ∷ a) [] r (y ∷ r') k k' b b' e =
    let same : y ≡ x = cc in
    both (kind x) k.0 (sym (ap kind same) ∙ b')
run_once kind (x ∷ a) (x' ∷ a') r r' k k' b b' e =
    let same : x ≡ x' = cc in
    let rest : a ++ r ≡ a' ++ r' = cc in
    let p = run_once kind a a' r r' k.1 k'.1 b b' rest in
    (λ i. same i ∷ p.0 i, p.1)

-- a run of the other kind breaks one
breaks : (kind other : ℕ → Bool) → ((byte : ℕ) → other byte ≡ true → kind byte ≡ false) → (run rest : List ℕ) → Some other run
    → Breaks kind (run ++ rest)
breaks kind other apart [] rest h = let z = h.not_none in absurd (omega arith)
breaks kind other apart (byte ∷ run) rest h = apart byte h.all.0

-- behind a number comes a white byte: the first before the next number, or the last of all
white_follows : (f : List Field) (last : ℕ) (rest : List ℕ) → Written f → white last ≡ true → Breaks digit (bytes_in f ++ (last ∷ rest))
white_follows [] last rest w one = white_not_digit last one
white_follows (field ∷ f) last rest w one =
    rw (append_assoc field.gap (field.digits ++ bytes_in f) (last ∷ rest))
    (breaks digit white white_not_digit field.gap ((field.digits ++ bytes_in f) ++ (last ∷ rest)) w.0.0)

-- two ways to write as many numbers, each with a white byte behind the last of them, are one, and leave the same bytes
pub same_fields : (f g : List Field) (last last' : ℕ) (rest rest' : List ℕ) → length f ≡ length g → Written f → Written g
    → white last ≡ true → white last' ≡ true → bytes_in f ++ (last ∷ rest) ≡ bytes_in g ++ (last' ∷ rest')
    → (f ≡ g) × (last ≡ last') × (rest ≡ rest')
same_fields [] [] last last' rest rest' n w w' one one' e = (refl, cc, cc)
same_fields [] (field ∷ g) last last' rest rest' n w w' one one' e = absurd (omega arith)
same_fields (field ∷ f) [] last last' rest rest' n w w' one one' e = absurd (omega arith)
same_fields (x ∷ f) (y ∷ g) last last' rest rest' n w w' one one' e =
    let f_rest = bytes_in f ++ (last ∷ rest) in
    let g_rest = bytes_in g ++ (last' ∷ rest') in
    let gaps =
    run_once white x.gap y.gap (x.digits ++ f_rest) (y.digits ++ g_rest) w.0.0.all w'.0.0.all
    (breaks white digit digit_not_white x.digits f_rest w.0.1) (breaks white digit digit_not_white y.digits g_rest w'.0.1)
    (sym (parts x f last rest) ∙ e ∙ parts y g last' rest') in
    let runs =
    run_once digit x.digits y.digits f_rest g_rest w.0.1.all w'.0.1.all
    (white_follows f last rest w.1 one) (white_follows g last' rest' w'.1 one') gaps.1 in
    let later = same_fields f g last last' rest rest' (omega arith) w.1 w'.1 one one' runs.1 in
    (λ i. record { gap = gaps.0 i; digits = runs.0 i } ∷ later.0 i, later.1, later.2)
  where
    parts : (field : Field) (later : List Field) (end : ℕ) (behind : List ℕ)
        → bytes_in (field ∷ later) ++ (end ∷ behind) ≡ field.gap ++ (field.digits ++ (bytes_in later ++ (end ∷ behind)))
    parts field later end behind = simp append_assoc

-- as many numbers as fields
fields_count : (f : List Field) → length f ≡ length (numbers_in f)
fields_count [] = refl
fields_count (field ∷ f) = ap suc (fields_count f)

pub one_parting : {sign : ℕ} {tests : List Test} {numbers bytes : List ℕ} (p q : Header sign tests numbers bytes) → SameParts p q
one_parting p q =
    let count : length p.fields ≡ length q.fields =
    fields_count p.fields ∙ ap length (p.writes ∙ sym q.writes) ∙ sym (fields_count q.fields) in
    let e : bytes_in p.fields ++ (p.last ∷ []) ≡ bytes_in q.fields ++ (q.last ∷ []) = cc (p.split, q.split) in
    let same = same_fields p.fields q.fields p.last q.last [] [] count p.written q.written p.one q.one e in
    record { fields = same.0; last = same.1 }
