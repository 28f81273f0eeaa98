-- Demand 1 and uniqueness of both calls: what a statement says is what its row says. The statements are those at the functions in src/:
-- `all_says` and `one_says` compare them with specs/Statements.antt, for every model of the logic.
-- Assumes nothing.
use Prim.Native.Nat.{ℕ}
use native.Mathlib.Omega.{arith}
use mathlib.Core.List.{List}
use mathlib.Core.Bool.{Bool-set}
use mathlib.Core.HLevel.{is_prop→PathP}
use mathlib.Core.Path.{PathP, ◌≡◌, refl, sym, ap, ◌∙◌}
use Rattle.std.specs.Prelude.{Result, Ok, Err, Option, Some, None, true, false, is_some}
use seplogic.Ra.Ura.{Ura}
use base.Logic.{SProp}
use prog.Memory.{Memory}
use prog.Routine.{Routine}
use types.Logic.{Logic}
use contract.Lifetimes.{Lfts}
use contract.Monad.{Fun, fact}
use denote.Triple.Entry.{Args, Res}
use denote.Triple.Clauses.{AtExit}
use Rattle.refusals.specs.Refused.{number_of}
use Rattle.refusals.specs.Demand1.{Tells, Promised, Settles}
use Rattle.refusals.proofs.Numbers.{number_not_0, number_once}
use Rattle.refusals.proofs.Calls.{promised, passed_on_numbered}
use Rattle.refusals.proofs.OneOutcome.{one_outcome}
use Rattle.book.specs.declared.Book.{Book}
use Rattle.zones.specs.declared.refused.ZoneRefusal.{ZoneRefusal}
use Rattle.zones.specs.declared.told.Zoned.{Zoned}
use Rattle.zones.specs.Named.{names_zone}
use Rattle.zones.specs.Told.{zone_or_0, as_zoned}
use Rattle.zones.specs.Calls.{add_all_call, add_one_call}
use Rattle.zones.specs.Statements.{LentToAll, LentToOne, all_call, one_call, AllSays, OneSays}
use Rattle.zones.specs.contracts.add_all as add_all_lem
use Rattle.zones.specs.contracts.add_one as add_one_lem

-- THE STATEMENTS say so
module _ {M : Type 1} {𝓤 : Ura M} (𝓛 : Logic 𝓤) (mem : Memory → SProp 𝓤) (run : Routine → Fun 𝓤) where
  pub all_says : (κs : Lfts 3) (a : Args add_all_lem.signature κs) (r : Res add_all_lem.signature κs) (e : AtExit add_all_lem.ended κs)
      → (add_all_lem.clauses 𝓛 mem run κs a).ensures tt r e
      ≡ fact 𝓤 (AllSays (record { zones = a.0.now; rings = a.1.0.now; counts = a.1.1.0.now }) (as_zoned r)
      (record { zones = e.0.now; rings = e.1.0.now }))
  all_says κs a r e = refl

  pub one_says : (κs : Lfts 2) (a : Args add_one_lem.signature κs) (r : Res add_one_lem.signature κs) (e : AtExit add_one_lem.ended κs)
      → (add_one_lem.clauses 𝓛 mem run κs a).ensures tt r e
      ≡ fact 𝓤 (OneSays (record { zones = a.0.now; rings = a.1.0.now; zone = a.1.1.0; item = a.1.1.1.0 }) (as_zoned r)
      (record { zones = e.0.now; rings = e.1.0.now }))
  one_says κs a r e = refl

-- what each tells of its refusal
pub all_tells : (zones : List Book) (rings counts : List ℕ) → Tells (λ (r : Zoned). r.refusal) (add_all_call zones rings counts)
unfolding add_all_call
all_tells zones rings counts =
    record {
      numbered = ((λ _. omega arith), ((λ _. omega arith), (passed_on_numbered _, ((λ _. omega arith), (passed_on_numbered _, tt)))));
      given_0 = λ none. refl;
      back_own = λ number. refl;
    }

pub one_tells : (zones : List Book) (rings : List ℕ) (zone item : ℕ) → Tells (λ (r : Zoned). r.refusal) (add_one_call zones rings zone item)
unfolding add_one_call
one_tells zones rings zone item =
    record {
      numbered =
          ((λ _. omega arith), ((λ _. omega arith), (passed_on_numbered _, ((λ _. omega arith), ((λ _. omega arith), ((λ _. omega arith), tt))))));
      given_0 = λ none. refl;
      back_own = λ number. refl;
    }

pub add_all_promised : Promised AllSays (λ a r. r) (λ lent after. after) all_call (λ (r : Zoned). r.refusal)
add_all_promised =
    promised _ _ _ _ (λ lent r after says. (says.0, λ i. record { zones = says.1 i; rings = says.2 i })) _ (λ lent. all_tells _ _ _)

pub add_one_promised : Promised OneSays (λ a r. r) (λ lent after. after) one_call (λ (r : Zoned). r.refusal)
add_one_promised =
    promised _ _ _ _ (λ lent r after says. (says.0, λ i. record { zones = says.1 i; rings = says.2 i })) _ (λ lent. one_tells _ _ _ _)

-- A REFUSAL AND ITS ZONE in numbers are those of one value: by the refusal one knows whether a zone is named, and so whether 0 is zone 0 or none;
-- and the fact that says so, a ghost field, has one proof
zone_apart : (one other : Option ℕ) → is_some one ≡ is_some other → zone_or_0 one ≡ zone_or_0 other → one ≡ other
zone_apart None None named e = refl
zone_apart None (Some zone) named e = absurd (let z : false ≡ true = named in cc)
zone_apart (Some zone) None named e = absurd (let z : true ≡ false = named in cc)
zone_apart (Some one) (Some other) named e = ap Some e

refused_apart : (x y : ZoneRefusal) → number_of x.refusal ≡ number_of y.refusal → zone_or_0 x.zone ≡ zone_or_0 y.zone → x ≡ y
refused_apart x y number place = λ i. record { refusal = refusal i; zone = zone i; named = named i }
  where
    refusal : x.refusal ≡ y.refusal
    refusal = number_once x.refusal y.refusal number

    zone : x.zone ≡ y.zone
    zone = zone_apart x.zone y.zone (x.named ∙ ap names_zone number ∙ sym y.named) place

    named : PathP (λ i. is_some (zone i) ≡ names_zone (number_of (refusal i))) x.named y.named
    named = is_prop→PathP (λ i. is_some (zone i) ≡ names_zone (number_of (refusal i))) (λ i. Bool-set _ _) x.named y.named

zoned_apart : (r r' : Result (Unit {0}) ZoneRefusal) → as_zoned r ≡ as_zoned r' → r ≡ r'
zoned_apart (Ok x) (Ok y) e = refl
zoned_apart (Ok x) (Err refused) e = absurd (number_not_0 refused.refusal (sym (ap (λ (zoned : Zoned). zoned.refusal) e)))
zoned_apart (Err refused) (Ok y) e = absurd (number_not_0 refused.refusal (ap (λ (zoned : Zoned). zoned.refusal) e))
zoned_apart (Err one) (Err other) e =
    ap Err (refused_apart one other (ap (λ (zoned : Zoned). zoned.refusal) e) (ap (λ (zoned : Zoned). zoned.zone) e))

-- UNIQUENESS of the results themselves, of the type that the functions return, for the statements that `all_says` and `one_says` give
pub add_all_settled : (κs : Lfts 3)
    → Settles {Args = LentToAll} {Result = Res add_all_lem.signature κs} (λ lent r after. AllSays lent (as_zoned r) after) (λ lent r. r)
    (λ lent after. after)
add_all_settled κs =
    one_outcome _ (λ lent r. as_zoned r) _ (λ lent r r' e e' p p'. add_all_promised.settled lent (as_zoned r) (as_zoned r') e e' p p')
    (λ lent r r' e e' p p'. zoned_apart r r')

pub add_one_settled : (κs : Lfts 2)
    → Settles {Args = LentToOne} {Result = Res add_one_lem.signature κs} (λ lent r after. OneSays lent (as_zoned r) after) (λ lent r. r)
    (λ lent after. after)
add_one_settled κs =
    one_outcome _ (λ lent r. as_zoned r) _ (λ lent r r' e e' p p'. add_one_promised.settled lent (as_zoned r) (as_zoned r') e e' p p')
    (λ lent r r' e e' p p'. zoned_apart r r')
