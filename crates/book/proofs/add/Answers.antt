-- A refusal hands the record back and leaves the ring, and without one the item is added.
use Rattle.std.proofs.Common.{◌≡◌, ℕ, List, [], ◌∷◌, length, Result, Err, refl, ap, ◌∙◌, arith, rules, le-ltb, lt-ltb}
use Rattle.refusals.specs.declared.Refusal.{Refusal}
use Rattle.refusals.specs.declared.Refusal.TheVariants.{ItemTooLarge}
use Rattle.book.specs.declared.Book.{Book}
use Rattle.book.specs.declared.known.Known.{Known}
use Rattle.book.specs.Adding.{added, added_ring}
use Rattle.book.specs.Calls.{item_fault, add_call}
use Rattle.book.specs.Judged.{JudgedTaking}
use Rattle.book.specs.Told.{as_updated}
use Rattle.book.proofs.JudgedFirst.{JudgedFirst, judged_first}
use Rattle.book.proofs.add.Goals as goal

judged : (book : Book) (ring : List ℕ) (item : ℕ) {found : Result Known Refusal} → JudgedTaking book (length ring) found
    → JudgedFirst book ring found (item_fault book item ∷ []) (add_call book ring item)
unfolding add_call
judged book ring item told = judged_first book ring _ _ (add_call book ring item) refl told

pub returns-in_err-known : goal.returns-in_err-known
unfolding add_call
returns-in_err-known c =
    let back : c.from_residual.result ≡ Err c.in_err-known.field-0.0 = search rules in
    let refused = (judged c.args.book c.args.ring.now c.args.item c.takes.ensures).refused _ c.in_err-known.was in
    (ap (as_updated c.args.book) back ∙ refused.0, refused.1)

pub returns-then-book-item : goal.returns-then-book-item
unfolding add_call
returns-then-book-item c =
    let large = lt-ltb c.args.book.bound c.args.item (omega arith) in
    (judged c.args.book c.args.ring.now c.args.item c.takes.ensures).own_refused _ c.in_ok-known.was ItemTooLarge (rw large)

pub returns : goal.returns
unfolding add_call
returns c =
    let fits = le-ltb c.args.book.bound c.args.item (omega arith) in
    let j = judged c.args.book c.args.ring.now c.args.item c.takes.ensures in
    let same = j.same _ c.in_ok-known.was in
    let all = j.taken _ c.in_ok-known.was (rw fits) in (
      ap (λ (b : Book). record { refusal = 0; book = b }) (c.add.ensures.0 ∙ ap (λ (b : Book). added b c.args.item) same) ∙ all.0,
      c.add.ensures.1 ∙ ap (λ (b : Book). added_ring b c.args.ring.now c.args.item) same ∙ all.1,
    )
