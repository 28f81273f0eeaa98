-- L, n and D are judged first, then the rest of the record.
use Rattle.std.proofs.Common.{◌≡◌, ℕ, [], Result, Ok, Err, sym, refl, ap, ◌∙◌, rules}
use Rattle.refusals.specs.declared.Refusal.{Refusal}
use Rattle.refusals.specs.declared.Refusal.TheVariants.{NoBook}
use Rattle.refusals.specs.Refused.{number_of, number_in}
use Rattle.refusals.specs.First.{first_of}
use Rattle.refusals.specs.Call.{result_of}
use Rattle.refusals.proofs.Numbers.{number_not_0}
use Rattle.refusals.proofs.Calls.{nothing_holds, written_out}
use Rattle.book.specs.declared.Book.{Book}
use Rattle.book.specs.declared.shape.Shape.{Shape}
use Rattle.book.specs.declared.known.Known.{Known}
use Rattle.book.specs.Record.{shape_for}
use Rattle.book.specs.Shape.{shape_call}
use Rattle.book.specs.Sound.{Ranges}
use Rattle.book.specs.Calls.{state_faults, record_faults}
use Rattle.book.specs.Judged.{JudgedAlone}
use Rattle.book.specs.Told.{as_shaped}
use Rattle.book.proofs.WhenTaken.{no_ranges, state_decides, shape_refusal, shape_known, sound_known}
use Rattle.book.proofs.judge.known.Goals as goal

refused : (book : Book) (refusal : Refusal) → number_of refusal ≡ first_of (record_faults book) → (judged : Result Known Refusal)
    → judged ≡ Err refusal → JudgedAlone book judged
refused book refusal told judged e =
    record { refusal_is = ap number_in e ∙ told; same = λ known taken. absurd (let clash : Err refusal ≡ Ok known = sym e ∙ taken in cc) }

-- L, n and D are passed
derived : (book : Book) {found : Result Shape Refusal} {shape : Shape} → as_shaped found ≡ result_of (shape_call book.bound book.length book.tolerance)
    → found ≡ Ok shape → Ranges book.bound book.length book.tolerance × (shape ≡ shape_for book)
derived book told passed =
    let k = shape_known book.bound book.length book.tolerance told (ap (λ f. (as_shaped f).refusal) passed) in
    (k.0, sym (ap (λ f. (as_shaped f).shape) passed) ∙ k.1)

-- and so is the rest
passes : (book : Book) {number : ℕ} → Ranges book.bound book.length book.tolerance → number ≡ first_of (state_faults book) → number ≡ 0
    → 0 ≡ first_of (record_faults book)
passes book ranges judged none = sym none ∙ judged ∙ state_decides book ranges

pub returns-in_default : goal.returns-in_default
returns-in_default c =
    let b = c.args.book in
    let told = shape_refusal b.bound b.length b.tolerance c.derive.ensures in
    let number = ap (λ found. (as_shaped found).refusal) c.in_default.is in
    refused b NoBook (no_ranges b (sym number ∙ told) (number_not_0 _)) (Err NoBook) refl

pub state-requires : goal.state-requires
state-requires c = derived c.args.book c.derive.ensures c.in-Ok.is

pub returns-in_err-state : goal.returns-in_err-state
returns-in_err-state c =
    let b = c.args.book in
    let ranges = (derived b c.derive.ensures c.in-Ok.is).0 in
    let back : c.from_residual.result ≡ Err c.in_err-state.field-0.0 = search rules in
    refused b _ (sym (ap number_in c.in_err-state.was) ∙ c.state.ensures ∙ state_decides b ranges) _ back

pub invariant_of-result : goal.invariant_of-result
invariant_of-result c =
    let b = c.args.book in
    let known = derived b c.derive.ensures c.in-Ok.is in
    let none = passes b known.0 c.state.ensures (ap number_in c.in_ok-state.was) in
    record {
      sound = (sound_known b [] (nothing_holds (record_faults b) (written_out (record_faults b) tt) (sym none))).0;
      derived = known.1;
    }
