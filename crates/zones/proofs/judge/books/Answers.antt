-- `zones::judge::books`: the first record that is no book is the lowest, and the stretches lie one behind the other.
-- Assumes nothing.
use Rattle.std.proofs.Common.{rules, Result, Ok, Err, ◌≡◌, ◌+◌, sym, ap, ◌∙◌, arith, below_more, add-one}
use Rattle.refusals.specs.declared.Refusal.{Refusal}
use Rattle.refusals.specs.Refused.{number_in}
use Rattle.refusals.specs.Call.{result_of}
use Rattle.refusals.proofs.Numbers.{number_not_0}
use Rattle.book.specs.declared.Book.{Book}
use Rattle.book.specs.declared.told.Updated.{Updated}
use Rattle.book.specs.Resting.{awake}
use Rattle.book.specs.Calls.{wake_call}
use Rattle.book.specs.Told.{as_updated}
use Rattle.book.proofs.Promises.{mark_number, mark_refusal}
use Rattle.zones.specs.declared.told.Zoned.{Zoned}
use Rattle.zones.specs.Told.{as_zoned}
use Rattle.zones.specs.Stretches.{zone_at, stretch_start}
use Rattle.zones.specs.Lowest.{record_refusal}
use Rattle.zones.proofs.StartsInOrder.{start_first, start_next}
use Rattle.zones.proofs.RefusalsByPlace.{record_known}
use Rattle.zones.proofs.RefusalNumbers.{record_names, err_names}
use Rattle.zones.proofs.LowestFound.{book_found, all_books}
use Rattle.zones.proofs.judge.books.Goals as goal

-- what waking is refused with is the record's own refusal
told_number : (book : Book) {updated : Updated} → updated ≡ result_of (wake_call book) → updated.refusal ≡ record_refusal book
told_number book told = ap (λ (r : Updated). r.refusal) told ∙ mark_number book awake ∙ mark_refusal book awake

woken : (book : Book) (answer : Result Book Refusal) → as_updated book answer ≡ result_of (wake_call book) → number_in answer ≡ record_refusal book
woken book (Ok given) told = told_number book told
woken book (Err refusal) told = told_number book told

pub loop-place-init : goal.loop-place-init
loop-place-init c =
    record { books_before = λ k h. absurd (omega (arith, h)); all_is = sym (start_first c.args.zones.now); few = omega arith }

pub returns-in_err-of_zone-clause-told : goal.returns-in_err-of_zone-clause-told
returns-in_err-of_zone-clause-told c =
    let refused = c.in_err-of_zone.field-0.0 in
    let back : c.from_residual.result ≡ Err refused = search rules in
    ap as_zoned back ∙ c.in_err-of_zone.ensures
    ∙ book_found c.args.first c.args.zones.now c.loop-place.place c.loop-place-test.true c.loop-place.invariant.books_before (number_in c.wake.result)
    (woken (zone_at c.args.zones.now c.loop-place.place) c.wake.result c.wake.ensures)
    (λ none. number_not_0 refused.refusal (ap (λ (told : Zoned). told.refusal) c.in_err-of_zone.ensures ∙ none))

pub of_zone-requires : goal.of_zone-requires
of_zone-requires c =
    let book = zone_at c.args.zones.now c.loop-place.place in
    err_names c.wake.result (record_refusal book) (woken book c.wake.result c.wake.ensures) (record_names book)

pub bytes-all-requires : goal.bytes-all-requires
bytes-all-requires c =
    let book = zone_at c.args.zones.now c.loop-place.place in
    record_known book (sym (ap (λ (told : Zoned). told.refusal) c.in_ok-of_zone.ensures ∙ woken book c.wake.result c.wake.ensures))

pub loop-place-preserved : goal.loop-place-preserved
loop-place-preserved c =
    let zones = c.args.zones.now in
    let place = c.loop-place.place in
    record {
      books_before = below_more (λ k. record_refusal (zone_at zones k) ≡ 0) place c.loop-place.invariant.books_before
          (sym (ap (λ (told : Zoned). told.refusal) c.in_ok-of_zone.ensures ∙ woken (zone_at zones place) c.wake.result c.wake.ensures));
      all_is =
          (λ i. c.loop-place.invariant.all_is i + c.bytes-all.ensures.0 i)
          ∙ sym (start_next zones place c.loop-place-test.true)
          ∙ ap (stretch_start zones) (sym (add-one place));
      few = omega (arith, c.bytes-all.ensures.1);
    }

pub returns-clause-told : goal.returns-clause-told
returns-clause-told c =
    all_books c.args.first c.args.zones.now
    (λ k there. c.loop-place.invariant.books_before k (let behind = c.loop-place-test.false in omega arith))
