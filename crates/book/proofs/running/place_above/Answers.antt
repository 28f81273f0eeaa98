-- The look at all counts says whether one is above L, and then they are gone through.
use Rattle.std.proofs.Common.{◌≡◌, ℕ, suc, Some, None, sym, ap, ◌∙◌, add-one, rules}
use Rattle.std.specs.Option.{option_map}
use Rattle.book.specs.OrNone.{unless_0}
use Rattle.book.proofs.LookingAtAll.{place_none, place_behind}
use Rattle.book.proofs.running.place_above.Goals as goal

pub returns-then-look-lt-TOP_BIT : goal.returns-then-look-lt-TOP_BIT
returns-then-look-lt-TOP_BIT c =
    ap unless_0 (sym (place_none 1 c.args.bound c.args.counts.now (c.look.ensures.0 c.if-look-lt-TOP_BIT.true)))

pub returns-in_err-before : goal.returns-in_err-before
returns-in_err-before c =
    let back : c.from_residual.result ≡ None = search rules in
    let none : c.first_above.result ≡ None = search rules in
    back ∙ ap (option_map suc) (sym none ∙ c.first_above.ensures) ∙ place_behind c.args.bound c.args.counts.now

pub returns : goal.returns
returns c =
    let some : c.first_above.result ≡ Some c.in_ok-before.before = search rules in
    ap (λ (n : ℕ). Some n) (add-one c.in_ok-before.before) ∙ ap (option_map suc) (sym some ∙ c.first_above.ensures)
    ∙ place_behind c.args.bound c.args.counts.now
