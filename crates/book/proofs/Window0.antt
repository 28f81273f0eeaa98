-- A window of 0 answers 0 (promises 2.1, B.2): by its figure, and by the call, for every record and every ring that pass 8 and 4.
-- Assumes nothing.
use Rattle.std.proofs.Common.{◌≡◌, ℕ, zero, suc, ◌+◌, ◌-◌, ◌*◌, ◌/◌, ◌≤◌, List, length, sym, refl, ap, ◌∙◌, mul-le-mul_left, arith}
use native.Mathlib.Nat.{lt-div-mul-add, sub-zero}
use Rattle.refusals.specs.Call.{refusal_of, result_of}
use Rattle.refusals.proofs.Calls.{result_taken}
use Rattle.book.specs.declared.Book.{Book}
use Rattle.book.specs.Record.{held_in}
use Rattle.book.specs.Sound.{Sound, Usable}
use Rattle.book.specs.Figure.{reckoned, figure_of}
use Rattle.book.specs.Calls.{total_call}
use Rattle.book.proofs.WhenTaken.{total_taken}
use Rattle.book.proofs.FigureInTwoCases.{figure_open}

pub window_0 : (book : Book) (held : ℕ → ℕ) → Sound book → figure_of book held 0 ≡ 0
unfolding reckoned
window_0 book held sound = sym (figure_open book held 0 (omega arith)) ∙ by (book.carry / book.tolerance) refl
  where
    -- where D was not passed the carry is below D; where it was, what is taken off for the p items is at least p·L
    by : (g : ℕ) → book.carry / book.tolerance ≡ g
        → book.carry + book.tolerance * 0 - (book.tolerance - 1) - (book.phase - 0) * book.bound * (book.carry / book.tolerance) ≡ 0
    by zero e = omega (
      arith,
      lt-div-mul-add {a = book.carry} {b = book.tolerance} sound.ranges.tolerance_low,
      rw e at (lt-div-mul-add {a = book.carry} {b = book.tolerance} sound.ranges.tolerance_low),
    )
    by (suc g) e =
        let less : book.phase * book.bound * 1 ≤ book.phase * book.bound * suc g = mul-le-mul_left (book.phase * book.bound) (omega arith) in
        rw (e, sub-zero book.phase) (omega (arith, sound.carry_high))

pub total_of_none : (book : Book) (ring : List ℕ) → Usable book (length ring) → result_of (total_call book ring 0) ≡ record { refusal = 0; figure = 0 }
unfolding total_call
total_of_none book ring usable =
    let taken : refusal_of (total_call book ring 0) ≡ 0 = total_taken book ring 0 usable (omega arith) in
    sym (result_taken (total_call book ring 0) (sym taken) refl)
    ∙ ap (λ (f : ℕ). record { refusal = 0; figure = f }) (window_0 book (held_in book ring) usable.sound)
