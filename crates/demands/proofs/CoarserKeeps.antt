-- A COARSER BOOK KEEPS TO THE INVARIANT, with the items of the old one. What had come in is counted from where D was last passed before the oldest
-- wholly kept block. In units of D it is then what the tally had taken, so that the tally's invariant, D times, is that of the coarser book.
-- Assumes nothing.
use Prim.Native.Nat.{ℕ, suc, ◌+◌, ◌-◌, ◌*◌, ◌/◌, ◌≤◌, ◌<◌}
use native.Mathlib.Nat.{add-mul-div_left, div-div-eq-div-mul, mul_comm, mul_assoc, mul-le-mul_right, mul-div-le}
use native.Mathlib.Nat.{lt_of_mul-lt-mul_left, lt_of_mul-lt-mul_right}
use native.Mathlib.Omega.{arith}
use mathlib.Core.List.{List, []}
use mathlib.Core.Path.{◌≡◌, sym, ap, subst, ◌∙◌}
use lib.ListN.{length}
use Rattle.ring.specs.Newest.{newest, sum_newest}
use Rattle.ring.proofs.Promises.{sum_none}
use Rattle.book.specs.declared.Book.{Book}
use Rattle.book.specs.Record.{block_of, slots_of, held_in}
use Rattle.book.specs.Sound.{Sound, Usable}
use Rattle.book.proofs.Promises.{block_low}
use Rattle.coarse.specs.Quotients.{blocks_kept}
use Rattle.coarse.specs.Coarsens.{Coarsens}
use Rattle.coarse.specs.Coarser.{tally, coarsened, coarsened_ring}
use Rattle.coarse.specs.Calls.{coarser_bytes}
use Rattle.coarse.proofs.Promises.{coarsened_is, whole_blocks_kept, block_of_coarser, tally_slots, tally_held, coarsened_usable}
use Rattle.demands.specs.History.{sum_of, true_total, older}
use Rattle.demands.proofs.Invariant.{Invariant, falls_by, newest_blocks}
use Rattle.demands.proofs.OlderQuotients.{older_quotients}
use Rattle.demands.proofs.TallyTaken.{Tallied, tally_items, tallied}

-- NUMBERS. A number less D times E, where D goes in E times or more
cut_div : (a E D : ℕ) → 0 < D → D * E ≤ a → (a - D * E) / D + E ≡ a / D
cut_div a E D some fits =
    let whole : a - D * E + D * E ≡ a = omega arith in
    sym (add-mul-div_left (a - D * E) E some) ∙ ap (λ (t : ℕ). t / D) whole

-- what the coarser record has of the old one and of the tally
record MadeOf (book units coarser : Book) (times J : ℕ) : Type 0 where
  bound_is : coarser.bound ≡ book.bound
  tolerance_is : coarser.tolerance ≡ times * book.tolerance
  carry_is : coarser.carry ≡ book.carry + book.tolerance * units.carry
  phase_is : coarser.phase ≡ book.phase + units.phase * block_of book
  kept_is : coarser.kept ≡ book.phase + J * block_of book
  head_is : coarser.head ≡ units.head
  block_is : block_of coarser ≡ times * block_of book
  slots_are : slots_of coarser ≡ slots_of units

-- `old` are the quotients of the J newest blocks, the newest first
module _ (book : Book) (held : ℕ → ℕ) (items : List ℕ) (inv : Invariant book held items) (J : ℕ)
    (inside : book.phase + J * block_of book ≤ book.kept) (old : List ℕ)
    (sums : (i : ℕ) → i ≤ J
    → older i old + sum_newest held (slots_of book) book.head i ≡ sum_newest held (slots_of book) book.head J) where
  abbrev p : ℕ
  p = book.phase

  abbrev c : ℕ
  c = block_of book

  abbrev D : ℕ
  D = book.tolerance

  some : 0 < D
  some = inv.sound.ranges.tolerance_low

  -- how often D was passed before the oldest of these blocks
  abbrev E : ℕ
  E = inv.before (p + J * c) / D

  -- what had come in since
  abbrev since : ℕ → ℕ
  since i = inv.before i - D * E

  below : (i : ℕ) → i ≤ p + J * c → D * E ≤ inv.before i
  below i h =
      let rest : i + (p + J * c - i) ≡ p + J * c = omega arith in
      omega (arith, mul-div-le (inv.before (p + J * c)) D, rw rest at (falls_by book held items inv i (p + J * c - i)))

  passed : (j : ℕ) → j ≤ J → sum_newest held (slots_of book) book.head j + inv.before (p + j * c) / D ≡ inv.before p / D
  passed j h =
      newest_blocks book held items inv j (omega (arith, inside, mul-le-mul_right c h, block_low book.bound book.tolerance))

  -- in units of D it is the sum of the old quotients
  seen : (i : ℕ) → i ≤ J → since (p + i * c) / D ≡ older i old
  seen i h =
      omega (
        arith,
        cut_div (inv.before (p + i * c)) E D some (below (p + i * c) (omega (arith, mul-le-mul_right c h))),
        passed i h,
        passed J (omega arith),
        sums i h,
      )

  all_seen : book.carry + D * older 0 old + D * E ≡ inv.before 0
  all_seen =
      omega (
        arith,
        inv.carried,
        ap (λ (t : ℕ). D * t) (passed J (omega arith)),
        ap (λ (t : ℕ). D * t) (sums 0 (omega arith)),
        ap (λ (t : ℕ). D * t) (sum_none held (slots_of book) book.head),
      )

  since_falls : (i : ℕ) → since (suc i) ≤ since i
  since_falls i = omega (arith, inv.falls i)

  since_slowly : (i : ℕ) → since i ≤ since (suc i) + book.bound
  since_slowly i = omega (arith, inv.slowly i)

  since_totals : (i : ℕ) → i ≤ p + J * c → true_total i items + since i ≡ since 0
  since_totals i h = omega (arith, inv.totals i (omega (arith, inside)), below i h)

  -- THE TALLY of these quotients
  module _ (units : Book) (own : ℕ → ℕ) (times : ℕ) (tallied : Tallied units own old times J) where
    -- by m·D
    seen_coarser : (i : ℕ) → i ≤ J → since (p + i * c) / (times * D) ≡ older i old / times
    seen_coarser i h =
        ap (λ (d : ℕ). since (p + i * c) / d) (mul_comm times D)
        ∙ sym (div-div-eq-div-mul (since (p + i * c)) D times)
        ∙ ap (λ (q : ℕ). q / times) (seen i h)

    coarser_carried : book.carry + D * units.carry + times * D * (since (p + units.phase * c) / (times * D)) ≡ since 0
    coarser_carried =
        let q : ℕ = older units.phase old / times in
        rw (seen_coarser units.phase (omega (arith, tallied.count_is)))
        (omega (arith, all_seen, ap (λ (t : ℕ). D * t) tallied.carried))

    -- the tally's blocks among the old ones
    coarser_passed : (j : ℕ) → units.phase + j * times ≤ J
        → since (p + units.phase * c + j * (times * c)) / (times * D) ≡ older (units.phase + j * times) old / times
    coarser_passed j h =
        let there : p + units.phase * c + j * (times * c) ≡ p + (units.phase + j * times) * c = omega (arith, mul_assoc j times c) in
        rw there (seen_coarser (units.phase + j * times) h)

    coarser_blocks : (j : ℕ) → p + units.phase * c + j * (times * c) < p + J * c
        → own (newest (slots_of units) units.head (suc j)) + since (p + units.phase * c + suc j * (times * c)) / (times * D)
        ≡ since (p + units.phase * c + j * (times * c)) / (times * D)
    coarser_blocks j h =
        let here : units.phase + j * times < J = lt_of_mul-lt-mul_right c (omega (arith, mul_assoc j times c)) in
        let fewer : j < tallied.blocks = lt_of_mul-lt-mul_left times (omega (arith, tallied.count_is, mul_comm j times)) in
        let next : units.phase + suc j * times ≤ J =
        omega (arith, tallied.count_is, mul-le-mul_right times fewer, mul_comm tallied.blocks times) in
        ap (λ (q : ℕ). own (newest (slots_of units) units.head (suc j)) + q) (coarser_passed (suc j) next)
        ∙ tallied.stored j here
        ∙ sym (coarser_passed j (omega arith))

    -- THE COARSER BOOK
    made_keeps : (coarser : Book) → MadeOf book units coarser times J → Sound coarser → Invariant coarser own items
    made_keeps coarser made sound =
        record {
          before = since;
          sound = sound;
          long = omega (arith, made.kept_is, inside, inv.long);
          falls = since_falls;
          slowly = λ i. rw made.bound_is (since_slowly i);
          totals = λ i h. since_totals i (omega (arith, made.kept_is));
          carried = rw (made.carry_is, made.tolerance_is, made.phase_is) coarser_carried;
          blocks = λ j h.
              rw (made.slots_are, made.head_is, made.phase_is, made.block_is, made.tolerance_is)
              (coarser_blocks j (rw (made.phase_is, made.block_is, made.kept_is) at h));
        }

-- OF A BOOK WITH ITS RING that can be made coarser
module _ (book : Book) (ring items : List ℕ) (inv : Invariant book (held_in book ring) items) (usable : Usable book (length ring)) (times : ℕ)
    (can : Coarsens book times) (second : List ℕ) (room : coarser_bytes book times ≤ length second) where
  abbrev K : Book
  K = tally book ring times

  made : MadeOf book K (coarsened book ring times) times (blocks_kept book)
  made =
      let is = coarsened_is book ring times in
      record {
        bound_is = ap (λ (b : Book). b.bound) is;
        tolerance_is = ap (λ (b : Book). b.tolerance) is;
        carry_is = ap (λ (b : Book). b.carry) is;
        phase_is = ap (λ (b : Book). b.phase) is;
        kept_is = ap (λ (b : Book). b.kept) is;
        head_is = ap (λ (b : Book). b.head) is;
        block_is = block_of_coarser book ring times usable can;
        slots_are = sym (tally_slots book ring times usable can second room);
      }

  old_sums : (i : ℕ) → i ≤ blocks_kept book
      → older i (tally_items book ring) + sum_newest (held_in book ring) (slots_of book) book.head i
      ≡ sum_newest (held_in book ring) (slots_of book) book.head (blocks_kept book)
  unfolding sum_of
  old_sums i h = omega (arith, older_quotients book ring (blocks_kept book) [] i h)

  pub coarser_keeps : Invariant (coarsened book ring times) (held_in (coarsened book ring times) (coarsened_ring book ring times second)) items
  coarser_keeps =
      subst (λ (held : ℕ → ℕ). Invariant (coarsened book ring times) held items)
      (tally_held book ring times usable can second room (coarsened_ring book ring times second))
      (made_keeps book (held_in book ring) items inv (blocks_kept book) (whole_blocks_kept book ring times usable can) (tally_items book ring) old_sums
      K (held_in K (coarsened_ring book ring times second)) times (tallied book ring usable times can second room)
      (coarsened book ring times) made (coarsened_usable book ring times usable can second room).sound)
