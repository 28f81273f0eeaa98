-- The walk of "how far back": windows by blocks, the figure at each place of a block, and the window that the walk names.
-- Assumes nothing.
use Rattle.std.proofs.Common.{◌≡◌, ℕ, zero, suc, ◌+◌, ◌-◌, ◌*◌, ◌/◌, ◌<◌, ◌≤◌, min, ◌⊎◌, refl, ap, inl, inr, mul-le-mul_right, suc-mul, le-div_iff_mul-le, div-mul-le_self, arith, le-leb}
use native.Mathlib.Nat.{lt-div-mul-add}
use borrow.Author.Tests.{lt-leb}
use Rattle.ring.proofs.Promises.{sum_none, sum_more}
use Rattle.book.specs.declared.Book.{Book}
use Rattle.book.specs.Derived.{ceil_div}
use Rattle.book.specs.Record.{block_of, slots_of}
use Rattle.book.specs.Sound.{Sound}
use Rattle.book.specs.Figure.{reckoned, slots_for, figure_by, figure_of}
use Rattle.book.specs.Stops.{end_figure, oldest, furthest}
use Rattle.book.proofs.RoundedUp.{le_or_lt, ceil_covers, ceil_tight, ceil_is}
use Rattle.book.proofs.NumbersInRange.{block_low}

module _ (book : Book) (held : ℕ → ℕ) where
  -- window i lies e items before the end of j blocks
  pub record At (i j e : ℕ) : Type 0 where
    pub place : i + e ≡ book.phase + j * block_of book
    pub near : e < block_of book

  for_is : (i j e : ℕ) → At i (suc j) e → slots_for book i ≡ suc j
  unfolding slots_for
  for_is i j e at =
      ceil_is (i - book.phase) (block_of book) (suc j) (block_low book.bound book.tolerance)
      (omega (arith, at.place)) (omega (arith, at.place, at.near))

  -- its figure
  pub figure_at : (i j e : ℕ) → At i j e → figure_of book held i ≡ end_figure book held j - e * book.bound * oldest book held j
  unfolding figure_by reckoned
  figure_at i zero e at =
      let e_is : book.phase - i ≡ e = omega (arith, at.place) in
      rw (le-leb i book.phase (omega (arith, at.place)), e_is, sum_none held (slots_of book) book.head)
  figure_at i (suc j) e at =
      let next : suc j * block_of book ≡ j * block_of book + block_of book = suc-mul j (block_of book) in
      let longer : book.phase < i = omega (arith, at.place, at.near) in
      let e_is : suc j * block_of book - (i - book.phase) ≡ e = omega (arith, at.place) in
      rw (lt-leb i book.phase longer, for_is i j e at, e_is)

  -- each window lies in one block
  pub window_at : (i : ℕ) → Sound book → (j : ℕ) × (e : ℕ) × At i j e
  unfolding slots_for
  window_at i sound = by (le_or_lt i book.phase)
    where
      by : (i ≤ book.phase) ⊎ (book.phase < i) → (j : ℕ) × (e : ℕ) × At i j e
      by (inl h) = (0, book.phase - i, record { place = omega arith; near = omega (arith, sound.phase_high) })
      by (inr h) =
          let j : ℕ = ceil_div (i - book.phase) (block_of book) in
          let low = block_low book.bound book.tolerance in (
            j,
            j * block_of book - (i - book.phase),
            record {
              place = omega (arith, ceil_covers (i - book.phase) (block_of book) low);
              near = omega (arith, ceil_tight (i - book.phase) (block_of book) low);
            },
          )

  -- a shorter window lies in a newer block, or further from the end of the same one
  shorter : (k i jk ek j e : ℕ) → At k jk ek → At i j e → k < i → (jk < j) ⊎ ((jk ≡ j) × (e < ek))
  shorter k i jk ek j e atk ati h = by (le_or_lt j jk)
    where
      by : (j ≤ jk) ⊎ (jk < j) → (jk < j) ⊎ ((jk ≡ j) × (e < ek))
      by (inr newer) = inl newer
      by (inl not) = same (le_or_lt jk j)
        where
          same : (jk ≤ j) ⊎ (j < jk) → (jk < j) ⊎ ((jk ≡ j) × (e < ek))
          same (inl le) =
              let e_is : jk ≡ j = omega arith in
              inr (e_is, omega (arith, atk.place, ati.place, ap (λ (n : ℕ). n * block_of book) e_is))
          same (inr older) =
              absurd (omega (arith, atk.place, ati.place, atk.near, mul-le-mul_right (block_of book) older, suc-mul j (block_of book)))

  within_furthest : (k j e : ℕ) → 1 ≤ k → At k j e → e ≤ furthest book j
  within_furthest k zero e h at = omega (arith, at.place)
  within_furthest k (suc j) e h at = omega (arith, at.near)

  module _ (sound : Sound book) (v : ℕ) (asked : 0 < v) where
    -- no window of blocks whose ends do not reach v reaches it
    pub none_before : (j : ℕ) → ((k : ℕ) → k < j → end_figure book held k < v) → (i jk ek : ℕ) → At i jk ek → jk < j → figure_of book held i < v
    none_before j earlier i jk ek at h = rw (figure_at i jk ek at) (omega (arith, earlier jk h))

    -- the first block whose end reaches v, and the furthest place in it that still does
    module _ (i j e : ℕ) (at : At i j e) (earlier : (k : ℕ) → k < j → end_figure book held k < v) (end : v ≤ end_figure book held j)
        (still : e * book.bound * oldest book held j ≤ end_figure book held j - v)
        (beyond : (ek : ℕ) → e < ek → ek ≤ furthest book j → end_figure book held j - v < ek * book.bound * oldest book held j) where
      pub named_reaches : v ≤ figure_of book held i
      named_reaches = rw (figure_at i j e at) (omega arith)

      pub named_shortest : (k : ℕ) → 1 ≤ k → k < i → figure_of book held k < v
      named_shortest k low h =
          let w = window_at k sound in
          by w.0 w.1 w.2 (shorter k i w.0 w.1 j e w.2 at h)
        where
          by : (jk ek : ℕ) → At k jk ek → (jk < j) ⊎ ((jk ≡ j) × (e < ek)) → figure_of book held k < v
          by jk ek atk (inl newer) = none_before j earlier k jk ek atk newer
          by jk ek atk (inr same) =
              let far : e < ek = same.1 in
              let top : ek ≤ furthest book j = rw same.0 at (within_furthest k jk ek low atk) in
              let at_j : At k j ek = rw same.0 at atk in
              rw (figure_at k j ek at_j) (omega (arith, beyond ek far top))

-- the furthest place by one division: the smaller of `most` and slack / step
module _ (most slack step : ℕ) (pos : 0 < step) where
  pub place_still : min most (slack / step) * step ≤ slack
  place_still =
      let less : min most (slack / step) * step ≤ slack / step * step = mul-le-mul_right step (omega arith) in
      omega (arith, div-mul-le_self slack step)

  pub place_beyond : (e : ℕ) → min most (slack / step) < e → e ≤ most → slack < e * step
  place_beyond e h top =
      let more : (slack / step + 1) * step ≤ e * step = mul-le-mul_right step (omega arith) in
      omega (arith, lt-div-mul-add {a = slack} {b = step} pos)

-- the block that reaches v has a quotient that is not 0
pub oldest_pos : (book : Book) (held : ℕ → ℕ) → Sound book → (v j : ℕ) → 0 < v → ((k : ℕ) → k < j → end_figure book held k < v)
    → v ≤ end_figure book held j → 0 < oldest book held j
oldest_pos book held sound v zero pos earlier end =
    (le-div_iff_mul-le {k = book.tolerance} {x = 1} {y = book.carry} sound.ranges.tolerance_low).1
    (omega (arith, sum_none held (slots_of book) book.head, ap (λ (n : ℕ). book.tolerance * n) (sum_none held (slots_of book) book.head)))
oldest_pos book held sound v (suc j) pos earlier end = by (oldest book held (suc j)) refl
  where
    by : (g : ℕ) → oldest book held (suc j) ≡ g → 0 < oldest book held (suc j)
    by zero e =
        absurd (omega (
          arith,
          earlier j (omega arith),
          ap (λ (n : ℕ). book.tolerance * n) (sum_more held (slots_of book) book.head j),
          ap (λ (n : ℕ). book.tolerance * n) e,
        ))
    by (suc g) e = omega arith
