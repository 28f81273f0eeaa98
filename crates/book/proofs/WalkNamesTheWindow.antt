-- The window that the walk names is the first that reaches v, and there is none where it names none.
-- Assumes nothing.
use Rattle.std.proofs.Common.{◌≡◌, ℕ, zero, suc, ◌+◌, ◌-◌, ◌*◌, ◌/◌, ◌<◌, ◌≤◌, min, ◌⊎◌, List, length, sym, refl, ap, ◌∙◌, inl, inr, ⊎_elim, mul-le-mul_right, mul_assoc, suc-mul, mul-le-mul, arith}
use Rattle.ring.proofs.Promises.{sum_none}
use Rattle.book.specs.declared.Book.{Book}
use Rattle.book.specs.declared.shape.Shape.{Shape}
use Rattle.book.specs.declared.distance.Stop.{Stop}
use Rattle.book.specs.Record.{block_of, slots_of, held_in}
use Rattle.book.specs.Sound.{Sound}
use Rattle.book.proofs.Ready.{Ready}
use Rattle.book.specs.Figure.{figure_of}
use Rattle.book.specs.HowFar.{how_far_back}
use Rattle.book.specs.Stops.{end_figure, oldest, furthest, Stopped}
use Rattle.book.proofs.RoundedUp.{le_or_lt}
use Rattle.book.proofs.NumbersInRange.{block_low}
use Rattle.book.proofs.StepsInRange.{slots_top, ready_block}
use Rattle.book.proofs.FirstWindowReaching.{first_is, first_none}
use Rattle.book.proofs.FigureAlongTheWalk.{At, window_at, none_before, named_reaches, named_shortest, place_still, place_beyond, oldest_pos}
use Rattle.book.proofs.WalkTurns.{oldest_top}

-- the walk of a book that is ready stopped, and `end` is the figure there
pub record Ended (book : Book) (shape : Shape) (ring : List ℕ) (v : ℕ) (stop : Stop) (end : ℕ) : Type 0 where
  pub ready : Ready book shape (length ring)
  pub asked : 0 < v
  pub stopped : Stopped book (held_in book ring) v stop
  pub end_is : end ≡ stop.total - (book.tolerance - 1)

module _ {book : Book} {shape : Shape} {ring : List ℕ} {v : ℕ} {stop : Stop} {end : ℕ} (k : Ended book shape ring v stop end) where
  abbrev sound : Sound book
  sound = k.ready.usable.sound

  abbrev held : ℕ → ℕ
  held = held_in book ring

  ends : end ≡ end_figure book held stop.blocks
  ends = k.end_is ∙ ap (λ (t : ℕ). t - (book.tolerance - 1)) k.stopped.total_is

  -- L·g and p + j·c are far from 2^64
  pub step_top : book.bound * stop.quotient ≤ 65535 * 536862720
  step_top =
      mul-le-mul {n₂ = 65535} {m₂ = 536862720} sound.ranges.bound_high
      (rw k.stopped.quotient_is (oldest_top book ring sound stop.blocks))

  pub window_top : book.phase + stop.blocks * shape.block ≤ 4096 + 4096 * 4096
  window_top =
      let few : stop.blocks ≤ 4096 = omega (arith, k.stopped.few, slots_top book sound) in
      omega (
        arith,
        sound.kept_low,
        sound.kept_high,
        sound.ranges.length_high,
        mul-le-mul {n₂ = 4096} {m₂ = 4096} few (ready_block k.ready).2,
      )

  -- where the walk went past all that is kept
  pub not_reached_lem : end < v → 0 ≡ how_far_back book ring v
  unfolding how_far_back
  not_reached_lem low =
      sym (first_none (figure_of book held) v book.kept 1 (λ i some high. by i high (window_at book held i sound) k.stopped.done))
    where
      short : end_figure book held stop.blocks < v
      short = rw ends at low

      earlier : (j : ℕ) → j < suc stop.blocks → end_figure book held j < v
      earlier j h =
          ⊎_elim (λ le. (let e : j ≡ stop.blocks = omega arith in rw e short)) (λ lt. k.stopped.earlier j lt) (le_or_lt stop.blocks j)

      by : (i : ℕ) → i < 1 + book.kept → ((j : ℕ) × (e : ℕ) × At book held i j e)
          → (v ≤ end_figure book held stop.blocks) ⊎ (book.kept ≤ book.phase + stop.blocks * block_of book) → figure_of book held i < v
      by i high w (inl reached) = absurd (omega (arith, short))
      by i high w (inr behind) = at (le_or_lt w.0 stop.blocks)
        where
          at : (w.0 ≤ stop.blocks) ⊎ (stop.blocks < w.0) → figure_of book held i < v
          at (inl le) = none_before book held sound v k.asked (suc stop.blocks) earlier i w.0 w.1 w.2 (omega arith)
          at (inr gt) =
              absurd (omega (arith, w.2.place, w.2.near, mul-le-mul_right (block_of book) gt, suc-mul stop.blocks (block_of book)))

  -- where a block reaches v
  module _ (reached : v ≤ end) where
    reaches : v ≤ end_figure book held stop.blocks
    reaches = rw ends at reached

    step_pos : 0 < book.bound * oldest book held stop.blocks
    step_pos =
        mul-le-mul {n₁ = 1} {m₁ = 1} sound.ranges.bound_low
        (oldest_pos book held sound v stop.blocks k.asked k.stopped.earlier reaches)

    pub step_some : 0 < book.bound * stop.quotient
    step_some = rw k.stopped.quotient_is step_pos

    -- an open block that reaches it has items
    open_some : (p : ℕ) → book.phase ≡ p → v ≤ end_figure book held 0 → 0 < book.phase
    open_some zero q end-0 =
        absurd (omega (
          arith,
          sound.carry_high,
          k.asked,
          ap (λ (n : ℕ). n * book.bound) q,
          ap (λ (n : ℕ). book.tolerance * n) (sum_none held (slots_of book) book.head),
        ))
    open_some (suc p) q end-0 = omega arith

    -- so a place in the block that reaches it is a window
    place_in : (e j : ℕ) → v ≤ end_figure book held j → e ≤ furthest book j → (e < block_of book) × (e < book.phase + j * block_of book)
    place_in e zero there h =
        let some = open_some book.phase refl there in
        (omega (arith, sound.phase_high), omega arith)
    place_in e (suc j) there h =
        let low = block_low book.bound book.tolerance in
        (omega arith, omega (arith, suc-mul j (block_of book)))

    -- e places before the block's end
    module _ {most e : ℕ} (most_is : most ≡ furthest book stop.blocks) (e_is : e ≡ min most ((end - v) / (book.bound * stop.quotient))) where
      placed : e ≡ min (furthest book stop.blocks) ((end_figure book held stop.blocks - v) / (book.bound * oldest book held stop.blocks))
      placed = e_is ∙ (λ i. min (most_is i) ((ends i - v) / (book.bound * k.stopped.quotient_is i)))

      inside : (e < block_of book) × (e < book.phase + stop.blocks * block_of book)
      inside = place_in e stop.blocks reaches (omega (arith, placed))

      abbrev window : ℕ
      window = book.phase + stop.blocks * block_of book - e

      window_is : At book held window stop.blocks e
      window_is = record { place = omega (arith, inside.1); near = inside.0 }

      still : e * book.bound * oldest book held stop.blocks ≤ end_figure book held stop.blocks - v
      still =
          rw (mul_assoc e book.bound (oldest book held stop.blocks), placed)
          (place_still (furthest book stop.blocks) (end_figure book held stop.blocks - v) (book.bound * oldest book held stop.blocks) step_pos)

      beyond : (d : ℕ) → e < d → d ≤ furthest book stop.blocks
          → end_figure book held stop.blocks - v < d * book.bound * oldest book held stop.blocks
      beyond d more top =
          rw (mul_assoc d book.bound (oldest book held stop.blocks))
          (place_beyond (furthest book stop.blocks) (end_figure book held stop.blocks - v) (book.bound * oldest book held stop.blocks) step_pos
          d (rw placed at more) top)

      shortest : (i : ℕ) → 1 ≤ i → i < window → figure_of book held i < v
      shortest = named_shortest book held sound v k.asked window stop.blocks e window_is k.stopped.earlier reaches still beyond

      pub window_some : 1 ≤ book.phase + stop.blocks * shape.block - e
      window_some = rw k.ready.shape_is (omega (arith, inside.1))

      -- lies the window, if that is kept
      pub window_kept : book.phase + stop.blocks * shape.block - e ≤ book.kept
          → book.phase + stop.blocks * shape.block - e ≡ how_far_back book ring v
      unfolding how_far_back
      window_kept =
          rw k.ready.shape_is
          (λ kept. sym (first_is (figure_of book held) v book.kept 1 window (omega (arith, inside.1)) (omega arith)
          (named_reaches book held sound v k.asked window stop.blocks e window_is k.stopped.earlier reaches still beyond)
          shortest))

      pub window_gone : book.kept < book.phase + stop.blocks * shape.block - e → 0 ≡ how_far_back book ring v
      unfolding how_far_back
      window_gone =
          rw k.ready.shape_is
          (λ gone. sym (first_none (figure_of book held) v book.kept 1 (λ i some high. shortest i some (omega arith))))
