-- Uniqueness of all calls, and demand 1 of those that read an image: what each one's statement says is what its row says.
-- Of the raster two references can be told apart only by the name that the program logic gives each loan, which no program sees: what is
-- settled is all that one can see, the place and the bytes. No number can be read off a part, so that of the raster demand 1 is
-- `raster_refused`.
-- Assumes nothing.
use Prim.Native.Nat.{ℕ, suc, ◌+◌, ◌-◌}
use mathlib.Core.List.{List, [], ◌++◌}
use mathlib.Core.Path.{◌≡◌, refl, sym, ap, ◌∙◌}
use native.Mathlib.Omega.{arith}
use contract.Lifetimes.{Lfts}
use denote.Ref.{Bor}
use Rattle.std.specs.Prelude.{Result}
use Rattle.refusals.specs.declared.Refusal.{Refusal}
use Rattle.refusals.specs.First.{Fault}
use Rattle.refusals.specs.Call.{result_of, left_of}
use Rattle.refusals.specs.Demand1.{NoneHolds, FirstThatHolds, Tells, Settles, Promised}
use Rattle.refusals.proofs.Calls.{asks_leaves, promised, settled, result_cases, passed_on_numbered, passed_on_none, passed_on_alone}
use Rattle.refusals.proofs.Calls.{written_out, first_holds, nothing_holds}
use Rattle.refusals.proofs.OneOutcome.{seen_apart, one_outcome}
use Rattle.image.specs.declared.Layout.{Layout}
use Rattle.image.specs.declared.told.Numbers.{Numbers}
use Rattle.image.specs.Kinds.{Kind, pgm, pbm}
use Rattle.image.specs.Refused.{as_numbers}
use Rattle.image.specs.Reading.{Reading, refused_with, size_faults, pixel_faults, raster_refusal, named, numbers_of, numbers_row, header_call}
use Rattle.image.specs.Mask.{mask_numbers_of, mask_call}
use Rattle.image.specs.Part.{Part, part_of, cut, raster_of, empty_part, raster_call}
use Rattle.image.proofs.ReadingLies.{refused_reading_lem}
use Rattle.image.proofs.header.Reads as header_reads
use Rattle.image.proofs.mask_header.Reads as mask_header_reads
use Rattle.image.proofs.raster.Reads as raster_reads
use Rattle.image.proofs.pair_value.Reads as pair_value_reads

-- promise 1.3: a refused reading has nothing but its refusal, of an image as of a mask …
pub refused_all_zero : (s : List ℕ) → ((numbers_of s).refusal ≡ 0 → ⊥) → numbers_of s ≡ refused_with (numbers_of s).refusal
unfolding numbers_of
refused_all_zero s ne = ap (λ (r : Reading). named r) (refused_reading_lem pgm s ne)

pub mask_all_zero : (s : List ℕ) → ((mask_numbers_of s).refusal ≡ 0 → ⊥) → mask_numbers_of s ≡ refused_with (mask_numbers_of s).refusal
unfolding mask_numbers_of
mask_all_zero s ne = ap (λ (r : Reading). named r) (refused_reading_lem pbm s ne)

-- … and the raster of a refused image is the empty part where the slice starts
pub raster_refused : (s : Bor (List ℕ)) → ((numbers_of s.now).refusal ≡ 0 → ⊥) → raster_of s ≡ empty_part s
raster_refused s ne =
    ap (λ (n : Numbers). cut s n.start (n.used - n.start)) (refused_all_zero s.now ne)
    ∙ λ i. record { start = (s.ref_ptr.0, zero_add i); bytes = [] }
  where
    zero_add : 0 + s.ref_ptr.1 ≡ s.ref_ptr.1
    zero_add = omega arith

-- the one fault is the reading's own refusal, and what then comes back is what the reading gives
numbers_result : (numbers : Numbers) (s : List ℕ) → ((numbers.refusal ≡ 0 → ⊥) → numbers ≡ refused_with numbers.refusal)
    → result_of (numbers_row numbers s) ≡ numbers
numbers_result numbers s zeros =
    result_cases (λ r. r ≡ numbers) (numbers_row numbers s) (λ e. refl)
    (λ number e. (let own : numbers.refusal ≡ suc number = sym (passed_on_alone numbers.refusal) ∙ e in
    ap refused_with (sym own) ∙ sym (zeros (λ none. omega arith))))

pub header_result : (s : List ℕ) → result_of (header_call s) ≡ numbers_of s
unfolding header_call
header_result s = numbers_result (numbers_of s) s (refused_all_zero s)

pub mask_result : (s : List ℕ) → result_of (mask_call s) ≡ mask_numbers_of s
unfolding mask_call
mask_result s = numbers_result (mask_numbers_of s) s (mask_all_zero s)

pub raster_result : (s : Bor (List ℕ)) → result_of (raster_call s) ≡ raster_of s
unfolding raster_call
raster_result s =
    result_cases (λ r. r ≡ raster_of s) (raster_call s) (λ e. refl)
    (λ number e. (let own : (numbers_of s.now).refusal ≡ suc number = sym (passed_on_alone (numbers_of s.now).refusal) ∙ e in
    sym (raster_refused s (λ none. omega arith))))

-- the bytes are left as they are, and the numbers tell their refusal
numbers_leaves : (numbers : Numbers) (s : List ℕ) → s ≡ left_of (numbers_row numbers s)
numbers_leaves numbers s = asks_leaves (numbers_row numbers s) refl

numbers_tells : (numbers : Numbers) (s : List ℕ) → Tells (λ (n : Numbers). n.refusal) (numbers_row numbers s)
numbers_tells numbers s =
    record {
      numbered = (passed_on_numbered numbers.refusal, tt);
      given_0 = λ none. passed_on_none numbers.refusal none.0;
      back_own = λ number. refl;
    }

pub header_leaves : (s : List ℕ) → s ≡ left_of (header_call s)
unfolding header_call
header_leaves s = numbers_leaves (numbers_of s) s

pub header_tells : (s : List ℕ) → Tells (λ (n : Numbers). n.refusal) (header_call s)
unfolding header_call
header_tells s = numbers_tells (numbers_of s) s

pub mask_leaves : (s : List ℕ) → s ≡ left_of (mask_call s)
unfolding mask_call
mask_leaves s = numbers_leaves (mask_numbers_of s) s

pub mask_tells : (s : List ℕ) → Tells (λ (n : Numbers). n.refusal) (mask_call s)
unfolding mask_call
mask_tells s = numbers_tells (mask_numbers_of s) s

-- the numbers of an image are those of the one result that looks so
numbers_apart : (r r' : Result Layout Refusal) → as_numbers r ≡ as_numbers r' → r ≡ r'
numbers_apart =
    seen_apart _ refused_with (λ (n : Numbers). n.refusal) (λ layout. refl) (λ number. refl)
    (λ x y e i. record { width = (e i).width; height = (e i).height; maxval = (e i).maxval; start = (e i).start; used = (e i).used })

module _ (κs : Lfts 1) where
  -- both promises of `header`
  pub header_promised : Promised (header_reads.Post κs) (λ a r. as_numbers r) (λ a e. a.0.now) (λ a. header_call a.0.now) (λ (n : Numbers). n.refusal)
  header_promised =
      promised _ _ _ _ (λ a r e p. (p ∙ sym (header_result a.0.now), header_leaves a.0.now)) _ (λ a. header_tells a.0.now)

  -- and of `mask_header`
  pub mask_header_promised : Promised (mask_header_reads.Post κs) (λ a r. as_numbers r) (λ a e. a.0.now) (λ a. mask_call a.0.now) (λ (n : Numbers). n.refusal)
  mask_header_promised =
      promised _ _ _ _ (λ a r e p. (p ∙ sym (mask_result a.0.now), mask_leaves a.0.now)) _ (λ a. mask_tells a.0.now)

  -- and uniqueness of their results themselves, and not of the numbers that they tell alone
  pub header_settled : Settles (header_reads.Post κs) (λ a r. r) (λ a e. a.0.now)
  header_settled = one_outcome _ _ _ header_promised.settled (λ a r r' e e' p p'. numbers_apart r r')

  pub mask_header_settled : Settles (mask_header_reads.Post κs) (λ a r. r) (λ a e. a.0.now)
  mask_header_settled = one_outcome _ _ _ mask_header_promised.settled (λ a r r' e e' p p'. numbers_apart r r')

  -- uniqueness of `raster`
  pub raster_settled : Settles {Shown = Part} (raster_reads.Post κs) (λ a r. part_of r) (λ a e. a.0.now)
  unfolding raster_call
  raster_settled =
      settled (raster_reads.Post κs) (λ a r. part_of r) (λ a e. a.0.now) (λ a. raster_call a.0)
      (λ a r e p. (p ∙ sym (raster_result a.0), asks_leaves (raster_call a.0) refl))

  -- uniqueness of `pair_value`, which refuses nothing
  pub pair_value_settled : Settles (pair_value_reads.Post κs) (λ a r. r) (λ a e. a.0.now)
  pair_value_settled a r r' e e' p p' = (p ∙ sym p', refl)

-- promise 1.2: of the raster's faults, in an image of any kind, the first that holds gives the refusal (those of the header come in the order
-- of its bytes)
module _ (kind : Kind) (s numbers : List ℕ) (start : ℕ) where
  abbrev faults : List Fault
  faults = size_faults kind s numbers start ++ pixel_faults kind s numbers start

  pub raster_first : (refusal : ℕ) → raster_refusal kind s numbers start ≡ suc refusal
      → FirstThatHolds (size_faults kind s numbers start ++ pixel_faults kind s numbers start) (suc refusal)
  unfolding raster_refusal
  raster_first refusal e = first_holds faults refusal (written_out faults tt) e

  pub raster_none : raster_refusal kind s numbers start ≡ 0 → NoneHolds (size_faults kind s numbers start ++ pixel_faults kind s numbers start)
  unfolding raster_refusal
  raster_none e = nothing_holds faults (written_out faults tt) e
