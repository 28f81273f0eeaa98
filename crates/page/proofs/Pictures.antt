-- Which picture is shown: laws of the choice.
-- Assumes nothing.
use Rattle.std.proofs.Common.{◌≡◌, ℕ, ◌+◌, ◌-◌, List, [], sym, refl, arith, Bor}
use Rattle.image.specs.Reading.{numbers_of}
use Rattle.image.specs.Part.{cut, raster_of, empty_part}
use Rattle.page.specs.Answers.{Picture}
use Rattle.page.specs.Answers.{Neither, Newest, Older}
use Rattle.page.specs.Shown.{of_shown}

-- what is made of that which belongs to the picture shown is what belongs to it of that which is made of both
pub of_shown_made : {A B : Type 0} (f : A → B) (picture : Picture) (newest older : A)
    → f (of_shown picture newest older) ≡ of_shown picture (f newest) (f older)
of_shown_made f Neither newest older = refl
of_shown_made f Newest newest older = refl
of_shown_made f Older newest older = refl

-- the part that the numbers of the image shown lie around is its raster …
pub raster_of_shown : (picture : Picture) (newest older : Bor (List ℕ)) → let numbers = numbers_of (of_shown picture newest.now older.now) in
    cut (of_shown picture newest older) numbers.start (numbers.used - numbers.start) ≡ raster_of (of_shown picture newest older)
raster_of_shown picture newest older = rw (sym (of_shown_made (λ x. x.now) picture newest older))

-- … and no bytes at the start of a slice are the empty part there
pub cut_nothing : (s : Bor (List ℕ)) → cut s 0 0 ≡ empty_part s
cut_nothing s = λ i. record { start = (s.ref_ptr.0, zero_add i); bytes = [] }
  where
    zero_add : 0 + s.ref_ptr.1 ≡ s.ref_ptr.1
    zero_add = omega arith
