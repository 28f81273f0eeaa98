-- Uniqueness of both calls, and demand 1 of show: what each one's statement says is what its row says. `Post` is the statement itself, as it stands
-- at the function in src/lib.rt; ring and images are lent only to be read, so that no byte of them can change.
-- Of the raster two references can be told apart only by the name that the program logic gives each loan, which no program sees: what is settled is
-- the place and the bytes. No number can be read off a part: of its refusals proofs/Shows.antt tells.
-- Assumes nothing.
use Rattle.std.proofs.Common.{◌≡◌, ℕ, List, refl, sym, ap, ◌∙◌}
use Rattle.std.specs.Prelude.{Result}
use contract.Lifetimes.{Lfts}
use Rattle.refusals.specs.Call.{left_of}
use Rattle.refusals.specs.declared.Refusal.{Refusal}
use Rattle.refusals.specs.Demand1.{Numbered, Tells, Settles, Promised}
use Rattle.refusals.proofs.Calls.{asks_leaves, promised, settled, passed_on_numbered}
use Rattle.refusals.proofs.OneOutcome.{seen_apart, one_outcome}
use Rattle.book.specs.declared.Book.{Book}
use Rattle.book.specs.Answers.{Ruling}
use Rattle.image.specs.Part.{Part, part_of}
use Rattle.page.specs.declared.Choice as code
use Rattle.page.specs.declared.Picture as shown
use Rattle.page.specs.declared.Picture.TheVariants as pictures
use Rattle.page.specs.Answers.{Picture, Neither, Newest, Older, Choice}
use Rattle.page.specs.declared.Ticks.{Ticks}
use Rattle.page.specs.Shown.{ruling_on}
use Rattle.page.specs.Told.{as_picture, as_choice}
use Rattle.page.specs.Calls.{Lent, lent_by, no_choice, page_faults, page_call, show_call, part_call}
use Rattle.page.proofs.show.Reads as show_reads
use Rattle.page.proofs.raster.Reads as raster_reads

-- each fault passes a refusal on, which is not 0 where it holds
numbered : (ruling : Ruling) (newest older : List ℕ) → Numbered (page_faults ruling newest older)
numbered ruling newest older = (passed_on_numbered _, (passed_on_numbered _, (passed_on_numbered _, tt)))

module _ (book : Book) (window amount : ℕ) (lent : Lent) (ticks : Ticks) where
  pub show_leaves : lent ≡ left_of (show_call book window amount lent ticks)
  unfolding show_call page_call
  show_leaves = asks_leaves (show_call book window amount lent ticks) refl

  pub show_tells : Tells (λ (r : Choice). r.refusal) (show_call book window amount lent ticks)
  unfolding show_call page_call
  show_tells =
      record {
        numbered = numbered (ruling_on book lent.ring window amount) lent.newest lent.older;
        given_0 = λ none. refl;
        back_own = λ number. refl;
      }

-- In `a` stand the arguments in their order: record, ring, window, amount, newest image, older image, the ticks.
pub show_promised : (κs : Lfts 3)
    → Promised (show_reads.Post κs) (λ a r. as_choice r) (λ a e. lent_by a.1.0 a.1.1.1.1.0 a.1.1.1.1.1.0)
    (λ a. show_call a.0 a.1.1.0 a.1.1.1.0 (lent_by a.1.0 a.1.1.1.1.0 a.1.1.1.1.1.0) a.1.1.1.1.1.1.0)
    (λ (r : Choice). r.refusal)
show_promised κs = promised _ _ _ _ (λ a r e p. (p, show_leaves _ _ _ _ _)) _ (λ a. show_tells _ _ _ _ _)

-- the picture that is shown, off its form; neither counts for nothing
abbrev picture_back : Picture → shown.Picture
picture_back Neither = pictures.Newest
picture_back Newest = pictures.Newest
picture_back Older = pictures.Older

picture_own : (picture : shown.Picture) → picture_back (as_picture picture) ≡ picture
picture_own pictures.Newest = refl
picture_own pictures.Older = refl

-- a choice in numbers is the one result that looks so
choice_apart : (r r' : Result code.Choice Refusal) → as_choice r ≡ as_choice r' → r ≡ r'
choice_apart =
    seen_apart _ no_choice (λ (choice : Choice). choice.refusal) (λ choice. refl) (λ number. refl)
    (λ x y e. (let picture = sym (picture_own x.picture) ∙ ap (λ (choice : Choice). picture_back choice.picture) e ∙ picture_own y.picture in
    λ i. record { picture = picture i; offset = (e i).offset; length = (e i).length; age = (e i).age }))

-- uniqueness of the result itself, and not of the numbers that it tells alone
pub show_settled : (κs : Lfts 3) → Settles (show_reads.Post κs) (λ a r. r) (λ a e. lent_by a.1.0 a.1.1.1.1.0 a.1.1.1.1.1.0)
show_settled κs = one_outcome _ _ _ (show_promised κs).settled (λ a r r' e e' p p'. choice_apart r r')

-- Without the ticks: record, ring, window, amount, newest image, older image.
pub raster_settled : (κs : Lfts 2)
    → Settles {Shown = Part} {Lent = Lent} (raster_reads.Post κs) (λ a r. part_of r) (λ a e. lent_by a.1.0 a.1.1.1.1.0 a.1.1.1.1.1.0)
unfolding part_call page_call
raster_settled κs =
    settled (raster_reads.Post κs) (λ a r. part_of r) (λ a e. lent_by a.1.0 a.1.1.1.1.0 a.1.1.1.1.1.0)
    (λ a. part_call a.0 a.1.1.0 a.1.1.1.0 a.1.0 a.1.1.1.1.0 a.1.1.1.1.1.0)
    (λ a r e p. (p, asks_leaves _ refl))
