-- The results of the page's calls as the rows of the calls have them (specs/Calls.antt).
use Rattle.std.specs.Prelude.{Result}
use Rattle.refusals.specs.declared.Refusal.{Refusal}
use Rattle.refusals.specs.Refused.{in_numbers}
use Rattle.page.specs.declared.Picture.TheVariants as pictures
use Rattle.page.specs.Answers.{Picture, Newest, Older, Choice, Picked}
use Rattle.page.specs.Picked.{no_picture}
use Rattle.page.specs.Calls.{no_choice}
use Rattle.page.specs.declared.Picture as code
use Rattle.page.specs.declared.Choice as chosen
use Rattle.page.specs.declared.picking.Picked as picking

-- the picture that is shown
abbrev pub as_picture : code.Picture → Picture
as_picture pictures.Newest = Newest
as_picture pictures.Older = Older

-- a choice, or neither picture and zeros
abbrev pub as_choice : Result chosen.Choice Refusal → Choice
as_choice =
    in_numbers
    (λ choice. record {
      refusal = 0;
      picture = as_picture choice.picture;
      offset = choice.offset;
      length = choice.length;
      age = choice.age;
    })
    no_choice

-- what is picked, or neither picture
abbrev pub as_picked : Result picking.Picked Refusal → Picked
as_picked =
    in_numbers (λ picked. record { refusal = 0; picture = as_picture picked.picture; start = picked.start; end = picked.end }) no_picture
