-- The results of the calls on images in numbers, as C is told them.
use Rattle.std.specs.Prelude.{Result}
use Rattle.refusals.specs.declared.Refusal.{Refusal}
use Rattle.refusals.specs.Refused.{in_numbers}
use Rattle.image.specs.declared.Layout.{Layout}
use Rattle.image.specs.declared.told.Numbers.{Numbers}
use Rattle.image.specs.Reading.{refused_with}

-- the numbers of an image, or zeros with the refusal
abbrev pub as_numbers : Result Layout Refusal → Numbers
as_numbers =
    in_numbers
    (λ layout. record {
      refusal = 0;
      width = layout.width;
      height = layout.height;
      maxval = layout.maxval;
      start = layout.start;
      used = layout.used;
    })
    refused_with
