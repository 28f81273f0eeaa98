-- A number has 64 digits less its leading zeros.
use Rattle.book.proofs.DigitsByLeadingZeros.{digits_leading}
use Rattle.book.proofs.shape.binary_digits.Goals as goal

pub returns : goal.returns
returns c = digits_leading c.args.v c.ranges.v.fits
