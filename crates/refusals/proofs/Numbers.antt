-- Laws of refusals and their numbers: no refusal has the number 0, and each number is that of one refusal.
-- Assumes nothing.
use Rattle.std.proofs.Common.{◌≡◌, ℕ, zero, suc, List, [], ◌∷◌, refl, sym, ap, ◌∙◌, arith}
use Rattle.refusals.specs.declared.Refusal.{Refusal}
use Rattle.refusals.specs.declared.Refusal.TheVariants.{BadBound, BadLength, BadTolerance, RingTooShort, WindowTooLong, ZeroAsked, ItemTooLarge, NoBook, NotReached, BadRingCall, WrongByte, NumberOutOfRange, ImageTooLarge, EndsTooEarly, PixelTooLarge, ImagesDiffer, BookRests, RowTooShort, CannotCoarsen, BadZones, NumbersTooShort, BadLitCall, BufferTooShort}
use Rattle.refusals.specs.Refused.{number_of}

-- a refusal is never 0, which says that nothing is refused
pub number_not_0 : (refusal : Refusal) → number_of refusal ≡ 0 → ⊥
number_not_0 BadBound e = omega arith
number_not_0 BadLength e = omega arith
number_not_0 BadTolerance e = omega arith
number_not_0 RingTooShort e = omega arith
number_not_0 WindowTooLong e = omega arith
number_not_0 ZeroAsked e = omega arith
number_not_0 ItemTooLarge e = omega arith
number_not_0 NoBook e = omega arith
number_not_0 NotReached e = omega arith
number_not_0 BadRingCall e = omega arith
number_not_0 WrongByte e = omega arith
number_not_0 NumberOutOfRange e = omega arith
number_not_0 ImageTooLarge e = omega arith
number_not_0 EndsTooEarly e = omega arith
number_not_0 PixelTooLarge e = omega arith
number_not_0 ImagesDiffer e = omega arith
number_not_0 BookRests e = omega arith
number_not_0 RowTooShort e = omega arith
number_not_0 CannotCoarsen e = omega arith
number_not_0 BadZones e = omega arith
number_not_0 NumbersTooShort e = omega arith
number_not_0 BadLitCall e = omega arith
number_not_0 BufferTooShort e = omega arith

-- the refusals in the order of their numbers, and the one at a place; behind the last one it counts for nothing
abbrev at : ℕ → List Refusal → Refusal
at n [] = BadBound
at zero (refusal ∷ later) = refusal
at (suc n) (refusal ∷ later) = at n later

abbrev refused_by : ℕ → Refusal
refused_by number =
    at number
    (BadBound ∷ BadBound ∷ BadLength ∷ BadTolerance ∷ RingTooShort ∷ WindowTooLong ∷ ZeroAsked ∷ ItemTooLarge ∷ NoBook ∷ NotReached ∷ BadRingCall
    ∷ WrongByte ∷ NumberOutOfRange ∷ ImageTooLarge ∷ EndsTooEarly ∷ PixelTooLarge ∷ ImagesDiffer ∷ BookRests ∷ RowTooShort ∷ CannotCoarsen
    ∷ BadZones ∷ NumbersTooShort ∷ BadLitCall ∷ BufferTooShort ∷ [])

number_back : (refusal : Refusal) → refused_by (number_of refusal) ≡ refusal
number_back BadBound = refl
number_back BadLength = refl
number_back BadTolerance = refl
number_back RingTooShort = refl
number_back WindowTooLong = refl
number_back ZeroAsked = refl
number_back ItemTooLarge = refl
number_back NoBook = refl
number_back NotReached = refl
number_back BadRingCall = refl
number_back WrongByte = refl
number_back NumberOutOfRange = refl
number_back ImageTooLarge = refl
number_back EndsTooEarly = refl
number_back PixelTooLarge = refl
number_back ImagesDiffer = refl
number_back BookRests = refl
number_back RowTooShort = refl
number_back CannotCoarsen = refl
number_back BadZones = refl
number_back NumbersTooShort = refl
number_back BadLitCall = refl
number_back BufferTooShort = refl

-- two refusals with one number are one
pub number_once : (one other : Refusal) → number_of one ≡ number_of other → one ≡ other
number_once one other e = sym (number_back one) ∙ ap refused_by e ∙ number_back other
