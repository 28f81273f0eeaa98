-- What is asked of a number of a header (SCOPE, Images, Limits).
use Rattle.std.specs.Prelude.{ℕ, Bool, true, not, ◌&&◌, List, [], ◌∷◌, leb}

abbrev pub Test : Type 0
Test = ℕ → Bool

-- 1 to a largest number
unfoldable pub up_to : ℕ → Test
up_to largest value = leb 1 value && leb value largest

-- any number will do
abbrev pub any : Test
any value = true

-- a number that fails a test
abbrev pub failing : Test → Test
failing test value = not (test value)

-- as many numbers as there are tests, whatever they are
abbrev pub any_numbers : List Test → List Test
any_numbers [] = []
any_numbers (test ∷ tests) = any ∷ any_numbers tests
