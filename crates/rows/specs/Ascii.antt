-- A quoted text as its bytes: the number of each character, one after the other. Every text of Row.antt is plain ASCII, where a
-- character's number is its byte (and the byte strings of the code are proved to be these very texts).
use Rattle.std.specs.Prelude.{ℕ, List, [], ◌∷◌}
use Prim.Native.Char.{code}
use Prim.Native.String.{String, [] as nothing, ◌∷◌ as ◌then◌}

abbrev pub ascii : String → List ℕ
ascii nothing = []
ascii (character then text) = code character ∷ ascii text
