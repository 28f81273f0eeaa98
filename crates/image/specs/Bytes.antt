-- The bytes that a header is made of, by name (SCOPE, Images).
use Rattle.std.specs.Prelude.{ℕ, Bool, ◌||◌, eqb}

-- `P`, with which every sign begins, and `5`, which says that a PGM comes
abbrev pub letter_p : ℕ
letter_p = 80

abbrev pub gray_sign : ℕ
gray_sign = 53

-- `4`, which says that a PBM comes: a mask
abbrev pub bit_sign : ℕ
bit_sign = 52

-- `#`, with which a comment begins
abbrev pub hash : ℕ
hash = 35

abbrev pub space : ℕ
space = 32

abbrev pub tab : ℕ
tab = 9

abbrev pub carriage_return : ℕ
carriage_return = 13

abbrev pub line_feed : ℕ
line_feed = 10

-- white space: space, TAB, CR, LF
unfoldable pub white : ℕ → Bool
white byte = eqb byte space || (eqb byte tab || (eqb byte carriage_return || eqb byte line_feed))

-- the end of a line: CR or LF
unfoldable pub line_end : ℕ → Bool
line_end byte = eqb byte carriage_return || eqb byte line_feed
