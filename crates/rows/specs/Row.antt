-- The lines that the program writes: fields parted by commas, each line ended by CR LF, as in RFC 4180 (SCOPE, Program).
use Rattle.std.specs.Prelude.{ℕ, Option, None, Some, List, [], ◌∷◌, ◌++◌}
use Prim.Native.Char.{code}
use Rattle.rows.specs.Ascii.{ascii}
use Rattle.rows.specs.declared.Word.{Word}
use Rattle.rows.specs.declared.Word.TheVariants.{Early, Live, Frozen, Undecided, Resting}
use Rattle.decimals.specs.Decimal.{decimal}

-- the byte that parts fields
abbrev pub comma : ℕ
comma = code ","

-- the two bytes that end a line
abbrev pub carriage_return : ℕ
carriage_return = code "\r"

abbrev pub line_feed : ℕ
line_feed = code "\n"

abbrev pub line_end : List ℕ
line_end = carriage_return ∷ line_feed ∷ []

-- a number and the comma behind it
unfoldable pub field_text : ℕ → List ℕ
field_text n = decimal n ++ comma ∷ []

-- the score against the frame before, which is empty for the first frame, and the comma behind it
unfoldable pub score_text : Option ℕ → List ℕ
score_text None = comma ∷ []
score_text (Some score) = field_text score

-- the last field, and the line's end (no run of the program says `resting`: watch, `never_resting`)
unfoldable pub word_text : Word → List ℕ
word_text Early = ascii "early" ++ line_end
word_text Live = ascii "live" ++ line_end
word_text Frozen = ascii "frozen" ++ line_end
word_text Undecided = ascii "undecided" ++ line_end
word_text Resting = ascii "resting" ++ line_end

-- frame number, score, kept, total, verdict
unfoldable pub row_text : ℕ → Option ℕ → ℕ → ℕ → Word → List ℕ
row_text frame score kept total word =
    field_text frame ++ (score_text score ++ (field_text kept ++ (field_text total ++ word_text word)))

-- frame number, `refused ` with the number, three empty fields
unfoldable pub refused_text : ℕ → ℕ → List ℕ
refused_text frame refusal = field_text frame ++ (ascii "refused " ++ (decimal refusal ++ (ascii ",,," ++ line_end)))

-- the first line: the names of the fields
unfoldable pub head_text : List ℕ
head_text = ascii "frame,score,kept,total,verdict" ++ line_end
