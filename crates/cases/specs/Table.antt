-- The starred cases of SCOPE, Cases, A to E and those of a trend: each row asks something of a history and gives the answer.
use Rattle.std.specs.Prelude.{ℕ, List, [], ◌∷◌}
use Rattle.book.specs.declared.verdicts.Verdict.TheVariants.{Live, Frozen, Undecided}
use Rattle.cases.specs.History.{L◌n◌D◌lent◌, History, opened, ◌then◌}
use Rattle.cases.specs.Question.{Question, shape, opening, state, adding, total, truly, how_far, verdict, trend, truly_trend, ◌over◌}
use Rattle.cases.specs.Question.{Answer, c◌s◌z◌b◌B◌, opens, R◌p◌kept◌head◌ring◌, figure, true, window, told, signed, truly_signed, refused, plus, minus}
use Rattle.cases.specs.Answering.{answer_to}

infix 10 ◌asks◌gives◌
pub data Row : Type 0 where
  ◌asks◌gives◌ : History → Question → Answer → Row

-- A: L 5, D 10, n 6, items 3 4 5 5 0 1 5 …
abbrev pub case_a : History
case_a = opened (L 5 n 6 D 10 lent (0xff ∷ [])) then 3 then 4 then 5 then 5 then 0 then 1 then 5

-- … with one more item 2 …
abbrev case_a2 : History
case_a2 = case_a then 2

-- … and with an item 6 in between, which is refused
abbrev case_a6 : History
case_a6 = opened (L 5 n 6 D 10 lent (0xff ∷ [])) then 3 then 4 then 5 then 5 then 0 then 6 then 1 then 5

-- B: L 3, D 2, n 4, items 1 3 0 3
abbrev case_b : History
case_b = opened (L 3 n 4 D 2 lent (0xff ∷ [])) then 1 then 3 then 0 then 3

-- C: L 9, D 1, n 3, items 9 0 4 2
abbrev case_c : History
case_c = opened (L 9 n 3 D 1 lent (0xff ∷ 0xff ∷ [])) then 9 then 0 then 4 then 2

-- D: L 5, n 3, and D 10, 15, 16
abbrev case_d : ℕ → History
case_d tolerance = opened (L 5 n 3 D tolerance lent (0xff ∷ []))

-- trends of a book with L 1, D 2, n 2: the farthest below the true one, the farthest above it, and 0 where the true one is 0 …
abbrev pub far_below : History
far_below = opened (L 1 n 2 D 2 lent (0xff ∷ [])) then 0 then 1 then 0 then 1

abbrev pub far_above : History
far_above = opened (L 1 n 2 D 2 lent (0xff ∷ [])) then 1 then 0

abbrev pub level : History
level = opened (L 1 n 2 D 2 lent (0xff ∷ [])) then 0 then 1 then 1 then 1

-- … and, with L 2, D 3, n 2, one so far above the true one that it has the other sign
abbrev pub other_sign : History
other_sign = opened (L 2 n 2 D 3 lent (0xff ∷ [])) then 2 then 1

abbrev pub table : List Row
table =
    -- A
    (case_a asks shape gives c 2 s 3 z 1 b 1 B 1)
    ∷ (case_a asks state gives R 13 p 1 kept 6 head 0 ring (0x40 ∷ []))
    -- A, windows 0 to 6, and 7
    ∷ (case_a asks total 0 gives figure 0)
    ∷ (case_a asks total 1 gives figure 4)
    ∷ (case_a asks total 2 gives figure 4)
    ∷ (case_a asks total 3 gives figure 4)
    ∷ (case_a asks total 4 gives figure 9)
    ∷ (case_a asks total 5 gives figure 14)
    ∷ (case_a asks total 6 gives figure 14)
    ∷ (case_a asks truly 0 gives true 0)
    ∷ (case_a asks truly 1 gives true 5)
    ∷ (case_a asks truly 2 gives true 6)
    ∷ (case_a asks truly 3 gives true 6)
    ∷ (case_a asks truly 4 gives true 11)
    ∷ (case_a asks truly 5 gives true 16)
    ∷ (case_a asks truly 6 gives true 20)
    ∷ (case_a asks total 7 gives refused 5)
    -- A, how far back
    ∷ (case_a asks how_far 4 gives window 1)
    ∷ (case_a asks how_far 5 gives window 4)
    ∷ (case_a asks how_far 14 gives window 5)
    ∷ (case_a asks how_far 15 gives refused 9)
    -- A, window 4
    ∷ (case_a asks verdict 4 9 gives told (Live 9))
    ∷ (case_a asks verdict 4 10 gives told (Undecided 9))
    ∷ (case_a asks verdict 4 18 gives told (Undecided 9))
    ∷ (case_a asks verdict 4 19 gives told (Frozen 9))
    -- A with one more item 2
    ∷ (case_a2 asks state gives R 5 p 0 kept 6 head 1 ring (0xc0 ∷ []))
    ∷ (case_a2 asks total 6 gives figure 16)
    ∷ (case_a2 asks truly 6 gives true 18)
    -- B
    ∷ (case_b asks shape gives c 1 s 4 z 2 b 2 B 1)
    ∷ (case_b asks state gives R 1 p 0 kept 4 head 0 ring (0x21 ∷ []))
    ∷ (case_b asks total 1 gives figure 2)
    ∷ (case_b asks total 2 gives figure 2)
    ∷ (case_b asks total 3 gives figure 6)
    ∷ (case_b asks total 4 gives figure 6)
    -- C
    ∷ (case_c asks shape gives c 1 s 3 z 9 b 4 B 2)
    ∷ (case_c asks state gives R 0 p 0 kept 3 head 1 ring (0x20 ∷ 0x40 ∷ []))
    ∷ (case_c asks total 1 gives figure 2)
    ∷ (case_c asks total 2 gives figure 6)
    ∷ (case_c asks total 3 gives figure 6)
    -- D
    ∷ (case_d 10 asks shape gives c 2 s 2 z 1 b 1 B 1)
    ∷ (case_d 15 asks opening gives opens)
    ∷ (case_d 16 asks opening gives refused 3)
    -- E: item 5 is taken, 6 is refused …
    ∷ (case_a asks adding 5 gives R 8 p 0 kept 6 head 1 ring (0xc0 ∷ []))
    ∷ (case_a asks adding 6 gives refused 7)
    -- … and leaves no trace: not in the record, not in the ring, not in the true totals
    ∷ (case_a6 asks state gives R 13 p 1 kept 6 head 0 ring (0x40 ∷ []))
    ∷ (case_a6 asks truly 2 gives true 6)
    ∷ (case_a6 asks truly 3 gives true 6)
    ∷ (case_a6 asks truly 6 gives true 20)
    -- E: a ring of 0 bytes, in every call that is asked here
    ∷ (case_a asks opening over [] gives refused 4)
    ∷ (case_a asks adding 5 over [] gives refused 4)
    ∷ (case_a asks total 4 over [] gives refused 4)
    ∷ (case_a asks how_far 5 over [] gives refused 4)
    ∷ (case_a asks verdict 4 9 over [] gives refused 4)
    ∷ (case_a asks trend 2 over [] gives refused 4)
    -- A, trends: windows 0 to 3, whose figures and true totals stand above, and 4
    ∷ (case_a asks trend 0 gives signed (plus 0))
    ∷ (case_a asks trend 1 gives signed (plus 4))
    ∷ (case_a asks trend 2 gives signed (minus 1))
    ∷ (case_a asks trend 3 gives signed (minus 6))
    ∷ (case_a asks truly_trend 0 gives truly_signed (plus 0))
    ∷ (case_a asks truly_trend 1 gives truly_signed (plus 4))
    ∷ (case_a asks truly_trend 2 gives truly_signed (plus 1))
    ∷ (case_a asks truly_trend 3 gives truly_signed (minus 8))
    ∷ (case_a asks trend 4 gives refused 5)
    -- a trend 2·(D − 1) below the true one, and of the other sign
    ∷ (far_below asks total 1 gives figure 0)
    ∷ (far_below asks total 2 gives figure 1)
    ∷ (far_below asks truly 1 gives true 1)
    ∷ (far_below asks truly 2 gives true 1)
    ∷ (far_below asks trend 1 gives signed (minus 1))
    ∷ (far_below asks truly_trend 1 gives truly_signed (plus 1))
    -- D − 1 above it
    ∷ (far_above asks total 1 gives figure 0)
    ∷ (far_above asks total 2 gives figure 0)
    ∷ (far_above asks truly 1 gives true 0)
    ∷ (far_above asks truly 2 gives true 1)
    ∷ (far_above asks trend 1 gives signed (plus 0))
    ∷ (far_above asks truly_trend 1 gives truly_signed (minus 1))
    -- D − 1 above it, and of the other sign
    ∷ (other_sign asks total 1 gives figure 1)
    ∷ (other_sign asks total 2 gives figure 1)
    ∷ (other_sign asks truly 1 gives true 1)
    ∷ (other_sign asks truly 2 gives true 3)
    ∷ (other_sign asks trend 1 gives signed (plus 1))
    ∷ (other_sign asks truly_trend 1 gives truly_signed (minus 1))
    -- both 0, for a window of 1 and for one of 0
    ∷ (level asks total 1 gives figure 1)
    ∷ (level asks total 2 gives figure 2)
    ∷ (level asks truly 1 gives true 1)
    ∷ (level asks truly 2 gives true 2)
    ∷ (level asks trend 1 gives signed (plus 0))
    ∷ (level asks truly_trend 1 gives truly_signed (plus 0))
    ∷ (level asks total 0 gives figure 0)
    ∷ (level asks truly 0 gives true 0)
    ∷ (level asks trend 0 gives signed (plus 0))
    ∷ (level asks truly_trend 0 gives truly_signed (plus 0))
    ∷ []

-- a row's answer by the definitions, and the one that was worked by hand
abbrev pub answered : Row → Answer
answered (history asks question gives answer) = answer_to history question

abbrev pub given : Row → Answer
given (history asks question gives answer) = answer
