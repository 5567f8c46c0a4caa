-- The lines of text, as lists of bytes, and what a buffer holds once one is written into it.
use Rattle.std.specs.Prelude.{ℕ, zero, suc, ◌+◌, ◌/◌, ◌%◌, Bool, cond, List, [], ◌∷◌, ◌++◌, ltb, leb, length, take, drop}

-- ---- numbers

-- the character of a decimal digit
abbrev pub digit : ℕ → ℕ
digit d = 48 + d

-- at most k digits of n: those of n / 10, if n has more than one digit, and then the last. So none is a leading zero
unfoldable pub decimal_in : ℕ → ℕ → List ℕ
decimal_in zero n = []
decimal_in (suc k) n = cond (ltb n 10) [] (decimal_in k (n / 10)) ++ (digit (n % 10) ∷ [])

-- a u64 has at most twenty digits
abbrev pub decimal : ℕ → List ℕ
decimal n = decimal_in 20 n

-- ---- lines

abbrev pub blank : ℕ
blank = 32

abbrev pub line_feed : ℕ
line_feed = 10

-- a number and the byte after it
abbrev pub ended : ℕ → ℕ → List ℕ
ended n stop = decimal n ++ (stop ∷ [])

-- the line of a record (CHIP, reader)
abbrev pub line_text : ℕ → ℕ → ℕ → ℕ → ℕ → List ℕ
line_text n op refusal value place = ended n blank ++ ended op blank ++ ended refusal blank ++ ended value blank ++ ended place line_feed

-- a word, a blank and a number
abbrev pub last_text : List ℕ → ℕ → List ℕ
last_text word n = (word ++ (blank ∷ [])) ++ ended n line_feed

-- `bad N`
abbrev pub bad_text : ℕ → List ℕ
bad_text n = last_text (98 ∷ 97 ∷ 100 ∷ []) n

-- `end N`
abbrev pub end_text : ℕ → List ℕ
end_text n = last_text (101 ∷ 110 ∷ 100 ∷ []) n

-- ---- writing

-- the buffer with the text over what stood from `at` on; before and behind the text it is as it was
abbrev pub over : List ℕ → ℕ → List ℕ → List ℕ
over out at text = take at out ++ text ++ drop (at + length text) out

abbrev pub fits : List ℕ → ℕ → List ℕ → Bool
fits out at text = leb (at + length text) (length out)

-- a text that does not fit is not written, and the position stays
abbrev pub written : List ℕ → ℕ → List ℕ → List ℕ
written out at text = cond (fits out at text) (over out at text) out

abbrev pub after : List ℕ → ℕ → List ℕ → ℕ
after out at text = cond (fits out at text) (at + length text) at
