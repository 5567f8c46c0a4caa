-- The words in use of two tables.
use Rattle.std.specs.Prelude.{ℕ, min, Bool, ◌&&◌, List, ◌++◌, eqb, leb, length, get_or, take, drop}
use Rattle.words.specs.Layout.{words}
use Rattle.logic.specs.Search.{all_b}

-- a table has all the words in use (CHIP, sound tables)
abbrev pub is_long : List ℕ → Bool
is_long t = leb words (length t)

-- two tables agree in them
abbrev pub same_at : List ℕ → List ℕ → ℕ → Bool
same_at a b i = eqb (get_or a i 0) (get_or b i 0)

abbrev pub agree : List ℕ → List ℕ → Bool
agree a b = is_long a && is_long b && all_b words (same_at a b)

-- how many words in use both tables have
abbrev pub in_both : List ℕ → List ℕ → ℕ
in_both a b = min words (min (length a) (length b))

-- a commit or an abort copies the words in use, as far as both tables have them; what lies beyond stays
abbrev pub copied : List ℕ → List ℕ → List ℕ
copied from to = take (in_both from to) from ++ drop (in_both from to) to
