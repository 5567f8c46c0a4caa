-- Sets of models in one word, a bit for each model (CHIP, words of a table). The same bits serve an instance's flags.
use Rattle.std.specs.Prelude.{ℕ, zero, suc, ◌+◌, ◌-◌, ◌*◌, ◌/◌, ◌%◌, ◌^◌, Bool, cond, List, eqb, ltb, length}
use Rattle.logic.specs.Search.{kept_from}

-- a word has 64 bits
abbrev pub bits : ℕ
bits = 64

-- the empty set
abbrev pub none : ℕ
none = 0

-- bit m of the word, 0 or 1
abbrev pub bit_of : ℕ → ℕ → ℕ
bit_of s m = s / 2 ^ m % 2

abbrev pub has : ℕ → ℕ → Bool
has s m = eqb (bit_of s m) 1

-- the set with m in it; a number with no bit of its own changes nothing
abbrev pub insert : ℕ → ℕ → ℕ
insert s m = cond (ltb m bits) (s + (1 - bit_of s m) * 2 ^ m) s

-- the set with m taken out
abbrev pub remove : ℕ → ℕ → ℕ
remove s m = s - bit_of s m * 2 ^ m

-- the numbers below n that pass a test
unfoldable pub set_of : ℕ → (ℕ → Bool) → ℕ
set_of zero f = none
set_of (suc n) f = cond (f n) (insert (set_of n f) n) (set_of n f)

-- the members, the lowest first, and how many there are
unfoldable pub members : ℕ → List ℕ
members s = kept_from (has s) bits 0

abbrev pub size_of : ℕ → ℕ
size_of s = length (members s)
