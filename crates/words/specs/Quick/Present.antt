-- The entries of a kind whose first word stands in the table.
use Rattle.std.specs.Prelude.{◌≡◌, cond, List, ℕ, ◌+◌, ◌-◌, ◌/◌, ◌≤◌, ◌<◌, leb, ltb, length}
use Rattle.words.specs.declared.layout.Kind.{Kind}
use Rattle.words.specs.Layout.{base_of, stride_of, count_of, place_of}
use Rattle.words.specs.Entries.{word_of}

-- so many begin below a length that is past the first one's place
abbrev pub reached : Kind → ℕ → ℕ
reached kind len = (len - base_of kind - 1) / stride_of kind + 1

-- how many a table of this length has: none, as many as it reaches, or all
abbrev pub present_in : Kind → ℕ → ℕ
present_in kind len = cond (leb len (base_of kind)) 0 (cond (ltb (reached kind len) (count_of kind)) (reached kind len) (count_of kind))

-- the first n stand there, and the others read as free
pub record Present (t : List ℕ) (kind : Kind) (n : ℕ) : Type 0 where
  pub within : n ≤ count_of kind
  pub there : (i : ℕ) → i < n → place_of kind i < length t
  pub past : (i : ℕ) → n ≤ i → word_of t kind i 0 ≡ 0
