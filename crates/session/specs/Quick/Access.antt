-- The live models of open repositories as a set, by which sound_access is tested.
use Rattle.std.specs.Prelude.{ℕ, Bool, not, ◌&&◌, List}
use Rattle.words.specs.declared.layout.Kind.TheVariants.{Model}
use Rattle.words.specs.Sets.{bits, has, set_of}
use Rattle.words.specs.Fields.{repository_in, is_free}
use Rattle.tables.specs.View.{label_at}

-- the label of a live model whose repository is open
abbrev pub is_seen : ℕ → ℕ → Bool
is_seen repositories label = not (is_free label) && has repositories (repository_in label)

-- model m is one of them
abbrev pub seen_at : List ℕ → ℕ → ℕ → Bool
seen_at working repositories m = is_seen repositories (label_at working Model m)

abbrev pub in_open : List ℕ → ℕ → ℕ
in_open working repositories = set_of bits (seen_at working repositories)
