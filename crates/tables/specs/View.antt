-- What the words of a table say: a name for each.
use Rattle.std.specs.Prelude.{ℕ, ◌+◌, Bool, not, ◌&&◌, List}
use Rattle.words.specs.declared.layout.Kind.{Kind}
use Rattle.words.specs.declared.layout.Kind.TheVariants.{SchemaInstance, Instance}
use Rattle.words.specs.Layout.{count_of}
use Rattle.logic.specs.Search.{any_b}
use Rattle.words.specs.Sets.{has}
use Rattle.words.specs.Fields.{type_in, model_in, flagged}
use Rattle.words.specs.Entries.{word_of, free_at}

-- an entry is live if it is not free; a number past the last entry is not live
abbrev pub is_live : List ℕ → Kind → ℕ → Bool
is_live t kind i = not (free_at t kind i)

-- the label of a model or a schema instance
abbrev pub label_at : List ℕ → Kind → ℕ → ℕ
label_at t kind i = word_of t kind i 0

-- the set of a schema instance
abbrev pub set_at : List ℕ → ℕ → ℕ
set_at t s = word_of t SchemaInstance s 1

-- some set has both models
unfoldable pub share_set : List ℕ → ℕ → ℕ → Bool
share_set t m n = any_b (count_of SchemaInstance) (λ s. has (set_at t s) m && has (set_at t s) n)

-- an instance: its header, with type, model and flags, and its value words
abbrev pub header_at : List ℕ → ℕ → ℕ
header_at t i = word_of t Instance i 0

abbrev pub type_at : List ℕ → ℕ → ℕ
type_at t i = type_in (header_at t i)

abbrev pub model_at : List ℕ → ℕ → ℕ
model_at t i = model_in (header_at t i)

abbrev pub is_set : List ℕ → ℕ → ℕ → Bool
is_set t i k = flagged (header_at t i) k

abbrev pub value_at : List ℕ → ℕ → ℕ → ℕ
value_at t i k = word_of t Instance i (1 + k)
