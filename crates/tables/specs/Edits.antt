-- What is written into one entry of a table.
use Rattle.std.specs.Prelude.{ℕ, ◌+◌, List}
use Rattle.words.specs.declared.layout.Kind.TheVariants.{SchemaInstance, Instance}
use Rattle.words.specs.Sets.{insert, remove}
use Rattle.words.specs.Fields.{with_flag, without_flag}
use Rattle.words.specs.Entries.{with_word}
use Rattle.tables.specs.View.{set_at, header_at}

-- the set of a schema instance: a model joins it, a model leaves it
abbrev pub with_set : List ℕ → ℕ → ℕ → List ℕ
with_set t s set = with_word t SchemaInstance s 1 set

abbrev pub with_member : List ℕ → ℕ → ℕ → List ℕ
with_member t s m = with_set t s (insert (set_at t s) m)

abbrev pub without_member : List ℕ → ℕ → ℕ → List ℕ
without_member t s m = with_set t s (remove (set_at t s) m)

-- an attribute of an instance, its value word and its flag: put, unset
abbrev pub with_value : List ℕ → ℕ → ℕ → ℕ → List ℕ
with_value t i k v = with_word (with_word t Instance i (1 + k) v) Instance i 0 (with_flag (header_at t i) k)

abbrev pub without_value : List ℕ → ℕ → ℕ → List ℕ
without_value t i k = with_word (with_word t Instance i (1 + k) 0) Instance i 0 (without_flag (header_at t i) k)
