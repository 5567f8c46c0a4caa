-- The live entries of each schema as sets, and the tests of Sound.antt that they answer.
use Rattle.std.specs.Prelude.{◌≡◌, ℕ, ◌%◌, Bool, cond, not, ◌&&◌, ◌||◌, List, eqb}
use Rattle.words.specs.declared.layout.Kind.{Kind}
use Rattle.words.specs.declared.layout.Kind.TheVariants.{Model}
use Rattle.words.specs.Layout.{count_of}
use Rattle.logic.specs.Search.{all_b}
use Rattle.words.specs.Sets.{bits, none, has, insert, set_of}
use Rattle.words.specs.Fields.{schema_in, model_in, is_free}
use Rattle.dictionary.specs.Dictionary.{schema_of}
use Rattle.tables.specs.declared.live.Live.{Live}
use Rattle.tables.specs.View.{label_at}

-- the label of a live entry of this schema
abbrev pub is_of : ℕ → ℕ → Bool
is_of schema w = not (is_free w) && eqb (schema_in w) schema

-- those of the first n entries of a kind that are live and of this schema
abbrev pub live_of : List ℕ → Kind → ℕ → ℕ → ℕ
live_of t kind schema n = set_of n (λ i. is_of schema (label_at t kind i))

abbrev pub live_below : List ℕ → Kind → ℕ → Live
live_below t kind n = record { first = live_of t kind 1 n; second = live_of t kind 2 n }

abbrev pub live_in : List ℕ → Kind → Live
live_in t kind = live_below t kind (count_of kind)

-- these are the sets of the table's live models
abbrev pub AreLiveIn : List ℕ → Live → Type 0
AreLiveIn t live = (live.first ≡ live_of t Model 1 (count_of Model)) × (live.second ≡ live_of t Model 2 (count_of Model))

abbrev pub no_live : Live
no_live = record { first = none; second = none }

-- with entry i, which is of this schema
abbrev pub with_live : Live → ℕ → ℕ → Live
with_live live schema i =
    cond (eqb schema 1)
    (record { first = insert live.first i; second = live.second })
    (record { first = live.first; second = insert live.second i })

abbrev pub of_schema : Live → ℕ → ℕ
of_schema live schema = cond (eqb schema 1) live.first live.second

-- every member of a set is in the other
abbrev pub within : ℕ → ℕ → Bool
within set other = all_b bits (λ m. not (has set m) || has other m)

-- the model of a header, as far as it is one of the 64, is live and of this type's schema
abbrev pub model_fits : Live → ℕ → ℕ → Bool
model_fits live type h = has (of_schema live (schema_of type)) (model_in h % bits)
