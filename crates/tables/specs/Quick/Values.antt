-- The values of an instance as the code asks for them: the header's strays and the four value words all at once, and then the
-- one reference that its type may have.
use Rattle.std.specs.Prelude.{ℕ, ◌/◌, ◌%◌, Bool, cond, not, ◌&&◌, ◌||◌, List, [], ◌∷◌, eqb, ltb}
use Rattle.std.specs.Int.Bits.{bit_and, bit_or}
use Rattle.words.specs.declared.layout.Kind.TheVariants.{Instance}
use Rattle.words.specs.Layout.{count_of}
use Rattle.words.specs.Sets.{bits, has}
use Rattle.words.specs.Fields.{type_in, values, flagged}
use Rattle.words.specs.Entries.{free_at}
use Rattle.logic.specs.Search.{all_b}
use Rattle.dictionary.specs.Dictionary.{is_type}
use Rattle.dictionary.specs.Quick.Shapes.{shape_of, mark_in}
use Rattle.tables.specs.declared.live.Live.{Live}
use Rattle.tables.specs.declared.values.Words.{Words}
use Rattle.tables.specs.View.{header_at, value_at}
use Rattle.tables.specs.Quick.Live.{model_fits}
use Rattle.tables.specs.Quick.Pointers.{second}

-- the words of an instance: its header and its value words
abbrev pub words_at : List ℕ → ℕ → Words
words_at t i = record { header = header_at t i; values = value_at t i 0 ∷ value_at t i 1 ∷ value_at t i 2 ∷ value_at t i 3 ∷ [] }

-- what a header of this shape must not have
abbrev pub strays_in : ℕ → ℕ → ℕ
strays_in shape h = bit_or (bit_and h shape / 0x4000) (h / 0x10_0000)

-- the value words of a free instance
abbrev pub no_value : (ℕ → ℕ) → Bool
no_value value = all_b values (λ k. eqb (value k) 0)

-- a value word below 2^32 if it is set, else 0
abbrev pub word_fits : Bool → ℕ → Bool
word_fits set v = cond set (ltb v 0x1_0000_0000) (eqb v 0)

-- what stands in the word of an attribute that is not set
abbrev pub unset_of : ℕ → ℕ → ℕ → ℕ
unset_of h k v = cond (flagged h k) 0 v

-- the header has no strays, and the value words are as their flags ask; no type has a fourth
abbrev pub words_fit : ℕ → ℕ → (ℕ → ℕ) → Bool
words_fit shape h value =
    eqb (strays_in shape h) 0 && word_fits (flagged h 0) (value 0) && word_fits (flagged h 1) (value 1) && word_fits (flagged h 2) (value 2) && eqb (value 3) 0

-- an instance of a type that the reference may name; a free one has bit 0, which no shape has
abbrev pub target_fits : List ℕ → ℕ → ℕ → Bool
target_fits t shape v = ltb v (count_of Instance) && has shape (header_at t v % bits)

-- the reference, if it is set: the second attribute or the third
abbrev pub reference_fits : List ℕ → ℕ → ℕ → (ℕ → ℕ) → Bool
reference_fits t shape h value = eqb (bit_and h (mark_in shape)) 0 || target_fits t shape (cond (eqb (mark_in shape) second) (value 1) (value 2))

-- a live instance by its header and its value words: it has one of the types, a live model, what is asked at once, and its reference
abbrev pub live_fits : List ℕ → Live → ℕ → (ℕ → ℕ) → Bool
live_fits t live h value =
    not (eqb (h % 256) 0 || not (is_type (type_in h))) && model_fits live (type_in h) h && words_fit (shape_of (type_in h)) h value && reference_fits t (shape_of (type_in h)) h value

-- Exact over all instances alone (`instances_by_parts`): of a reference to an instance that has none of the types anything is
-- said, but there that instance does not fit.
abbrev pub instance_fits : List ℕ → Live → ℕ → Bool
instance_fits t live i =
    cond (free_at t Instance i)
    (no_value (value_at t i))
    (live_fits t live (header_at t i) (value_at t i))
