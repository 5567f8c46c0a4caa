-- Sound tables, clause by clause (CHIP, sound tables).
use Rattle.std.specs.Prelude.{ℕ, Bool, cond, not, ◌&&◌, ◌||◌, List, eqb, ltb, Option, None, Some}
use Rattle.words.specs.declared.layout.Kind.{Kind}
use Rattle.words.specs.declared.layout.Kind.TheVariants.{Model, SchemaInstance, Instance}
use Rattle.words.specs.Layout.{count_of}
use Rattle.logic.specs.Search.{all_b}
use Rattle.words.specs.Sets.{none, bits, has}
use Rattle.words.specs.Fields.{name_in, repository_in, schema_in, type_in, model_in, values, is_label, is_header, is_free, is_named}
use Rattle.words.specs.Entries.{free_at, cursor_in, all_formed}
use Rattle.words.specs.Copies.{is_long, agree}
use Rattle.dictionary.specs.declared.answers.Attribute.{Attribute}
use Rattle.dictionary.specs.declared.answers.Attribute.TheVariants.{Whole, Reference}
use Rattle.dictionary.specs.Dictionary.{is_type, schema_of, attribute_of}
use Rattle.dictionary.specs.Subtype.{subtype}
use Rattle.tables.specs.View.{is_live, label_at, set_at, header_at, type_at, is_set, value_at}

-- no two models of one repository have one name, and no two schema instances
abbrev pub same_name : ℕ → ℕ → Bool
same_name v w = not (is_free v) && is_named w (repository_in v) (name_in v)

unfoldable pub distinct : List ℕ → Kind → Bool
distinct t kind = all_b (count_of kind) (λ i. all_b i (λ j. not (same_name (label_at t kind i) (label_at t kind j))))

-- each member of a set is a live model of the schema instance's schema
abbrev pub may_join : List ℕ → ℕ → ℕ → Bool
may_join t s m = is_live t Model m && eqb (schema_in (label_at t Model m)) (schema_in (label_at t SchemaInstance s))

-- a schema instance: a label and its set; free, both are 0
unfoldable pub sound_group : List ℕ → ℕ → Bool
sound_group t s =
    cond (free_at t SchemaInstance s)
    (eqb (set_at t s) none)
    (is_label (label_at t SchemaInstance s) && all_b bits (λ m. not (has (set_at t s) m) || may_join t s m))

-- only an attribute that the type has is set; where none is set the word is 0; a value is below 2^32, and a reference leads to
-- a live instance of a type that it may name
abbrev pub sound_value : List ℕ → Option Attribute → Bool → ℕ → Bool
sound_value t None set v = not set && eqb v 0
sound_value t (Some Whole) set v = ltb v 0x1_0000_0000 && (set || eqb v 0)
sound_value t (Some (Reference target)) set v = cond set (is_live t Instance v && subtype (type_at t v) target) (eqb v 0)

-- an instance lies in a live model of the schema that its type is of
abbrev pub sound_header : List ℕ → ℕ → Bool
sound_header t h =
    is_header h && is_type (type_in h) && is_live t Model (model_in h) && eqb (schema_in (label_at t Model (model_in h))) (schema_of (type_in h))

-- a free instance is five zeros
unfoldable pub sound_instance : List ℕ → ℕ → Bool
sound_instance t i =
    cond (free_at t Instance i)
    (all_b values (λ k. eqb (value_at t i k) 0))
    (sound_header t (header_at t i) && all_b values (λ k. sound_value t (attribute_of (type_at t i) k) (is_set t i k) (value_at t i k)))

-- each entry by itself: the models and the schema instances, then the instances
abbrev pub sound_entries : List ℕ → Bool
sound_entries t = all_formed t Model && distinct t Model && all_b (count_of SchemaInstance) (sound_group t) && distinct t SchemaInstance

abbrev pub sound_instances : List ℕ → Bool
sound_instances t = all_b (count_of Instance) (sound_instance t)

-- each cursor is the number of an entry
abbrev pub sound_cursor : List ℕ → Kind → Bool
sound_cursor t kind = ltb (cursor_in t kind) (count_of kind)

abbrev pub sound_cursors : List ℕ → Bool
sound_cursors t = sound_cursor t Model && sound_cursor t SchemaInstance && sound_cursor t Instance

-- long enough, and every cursor and every entry sound
unfoldable pub sound_table : List ℕ → Bool
sound_table t = is_long t && sound_cursors t && sound_entries t && sound_instances t

-- both tables, which agree in the words in use unless a transaction writes
unfoldable pub sound_tables : Bool → List ℕ → List ℕ → Bool
sound_tables writing working kept = sound_table working && sound_table kept && (writing || agree working kept)
