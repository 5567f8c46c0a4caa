-- The fields of the words.
use Rattle.std.specs.Prelude.{ℕ, ◌+◌, ◌-◌, ◌*◌, ◌/◌, ◌%◌, Bool, cond, not, ◌&&◌, eqb, leb, ltb}
use Rattle.words.specs.declared.layout.Kind.{Kind}
use Rattle.words.specs.declared.layout.Kind.TheVariants.{Model, SchemaInstance, Instance}
use Rattle.words.specs.Layout.{count_of}
use Rattle.words.specs.Sets.{has, insert, remove}

-- ---- The label: the word of a model, and the first word of a schema instance

-- CHIP, words of a table; repository and schema have eight bits each, and what does not fit is cut
abbrev pub label_of : ℕ → ℕ → ℕ → ℕ
label_of repository schema name = name + 0x1_0000_0000 * (repository % 256) + 0x100_0000_0000 * (schema % 256)

abbrev pub name_in : ℕ → ℕ
name_in w = w % 0x1_0000_0000

abbrev pub repository_in : ℕ → ℕ
repository_in w = w / 0x1_0000_0000 % 256

abbrev pub schema_in : ℕ → ℕ
schema_in w = w / 0x100_0000_0000 % 256

-- CHIP, words of a table
abbrev pub repositories : ℕ
repositories = 8

-- one of the two schemas
abbrev pub is_schema : ℕ → Bool
is_schema schema = leb 1 schema && leb schema 2

-- repository and schema are of those, and nothing stands above the schema
abbrev pub is_label : ℕ → Bool
is_label w = ltb w 0x1_0000_0000_0000 && ltb (repository_in w) repositories && is_schema (schema_in w)

-- ---- The header: the first word of an instance

-- CHIP, words of a table: the flags tell which attributes are set, and the value words stand behind
abbrev pub header_of : ℕ → ℕ → ℕ → ℕ
header_of type model flags = 1 + type % 256 + 0x100 * (model % 256) + 0x1_0000 * (flags % 256)

abbrev pub type_in : ℕ → ℕ
type_in h = h % 256 - 1

abbrev pub model_in : ℕ → ℕ
model_in h = h / 0x100 % 256

abbrev pub flags_in : ℕ → ℕ
flags_in h = h / 0x1_0000 % 256

-- an instance has four value words, so four flags
abbrev pub values : ℕ
values = 4

-- a type is there, the model is one of the 64, and nothing stands above the flags
abbrev pub is_header : ℕ → Bool
is_header h = ltb h 0x10_0000 && leb 1 (h % 256) && ltb (model_in h) (count_of Model)

-- flag k of a header, set and unset; a number that is no flag changes nothing
abbrev pub flagged : ℕ → ℕ → Bool
flagged h k = ltb k values && has h (16 + k)

abbrev pub with_flag : ℕ → ℕ → ℕ
with_flag h k = cond (ltb k values) (insert h (16 + k)) h

abbrev pub without_flag : ℕ → ℕ → ℕ
without_flag h k = cond (ltb k values) (remove h (16 + k)) h

-- what a value word says: its lowest 32 bits
abbrev pub value_in : ℕ → ℕ
value_in w = w % 0x1_0000_0000

-- ---- The first word of an entry

-- free is 0
abbrev pub is_free : ℕ → Bool
is_free w = eqb w 0

abbrev pub well_formed : Kind → ℕ → Bool
well_formed Model w = is_label w
well_formed SchemaInstance w = is_label w
well_formed Instance w = is_header w

-- a live entry's label has this name, in this repository
abbrev pub is_named : ℕ → ℕ → ℕ → Bool
is_named w repository name = not (is_free w) && eqb (repository_in w) repository && eqb (name_in w) name
