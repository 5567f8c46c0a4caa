-- Where the entries of a table and their cursors stand: a row of numbers for each kind, and all else follows from the rows.
use Rattle.std.specs.Prelude.{ℕ, ◌+◌, ◌*◌}
use Rattle.words.specs.declared.layout.Kind.{Kind}
use Rattle.words.specs.declared.layout.Kind.TheVariants.{Model, SchemaInstance, Instance}
use Rattle.words.specs.declared.layout.Row.{Row}

-- CHIP, words of a table: places, counts and cursors
abbrev pub row_of : Kind → Row
row_of Model = record { base = 0; stride = 1; count = 64; cursor = 736 }
row_of SchemaInstance = record { base = 64; stride = 2; count = 16; cursor = 737 }
row_of Instance = record { base = 96; stride = 5; count = 128; cursor = 738 }

-- the first word of the kind's entry 0
abbrev pub base_of : Kind → ℕ
base_of kind = (row_of kind).base

-- how many words an entry has
abbrev pub stride_of : Kind → ℕ
stride_of kind = (row_of kind).stride

-- how many entries there are
abbrev pub count_of : Kind → ℕ
count_of kind = (row_of kind).count

-- the first word of entry i
abbrev pub place_of : Kind → ℕ → ℕ
place_of kind i = base_of kind + stride_of kind * i

-- the word of the cursor
abbrev pub cursor_of : Kind → ℕ
cursor_of kind = (row_of kind).cursor

-- the words in use end with the last kind's cursor: 739 (CHIP, words of a table)
abbrev pub words : ℕ
words = cursor_of Instance + 1

-- kinds told apart by a number
abbrev pub index_of : Kind → ℕ
index_of Model = 0
index_of SchemaInstance = 1
index_of Instance = 2
