-- What a type asks of an instance in two words, both from its shape.
use Rattle.std.specs.Prelude.{ℕ, ◌+◌, ◌*◌, ◌/◌, ◌%◌}
use Rattle.dictionary.specs.Quick.Shapes.{shape_of, mark_in}

-- a tag is the type of a header and 1, in four bits
abbrev pub tags : ℕ
tags = 16

-- what a header must not have: a type above the tags, what the shape has of its bits 14 to 19, and anything above
unfoldable pub bars_of : ℕ → ℕ
bars_of t = 0xffff_ffff_fff0_00f0 + shape_of t / 0x4000 % 64 * 0x4000

-- the types that the reference may name, a bit for each tag, and its flag as a header has it
unfoldable pub names_of : ℕ → ℕ
names_of t = shape_of t % 0x1000 + mark_in (shape_of t)
