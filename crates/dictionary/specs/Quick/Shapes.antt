-- The shape of a type in one word: the types that its reference may name, how many attributes it has, what a header of the
-- type must not have, and the flag of the reference.
use Rattle.std.specs.Prelude.{ℕ, ◌+◌, ◌-◌, ◌*◌, ◌/◌, ◌%◌, ◌^◌, cond, ltb, length}
use Rattle.dictionary.specs.Dictionary.{attributes_of, the_table}
use Rattle.dictionary.specs.Subtype.{subtype}
use Rattle.dictionary.specs.Quick.References.{no_reference, reference_of, targets_of, mask_below}

-- flag k for attribute k, none for a number that no attribute has
abbrev pub flag_of : ℕ → ℕ
flag_of k = cond (ltb k no_reference) (2 ^ k) 0

-- with room for three attributes and ten types
abbrev pub packed_of : ℕ → ℕ → ℕ → ℕ
packed_of attributes reference targets = 2 * (targets % 0x400) + 0x1000 * (attributes % 4) + 0xc000 + 0x1_0000 * (16 - flag_of attributes) + 0x10_0000_0000 * flag_of reference

unfoldable pub shape_of : ℕ → ℕ
shape_of t = packed_of (length (attributes_of t)) (reference_of t) (targets_of t)

abbrev pub attributes_in : ℕ → ℕ
attributes_in shape = shape / 0x1000 % 4

-- the flag of the reference as a header has it
abbrev pub mark_in : ℕ → ℕ
mark_in shape = shape / 0x10_0000

-- an `unfolding` line that names this opens the shapes and all that they are computed from
unfoldable pub the_shapes : Unit {0}
unfolding shape_of reference_of targets_of mask_below subtype the_table
the_shapes = tt
