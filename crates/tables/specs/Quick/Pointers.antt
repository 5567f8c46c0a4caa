-- The attribute of an instance that is a reference and is set.
use Rattle.std.specs.Prelude.{ℕ, Option, Some, None, cond}
use Rattle.words.specs.Fields.{type_in, flagged}
use Rattle.dictionary.specs.Quick.References.{reference_of}

-- no type has two references
abbrev pub pointer_in : ℕ → Option ℕ
pointer_in h = cond (flagged h (reference_of (type_in h))) (Some (reference_of (type_in h))) None

-- the flag of the second attribute as a header has it
abbrev pub second : ℕ
second = 0x2_0000
