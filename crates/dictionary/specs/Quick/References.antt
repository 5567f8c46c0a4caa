-- The reference of a type: which attribute it is, and the types that it may name. No type has two (`reference_only`).
use Rattle.std.specs.Prelude.{Bool, false, cond, ℕ, zero, suc, ◌+◌, ◌^◌, Option, None, Some}
use Rattle.dictionary.specs.declared.answers.Attribute.{Attribute}
use Rattle.dictionary.specs.declared.answers.Attribute.TheVariants.{Whole, Reference}
use Rattle.dictionary.specs.Dictionary.{types, is_reference, attribute_of}
use Rattle.dictionary.specs.Subtype.{subtype}

-- the answer for a type without a reference
abbrev pub no_reference : ℕ
no_reference = 4

-- no type has more than three attributes
unfoldable pub reference_of : ℕ → ℕ
reference_of t =
    cond (is_reference (attribute_of t 0)) 0 (cond (is_reference (attribute_of t 1)) 1 (cond (is_reference (attribute_of t 2)) 2 no_reference))

-- a set of numbers below n in one word, bit u for u
unfoldable pub mask_below : ℕ → (ℕ → Bool) → ℕ
mask_below zero f = 0
mask_below (suc n) f = mask_below n f + cond (f n) (2 ^ n) 0

-- the types that an attribute may name: R's type and its subtypes
abbrev pub may_name : Option Attribute → ℕ → Bool
may_name None u = false
may_name (Some Whole) u = false
may_name (Some (Reference target)) u = subtype u target

unfoldable pub targets_of : ℕ → ℕ
targets_of t = mask_below types (may_name (attribute_of t (reference_of t)))
