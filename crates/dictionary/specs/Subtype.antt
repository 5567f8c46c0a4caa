-- Subtypes (CHIP, dictionary): as a test that computes, and as a relation.
use Rattle.std.specs.Prelude.{◌≡◌, Bool, false, ◌||◌, ℕ, eqb, Some}
use Rattle.dictionary.specs.Dictionary.{parent_of, climb}

-- t is b, or else what is found for its parent
abbrev pub same_or : ℕ → ℕ → Bool → Bool
same_or b t parent's = eqb t b || parent's

unfoldable pub subtype : ℕ → ℕ → Bool
subtype a b = climb false (same_or b) a

-- the same type, or by its parent
pub data Subtype : ℕ → ℕ → Type 0 where
  same : {a : ℕ} → Subtype a a
  by_parent : {a p b : ℕ} → parent_of a ≡ Some p → Subtype p b → Subtype a b
