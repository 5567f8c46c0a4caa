-- Of two types the table is read: its rows are those that the relation by parents gives, and one computed test of every pair of
-- types says that bit b of row a is the relation's answer.
use mathlib.Core.Path.{refl, sym, ◌∙◌}
use mathlib.Core.Bool.{Bool}
use mathlib.Core.List.{List, [], ◌∷◌, ◌++◌}
use Prim.Native.Nat.{ℕ, zero, suc, ◌/◌, ◌%◌, ◌^◌}
use lib.Dec.{eqb}
use lib.ListN.{get_or}
use Rattle.logic.specs.Search.{all_b}
use Rattle.dictionary.specs.Dictionary.{types, the_table}
use Rattle.dictionary.specs.Subtype as spec
use Rattle.dictionary.specs.Quick.References.{mask_below}
use Rattle.dictionary.specs.Laws.Types.{of_pair}
use Rattle.dictionary.proofs.Arms.{below_types}
use Rattle.dictionary.proofs.pairs.subtype.Goals as goal

-- the rows of the types below n, as the relation gives them
unfoldable rows_below : ℕ → List ℕ
rows_below zero = []
rows_below (suc n) = rows_below n ++ (mask_below types (spec.subtype n) ∷ [])

-- what the table says of a pair: bit b of row a
abbrev entry : ℕ → ℕ → Bool
entry a b = eqb (get_or (rows_below types) a 0 / 2 ^ b % 2) 1

pub returns-then-is_type-2 : goal.returns-then-is_type-2
unfolding rows_below all_b mask_below spec.subtype the_table
returns-then-is_type-2 c =
    of_pair types entry spec.subtype refl c.args.a c.args.b (sym c.is_type.ensures ∙ c.if-is_type.true)
    (below_types (sym c.is_type-then-is_type.ensures ∙ c.if-is_type-2.true))
