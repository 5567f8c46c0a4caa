-- After s turns the first s sets are without the model.
use mathlib.Core.Path.{◌≡◌}
use Rattle.tables.specs.Deletions.{ungrouped}
use Rattle.tables.proofs.deletions.ungroup.Given as goal

abbrev pub invariant-loop-s : goal.invariant-loop-s
invariant-loop-s l = l.t ≡ ungrouped l.initial.t l.m l.s
