-- After i turns the first i instances are swept.
use mathlib.Core.Path.{◌≡◌}
use Rattle.tables.specs.Quick.Going.{goes}
use Rattle.tables.specs.Deletions.{swept}
use Rattle.tables.proofs.deletions.sweep.Given as goal

abbrev pub invariant-loop-i : goal.invariant-loop-i
invariant-loop-i l = l.t ≡ swept l.initial.t (goes l.g) l.i
