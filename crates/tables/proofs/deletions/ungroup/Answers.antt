use mathlib.Core.Path.{refl}
use native.Mathlib.Numerals.{add-one}
use Rattle.tables.specs.Deletions.{ungrouped}
use Rattle.tables.proofs.deletions.ungroup.Goals as goal

pub loop-s-init : goal.loop-s-init
unfolding ungrouped
loop-s-init c = refl

pub loop-s-preserved : goal.loop-s-preserved
unfolding ungrouped
loop-s-preserved c = rw (add-one, ← c.loop-s.invariant) c.leave.ensures
