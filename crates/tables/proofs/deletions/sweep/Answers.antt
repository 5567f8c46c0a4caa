use mathlib.Core.Path.{refl}
use native.Mathlib.Numerals.{add-one}
use Rattle.tables.specs.Deletions.{swept}
use Rattle.tables.proofs.deletions.sweep.Goals as goal

pub loop-i-init : goal.loop-i-init
unfolding swept
loop-i-init c = refl

pub loop-i-preserved : goal.loop-i-preserved
unfolding swept
loop-i-preserved c = rw (add-one, ← c.loop-i.invariant) c.sweep_at.ensures
