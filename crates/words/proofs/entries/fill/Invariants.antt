-- After k turns the first k words stand in the entry, and the next one is the first or 0.
use mathlib.Core.Path.{◌≡◌}
use Rattle.words.specs.Entries.{first_then_zeros, filled}
use Rattle.words.proofs.entries.fill.Given as goal

abbrev pub invariant-loop-k : goal.invariant-loop-k
invariant-loop-k l = (l.t ≡ filled l.initial.t l.kind l.i l.first l.k) × (l.w ≡ first_then_zeros l.first l.k)
