-- All labels passed are free or well formed, with new names, in their chains, and the live ones are in the sets.
-- Along a chain, all from the one met on have other names; the measure is the link, which goes down.
use Rattle.tables.specs.Laws.Names.{Walked}
use Rattle.tables.specs.Laws.Labels.{Passed}
use Rattle.tables.proofs.labels.test_labels.Given as goal

abbrev pub invariant-loop-met : goal.invariant-loop-met
invariant-loop-met l = Walked l.t l.kind l.i l.met

abbrev pub decreases-loop-met : goal.decreases-loop-met
decreases-loop-met l = l.met

abbrev pub invariant-loop-i : goal.invariant-loop-i
invariant-loop-i l = Passed l.t l.kind l.last l.before l.live l.i
