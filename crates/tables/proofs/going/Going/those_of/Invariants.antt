-- After i turns those of the first i instances of each half are in its set.
use mathlib.Core.Path.{◌≡◌}
use Prim.Native.Nat.{◌+◌}
use Rattle.words.specs.declared.layout.Kind.TheVariants.{Model}
use Rattle.words.specs.Sets.{bits, set_of}
use Rattle.tables.specs.Deletions.{goes_with}
use Rattle.tables.proofs.going.Going.those_of.Given as goal

abbrev pub invariant-loop-i : goal.invariant-loop-i
invariant-loop-i l =
    (l.low ≡ set_of l.i (λ j. goes_with l.t Model l.m (0 + j))) × (l.high ≡ set_of l.i (λ j. goes_with l.t Model l.m (bits + j)))
