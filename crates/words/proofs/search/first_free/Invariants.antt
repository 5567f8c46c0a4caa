-- What is left to search from i on has the same lowest free entry as the whole.
use mathlib.Core.Path.{◌≡◌}
use Prim.Native.Nat.{◌-◌, ◌≤◌, max}
use Rattle.words.specs.Layout.{count_of}
use Rattle.logic.specs.Search.{first_from}
use Rattle.words.specs.Entries.{first_free, free_at}
use Rattle.words.proofs.search.first_free.Given as goal

abbrev pub invariant-loop-i : goal.invariant-loop-i
invariant-loop-i l = record {
  below : l.i ≤ max l.from l.n;
  same : first_free l.t l.kind l.from ≡ first_from (free_at l.t l.kind) (count_of l.kind - l.i) l.i;
}
