-- No instance passed holds back, and none that is not present does.
use mathlib.Core.Path.{◌≡◌}
use mathlib.Core.Bool.{false}
use Rattle.logic.specs.Search.{any_b}
use Rattle.tables.specs.Deletions.{goes_with, holds_back}
use Rattle.tables.proofs.deletions.held_back.Given as goal

abbrev pub invariant-loop-i : goal.invariant-loop-i
invariant-loop-i l = any_b l.i (holds_back l.t (goes_with l.t l.kind l.n) l.rw) ≡ false
