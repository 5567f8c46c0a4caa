-- The digits from i on stand, and the first i are those of the rest.
use mathlib.Core.Path.{◌≡◌}
use lib.ListN.{length, take, drop}
use Rattle.records.specs.Laws.Decimal.{digits}
use Rattle.records.proofs.lines.spell.Given as goal

abbrev pub invariant-loop-i : goal.invariant-loop-i
invariant-loop-i l =
    let text = digits (length l.initial.out) l.n in
    (take l.i text ≡ digits l.i l.rest) × (drop l.i l.out ≡ drop l.i text)
