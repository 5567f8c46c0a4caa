-- Every turn does at most 1024 records, so their count does not wrap.
use mathlib.Core.Path.{◌≡◌}
use Prim.Native.Nat.{◌≤◌, ◌<◌, ◌*◌}
use Rattle.records.specs.Records.{size}
use Rattle.reader.proofs.serve.Given as goal

abbrev pub invariant-loop : goal.invariant-loop
invariant-loop l = (l.stand.run.at ≡ 0) × (l.stand.held < size) × (l.stand.run.done ≤ 1024 * l.counter)
