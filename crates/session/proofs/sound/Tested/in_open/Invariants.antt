-- After m turns the set holds those of the first m models that may be seen.
use mathlib.Core.Path.{◌≡◌}
use Rattle.words.specs.Sets.{set_of}
use Rattle.session.specs.Quick.Access.{seen_at}
use Rattle.session.proofs.sound.Tested.in_open.Given as goal

abbrev pub invariant-loop-m : goal.invariant-loop-m
invariant-loop-m l = l.set ≡ set_of l.m (seen_at l.self.table.now l.repositories)
