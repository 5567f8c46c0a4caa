-- A number that is not listed is refused at once.
use Rattle.checks.specs.Checks.{first_of}
use Rattle.checks.proofs.gate.gate.Goals as goal

pub returns-in-Unlisted : goal.returns-in-Unlisted
unfolding first_of
returns-in-Unlisted c = λ rest. rw (c.in-Unlisted.is, c.on.ensures)
