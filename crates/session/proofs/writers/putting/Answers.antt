-- By whether there is such an attribute, and of which kind it is.
use Rattle.checks.specs.Checks.{first_of}
use Rattle.session.specs.Laws.Rows.{whole_asks_nothing, reference_asks}
use Rattle.session.proofs.writers.putting.Goals as goal

pub returns-in_default : goal.returns-in_default
unfolding first_of
returns-in_default c = λ rest. rw (c.in_default.is, c.on.ensures)

pub returns-in-Whole : goal.returns-in-Whole
returns-in-Whole c = whole_asks_nothing _ _ c.in-Some.is _ _ _ c.in-Whole.is

pub returns-in-Reference : goal.returns-in-Reference
returns-in-Reference c = reference_asks _ _ c.in-Some.is _ _ _ _ _ c.in-Reference.is c.reference.ensures
