-- The first three checks let the last one decide.
use Rattle.std.proofs.Common.{◌∙◌}
use Rattle.checks.specs.Laws.Checks.{asks_behind}
use Rattle.session.proofs.writers.creating.Goals as goal

pub returns : goal.returns
returns c =
    asks_behind _ _ _
    (λ rest. rw (← c.no_repository.ensures, ← c.not_opened.ensures, ← c.is_schema.ensures, ← c.is_taken.ensures)
    (c.in_ok-refuse_if.ensures _ ∙ c.in_ok-refuse_if-2.ensures _ ∙ c.in_ok-refuse_if-3.ensures _))
    c.refuse_if-4.ensures
