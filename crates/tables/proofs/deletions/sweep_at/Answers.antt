-- What is passed by stays as it is (`passed_stays`).
use mathlib.Core.Path.{sym, ◌∙◌}
use Rattle.tables.specs.Laws.Going.{passed_stays}
use Rattle.tables.proofs.deletions.sweep_at.Goals as goal

pub returns-else-not-is_passed : goal.returns-else-not-is_passed
returns-else-not-is_passed c =
    let a = c.args in
    sym (passed_stays a.t.now a.g a.i (sym c.is_passed.ensures ∙ c.if-not-is_passed.false))
