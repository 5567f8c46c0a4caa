-- What is served is the definition's effect; the answer is that of a log that stays, or of one that may change.
use Rattle.std.proofs.Common.{sym, ◌∙◌}
use Rattle.session.specs.Laws.Served.{served_core, served_stays}
use Rattle.session.proofs.call.core.Goals as goal

pub returns-then-log_stays : goal.returns-then-log_stays
returns-then-log_stays c =
    let a = c.args in
    rw c.carried.ensures (served_stays a.op _ _ _ a.x _ _ _ _ _ c.serve-given.ensures (sym c.log_stays.ensures ∙ c.if-log_stays.true))

pub returns : goal.returns
returns c =
    let a = c.args in
    rw c.finished.ensures (served_core a.op _ _ _ a.x _ _ _ _ _ c.serve-given.ensures)
