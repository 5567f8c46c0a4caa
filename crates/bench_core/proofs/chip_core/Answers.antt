-- As `core` is proved: what is served is the definition's effect, and the answer is that of its log.
use Rattle.std.proofs.Common.{sym, ◌∙◌}
use Rattle.session.specs.Laws.Served.{served_core, served_stays}
use Rattle.bench_core.proofs.chip_core.Goals as goal

pub returns-then-log_stays : goal.returns-then-log_stays
returns-then-log_stays c =
    let a = c.args in
    rw c.carried.ensures (served_stays a.op _ _ _ a.x _ _ _ _ _ c.serve-given.ensures (sym c.log_stays.ensures ∙ c.if-log_stays.true))

pub returns : goal.returns
returns c =
    let a = c.args in
    rw c.finished.ensures (served_core a.op _ _ _ a.x _ _ _ _ _ c.serve-given.ensures)
