-- The gate refuses, or the operation's own row decides.
use Rattle.std.specs.Prelude.{◌++◌}
use Rattle.checks.specs.Checks.{gate}
use Rattle.session.specs.Rows.{checks, effect, refusal_of}
use Rattle.session.specs.Laws.Rows.{row_refused}
use Rattle.session.proofs.call.serve.Goals as goal

pub returns-in_err-gate : goal.returns-in_err-gate
unfolding refusal_of
returns-in_err-gate c =
    let a = c.args in
    let o = a.order in
    let op = c.operation_of-op.result in
    rw (← c.operation_of-op.ensures)
    (row_refused (gate op a.state.now ++ checks op o.a o.b o.c a.state.now a.working.now) (effect op o.a o.b o.c a.state.now a.working.now)
    a.state.now a.working.now a.kept.now _ _ c.from_residual.ensures.1 (c.in_err-gate.ensures _))

pub returns : goal.returns
unfolding refusal_of
returns c =
    let a = c.args in
    let o = a.order in
    rw (← c.operation_of-op.ensures, c.in_ok-gate.ensures (checks c.operation_of-op.result o.a o.b o.c a.state.now a.working.now)) c.own.ensures
