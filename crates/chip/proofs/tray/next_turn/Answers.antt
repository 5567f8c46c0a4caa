-- As a call does with what the test found, and what goes on is what is left of its answer.
use Rattle.std.proofs.Common.{sym, ap, ◌∙◌}
use mathlib.Core.Bool.{true}
use borrow.Author.Tests.{not-true, not-false}
use Rattle.session.specs.Laws.Served.{served_core, served_stays}
use Rattle.chip.specs.Quick.Turns.{turned_by, turn_of}
use Rattle.chip.proofs.tray.next_turn.Goals as goal

pub returns-then-not-t-clause-turn : goal.returns-then-not-t-clause-turn
unfolding turn_of
returns-then-not-t-clause-turn c =
    let a = c.args in
    rw (not-true a.t.sound c.if-not-t.true, c.turn_by.ensures, c.unsound.ensures)

pub returns-then-log_stays-clause-turn : goal.returns-then-log_stays-clause-turn
unfolding turn_of
returns-then-log_stays-clause-turn c =
    let a = c.args in
    rw (not-false a.t.sound c.if-not-t.false, c.turn_by-then-log_stays.ensures, c.carried.ensures)
    (ap (turned_by true) (served_stays a.o.op _ _ _ a.t.session _ _ _ _ _ c.serve-given.ensures (sym c.log_stays.ensures ∙ c.if-log_stays.true)))

pub returns-clause-turn : goal.returns-clause-turn
unfolding turn_of
returns-clause-turn c =
    let a = c.args in
    rw (not-false a.t.sound c.if-not-t.false, c.turn_by-2.ensures, c.finished.ensures)
    (ap (turned_by true) (served_core a.o.op _ _ _ a.t.session _ _ _ _ _ c.serve-given.ensures))
