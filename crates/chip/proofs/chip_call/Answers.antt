-- An unsound state is answered as it came. On a sound one the operation is served, and the answer is that of a log that stays, or
-- of one that may change.
use Rattle.std.proofs.Common.{sym, ◌∙◌}
use Rattle.session.specs.Step.{step}
use Rattle.session.specs.Laws.Served.{served_core, served_stays}
use Rattle.chip.proofs.chip_call.Goals as goal

pub returns-then-not-is_sound : goal.returns-then-not-is_sound
unfolding step
returns-then-not-is_sound c =
    let tested = c.is_sound in
    rw (← tested.ensures, c.if-not-is_sound.true, c.unsound.ensures)

pub returns-then-log_stays : goal.returns-then-log_stays
unfolding step
returns-then-log_stays c =
    let tested = c.is_sound in
    let a = c.args in
    rw (← tested.ensures, c.if-not-is_sound.false, c.carried.ensures)
    (served_stays a.op _ _ _ a.x _ _ _ _ _ c.serve-given.ensures (sym c.log_stays.ensures ∙ c.if-log_stays.true))

pub returns : goal.returns
unfolding step
returns c =
    let tested = c.is_sound in
    let a = c.args in
    rw (← tested.ensures, c.if-not-is_sound.false, c.finished.ensures) (served_core a.op _ _ _ a.x _ _ _ _ _ c.serve-given.ensures)
