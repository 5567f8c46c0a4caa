-- An unsound state is answered as it came; a sound one goes to the core.
use Rattle.session.specs.Step.{step}
use Rattle.session.proofs.call.call.Goals as goal

pub returns-then-not-is_sound : goal.returns-then-not-is_sound
unfolding step
returns-then-not-is_sound c =
    let tested = c.is_sound in
    rw (← tested.ensures, c.if-not-is_sound.true, c.unsound.ensures)

pub returns : goal.returns
unfolding step
returns c =
    let tested = c.is_sound in
    rw (← tested.ensures, c.if-not-is_sound.false) c.core.ensures
