-- The rows of a state tell it.
use Rattle.std.specs.Prelude.{◌≡◌, refl}
use Rattle.state.specs.declared.state.State.{State}
use Rattle.state.specs.Quick.Lent.{sets_of, marks_of, state_of}

pub state_told : (s : State) → state_of (sets_of s) (marks_of s) ≡ s
unfolding state_of
state_told s = refl
