-- The log of an answer by itself: whether it is as it was, and what it is, whether the call is done or refused.
use Rattle.std.specs.Prelude.{ℕ, Bool, cond, ◌&&◌, eqb}
use Rattle.state.specs.declared.state.State.{State}
use Rattle.state.specs.declared.state.Log.{Log}
use Rattle.state.specs.declared.state.Session.{Session}
use Rattle.state.specs.Refusals.{done}
use Rattle.state.specs.States.{is_open, noted}
use Rattle.session.specs.Step.{log_after}

abbrev pub log_stays : ℕ → State → Bool
log_stays refusal s = eqb refusal done && is_open s

abbrev pub log_of : ℕ → ℕ → Session → State → Log
log_of op refusal x s = cond (eqb refusal done) (log_after s x.log) (noted x op refusal).log
