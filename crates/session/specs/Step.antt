-- One call: answer, session and tables after it.
use Rattle.std.specs.Prelude.{ℕ, Bool, cond, List, eqb}
use Rattle.state.specs.declared.state.Log.{Log}
use Rattle.state.specs.declared.state.State.{State}
use Rattle.state.specs.declared.state.Session.{Session}
use Rattle.state.specs.declared.state.Answer.{Answer}
use Rattle.state.specs.Refusals.{SY_ERR, done, ◌on◌}
use Rattle.checks.specs.Operations.{operation_of}
use Rattle.state.specs.States.{is_open, blank_log, session, noted, answer}
use Rattle.session.specs.Sound.{sound}
use Rattle.session.specs.Effects.{Effect, working_after, kept_after}
use Rattle.session.specs.Rows.{performed}

pub record Outcome : Type 0 where
  pub answer : Answer
  pub working : List ℕ
  pub kept : List ℕ

abbrev pub outcome : Answer → List ℕ → List ℕ → Outcome
outcome a w k = record { answer = a; working = w; kept = k }

-- a refusal: one event is all that it may add
abbrev pub refused_answer : ℕ → ℕ → Session → Answer
refused_answer op refusal x = answer refusal 0 (noted x op refusal)

-- a closed session has no events
abbrev pub log_after : State → Log → Log
log_after s l = cond (is_open s) l blank_log

abbrev pub finished_answer : ℕ → Session → ℕ → ℕ → State → Answer
finished_answer op x refusal value s = cond (eqb refusal done) (answer done value (session s (log_after s x.log))) (refused_answer op refusal x)

-- a refused effect leaves the tables as they are
abbrev pub finished : ℕ → Session → List ℕ → List ℕ → Effect → Outcome
finished op x w k e =
    outcome (finished_answer op x e.refusal e.value e.state) (working_after e.tables w k) (kept_after e.tables w k)

-- a call on a sound state
unfoldable pub core : ℕ → ℕ → ℕ → ℕ → Session → List ℕ → List ℕ → Outcome
core op a b c x w k = finished op x w k (performed (operation_of op) a b c x.state w)

-- by whether the state is sound: SY_ERR comes before all else (CHIP, before every call), and gives the session back as it came
abbrev pub judged : Bool → ℕ → ℕ → ℕ → ℕ → Session → List ℕ → List ℕ → Outcome
judged is_sound op a b c x w k = cond is_sound (core op a b c x w k) (outcome (answer (SY_ERR on 0) 0 x) w k)

unfoldable pub step : ℕ → ℕ → ℕ → ℕ → Session → List ℕ → List ℕ → Outcome
step op a b c x w k = judged (sound x w k) op a b c x w k
