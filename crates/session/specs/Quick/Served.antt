-- What an operation leaves but the log: its refusal, or done, the value and the state, and the tables.
use Rattle.std.specs.Prelude.{ℕ, List, Result}
use Rattle.state.specs.declared.state.State.{State}
use Rattle.state.specs.declared.refusals.Refused.{Refused}
use Rattle.state.specs.Numbers.{told, value_told}
use Rattle.state.specs.Quick.Lent.{sets_of, marks_of}
use Rattle.session.specs.declared.call.Reply.{Reply}
use Rattle.session.specs.Effects.{Effect, working_after, kept_after}

pub record Served : Type 0 where
  pub refusal : ℕ
  pub value : ℕ
  pub state : State

-- what the code gives, and the state that it leaves
abbrev pub served : Result ℕ Refused → State → Served
served r s = record { refusal = told r; value = value_told r; state = s }

pub record Serving : Type 0 where
  pub served : Served
  pub working : List ℕ
  pub kept : List ℕ

abbrev pub serving : Served → List ℕ → List ℕ → Serving
serving r w k = record { served = r; working = w; kept = k }

abbrev pub served_by : Effect → List ℕ → List ℕ → Serving
served_by e w k =
    serving (record { refusal = e.refusal; value = e.value; state = e.state }) (working_after e.tables w k) (kept_after e.tables w k)

-- the same where the state was lent as two rows of numbers, its sets and its marks, and is read back (`serve_lent`)
pub record Lending : Type 0 where
  pub reply : Reply
  pub sets : List ℕ
  pub marks : List ℕ
  pub working : List ℕ
  pub kept : List ℕ

abbrev pub lending : Reply → List ℕ → List ℕ → List ℕ → List ℕ → Lending
lending r sets marks w k = record { reply = r; sets = sets; marks = marks; working = w; kept = k }

abbrev pub lent_from : Serving → Lending
lent_from z =
    lending (record { refusal = z.served.refusal; value = z.served.value }) (sets_of z.served.state) (marks_of z.served.state) z.working z.kept

abbrev pub lent_by : Effect → List ℕ → List ℕ → Lending
lent_by e w k = lent_from (served_by e w k)
