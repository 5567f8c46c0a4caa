-- What a refusal leaves (CHIP, operations): value 0, both tables as they were, and the session with one event more where
-- it records, which holds the refusal and the place of the answer; SY_ERR the session as it came. What is done has no place.
use Rattle.std.specs.Prelude.{◌≡◌, cond, List, ℕ, eqb}
use Rattle.state.specs.declared.state.Session.{Session}
use Rattle.state.specs.Refusals.{SY_ERR, ◌on◌}
use Rattle.state.specs.States.{noted}
use Rattle.session.specs.Step.{Outcome}

pub record LeftAlone (op : ℕ) (x : Session) (w k : List ℕ) (o : Outcome) : Type 0 where
  pub value : o.answer.value ≡ 0
  pub working : o.working ≡ w
  pub kept : o.kept ≡ k
  pub session : o.answer.session ≡ cond (eqb o.answer.refusal SY_ERR) x (noted x op (o.answer.refusal on o.answer.place))
