-- What an operation leaves that does not touch the kept table, whatever that is.
use Rattle.std.specs.Prelude.{◌≡◌, ℕ, List, Result}
use Rattle.state.specs.declared.state.State.{State}
use Rattle.state.specs.declared.refusals.Refused.{Refused}
use Rattle.session.specs.Rows.{Row}
use Rattle.session.specs.Quick.Rows.{row_done}
use Rattle.session.specs.Quick.Served.{serving, served, served_by}

-- from this state and this working table what is given, the state and the working table then follow the row
abbrev pub Follows : (State → List ℕ → Row) → State → List ℕ → Result ℕ Refused → State → List ℕ → Type 0
Follows row s w given s' w' = (kept : List ℕ) → serving (served given s') w' kept ≡ served_by (row_done s (row s w)) w kept
