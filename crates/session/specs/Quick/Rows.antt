-- A row by itself, without the gate: what the code of one operation gives.
use Rattle.std.specs.Prelude.{ℕ, List, ◌∷◌, Option}
use Rattle.dictionary.specs.declared.answers.Attribute.{Attribute}
use Rattle.dictionary.specs.Dictionary.{lacks}
use Rattle.state.specs.declared.state.State.{State}
use Rattle.session.specs.Effects.{Effect, unless_refused}
use Rattle.state.specs.Refusals.{AT_NDEF, ◌on◌}
use Rattle.checks.specs.Checks.{Check, ◌gives◌, first_of}
use Rattle.session.specs.Rows.{Row, referring}

abbrev pub row_done : State → Row → Effect
row_done s row = unless_refused (first_of row.checks) s row.effect

-- 44 by the kind of its attribute, where the instance may be written
abbrev pub putting : Option Attribute → ℕ → ℕ → List ℕ → List Check
putting attribute m v w = lacks attribute gives AT_NDEF on 2 ∷ referring attribute m v w
