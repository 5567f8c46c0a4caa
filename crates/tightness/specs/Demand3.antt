-- Libraries that only answer, and what demand 3 asks of a library.
use Rattle.std.specs.Prelude.{◌≡◌, true}
use Rattle.std.proofs.Math.Bool.{false}
use mathlib.Core.List.{List}
use Rattle.state.specs.States.{is_open}
use Rattle.session.specs.Runs.{Call, Chip, Fresh, Machine, outcome_by, after_by, history_by, outcome_of}
use Rattle.promises.specs.Possible.{possible, possible_by}
use Rattle.history.specs.Remains.{remaining}
use Rattle.history.specs.Demand3.{Tells}

-- ---- a library that opens a session as it should and from then on only answers

-- what demand 3 asks of a library's own run and history
abbrev pub TellsBy : Machine → Type 0
TellsBy library = (begun : Chip) → Fresh begun → (calls : List Call) → possible_by library begun calls ≡ true
    → Tells (after_by library begun calls).working (remaining (history_by library begun calls))

-- with no session open, as it is at the first operation, it does what `call` does
abbrev pub HonoursTheFirst : Machine → Type 0
HonoursTheFirst library = (chip : Chip) (q : Call) → possible chip q ≡ true → is_open chip.session.state ≡ false → outcome_by library chip q ≡ outcome_of chip q
