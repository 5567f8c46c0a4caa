-- A whole tray at once (CHIP, trays): what its orders are answered, and the session and the tables that they leave, one call
-- after the other. Runs are those of `session`, which have the latest call first.
use Rattle.std.specs.Prelude.{ℕ, cond, List, ◌++◌, map, reverse, leb, length, drop}
use Rattle.state.specs.declared.state.Answer.{Answer}
use Rattle.state.specs.Refusals.{SY_ERR, done, ◌on◌}
use Rattle.state.specs.States.{answer}
use Rattle.session.specs.Runs.{Call, call, Answered, Chip, after, history}
use Rattle.state.specs.declared.state.Order.{Order}
use Rattle.chip.specs.declared.tray.Reply.{Reply}

-- what comes of a tray: its own answer with the session, the row of answers, the tables
pub record Trayed : Type 0 where
  pub answer : Answer
  pub answers : List Reply
  pub working : List ℕ
  pub kept : List ℕ

abbrev pub trayed : Answer → List Reply → List ℕ → List ℕ → Trayed
trayed a answers w k = record { answer = a; answers = answers; working = w; kept = k }

-- the orders of a row as calls
abbrev pub call_of : Order → Call
call_of o = call o.op o.a o.b o.c

abbrev pub asked : List Order → List Call
asked orders = reverse (map call_of orders)

-- a record of the row of answers, for each call; behind the last stays what stood there
abbrev pub result_of : Answered → Reply
result_of x = record { refusal = x.refusal; place = x.place; value = x.value }

abbrev pub results : List Answered → List Reply
results h = reverse (map result_of h)

abbrev pub written : List Answered → List Reply → List Reply
written h answers = results h ++ drop (length h) answers

-- the calls in their order, done as a tray
abbrev pub all_taken : List Order → List Reply → Chip → Trayed
all_taken orders answers begun =
    let chip = after begun (asked orders) in
    trayed (answer done 0 chip.session) (written (history begun (asked orders)) answers) chip.working chip.kept

-- SY_ERR, and nothing else
abbrev pub none_taken : List Reply → Chip → Trayed
none_taken answers begun = trayed (answer (SY_ERR on 0) 0 begun.session) answers begun.working begun.kept

-- by whether the row of answers is long enough
unfoldable pub tray : List Order → List Reply → Chip → Trayed
tray orders answers begun = cond (leb (length orders) (length answers)) (all_taken orders answers begun) (none_taken answers begun)
