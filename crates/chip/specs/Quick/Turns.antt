-- A tray as the code goes over it: the test of soundness, and then order by order.
use Rattle.std.specs.Prelude.{ℕ, zero, suc, Bool, cond, List, leb, get_or, set}
use Rattle.state.specs.declared.state.Session.{Session}
use Rattle.state.specs.declared.state.Answer.{Answer}
use Rattle.state.specs.Refusals.{SY_ERR, done, ◌on◌}
use Rattle.state.specs.States.{answer}
use Rattle.session.specs.Sound.{sound}
use Rattle.session.specs.Step.{Outcome, judged}
use Rattle.state.specs.declared.state.Order.{Order}
use Rattle.chip.specs.declared.tray.Reply.{Reply}
use Rattle.chip.specs.declared.tray.Turn.{Turn}

-- how many orders of a row are taken, and the tray's own answer
abbrev pub taken_of : ℕ → ℕ → ℕ
taken_of orders places = cond (leb orders places) orders 0

abbrev pub closing_of : ℕ → ℕ → Session → Answer
closing_of orders places x = cond (leb orders places) (answer done 0 x) (answer (SY_ERR on 0) 0 x)

-- what a turn leaves: what goes on to the next one, and the tables
pub record Turned : Type 0 where
  pub turn : Turn
  pub working : List ℕ
  pub kept : List ℕ

abbrev pub turned : Turn → List ℕ → List ℕ → Turned
turned t w k = record { turn = t; working = w; kept = k }

abbrev pub turn_by : Bool → Answer → Turn
turn_by is_sound a = record { session = a.session; result = record { refusal = a.refusal; place = a.place; value = a.value }; sound = is_sound }

-- before the first order: the state is tested
abbrev pub begun_with : Session → List ℕ → List ℕ → Turn
begun_with x w k = turn_by (sound x w k) (answer done 0 x)

abbrev pub turned_by : Bool → Outcome → Turned
turned_by is_sound o = turned (turn_by is_sound o.answer) o.working o.kept

unfoldable pub turn_of : Order → Turn → List ℕ → List ℕ → Turned
turn_of o t w k = turned_by t.sound (judged t.sound o.op o.a o.b o.c t.session w k)

-- what stands after the first i orders
pub record Standing : Type 0 where
  pub answers : List Reply
  pub after : Turned

-- an order that no row has, for the element behind the last
abbrev pub no_order : Order
no_order = record { op = 0; a = 0; b = 0; c = 0 }

abbrev pub stepped : ℕ → Turned → Standing → Standing
stepped i y z = record { answers = set z.answers i y.turn.result; after = y }

abbrev pub standing : ℕ → List Order → List Reply → Turned → Standing
standing zero orders answers begun = record { answers = answers; after = begun }
standing (suc i) orders answers begun =
    let z = standing i orders answers begun in
    stepped i (turn_of (get_or orders i no_order) z.after.turn z.after.working z.after.kept) z
