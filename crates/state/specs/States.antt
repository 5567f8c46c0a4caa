-- The session: the parts of its state that operations name, and its log of events.
use Rattle.std.specs.Prelude.{ℕ, ◌+◌, Bool, cond, ◌&&◌, List, [], ◌∷◌, ◌++◌, eqb, ltb, set, drop, replicate}
use Rattle.words.specs.Sets.{none, has, insert}
use Rattle.state.specs.declared.state.State.{State}
use Rattle.state.specs.declared.state.Event.{Event}
use Rattle.state.specs.declared.state.Log.{Log}
use Rattle.state.specs.declared.state.Session.{Session}
use Rattle.state.specs.declared.state.Answer.{Answer}
use Rattle.state.specs.Refusals.{number_in, place_in}

-- the transaction
abbrev pub NONE : ℕ
NONE = 0

abbrev pub RO : ℕ
RO = 1

abbrev pub RW : ℕ
RW = 2

abbrev pub ABORTED : ℕ
ABORTED = 3

abbrev pub is_open : State → Bool
is_open s = eqb s.opened 1

abbrev pub under : State → ℕ → Bool
under s transaction = eqb s.transaction transaction

-- a state with one part changed

abbrev pub with_recording : State → ℕ → State
with_recording s on = record { opened = s.opened; recording = on; transaction = s.transaction; repositories = s.repositories; ro = s.ro; rw = s.rw }

abbrev pub with_transaction : State → ℕ → State
with_transaction s x = record { opened = s.opened; recording = s.recording; transaction = x; repositories = s.repositories; ro = s.ro; rw = s.rw }

abbrev pub with_repositories : State → ℕ → State
with_repositories s r = record { opened = s.opened; recording = s.recording; transaction = s.transaction; repositories = r; ro = s.ro; rw = s.rw }

abbrev pub with_access : State → ℕ → ℕ → State
with_access s ro rw = record { opened = s.opened; recording = s.recording; transaction = s.transaction; repositories = s.repositories; ro = ro; rw = rw }

-- what a read leaves (CHIP, operations: access): model m is in the RO set unless it is in the RW set
abbrev pub woken : State → ℕ → State
woken s m = cond (has s.rw m) s (with_access s (insert s.ro m) s.rw)

-- all access ends
abbrev pub ended : State → ℕ → State
ended s transaction = with_transaction (with_access s none none) transaction

-- a closed session is blank (CHIP, sound session); an open one begins with recording on
abbrev pub closed_state : State
closed_state = record { opened = 0; recording = 0; transaction = NONE; repositories = none; ro = none; rw = none }

abbrev pub opened_state : State
opened_state = record { opened = 1; recording = 1; transaction = NONE; repositories = none; ro = none; rw = none }

-- ---- events

-- so many events at most
abbrev pub slots : ℕ
slots = 16

-- a refusal on its place, and the operation that it was given to; two bytes of an event are not used, and nothing asks for them
abbrev pub event : ℕ → ℕ → Event
event op refusal = record { op = op; refusal = number_in refusal; place = place_in refusal; unused = 0 }

abbrev pub blank_event : Event
blank_event = event 0 0

abbrev pub log : ℕ → List Event → Log
log n events = record { count = n; events = events }

abbrev pub blank_log : Log
blank_log = log 0 (replicate slots blank_event)

-- one event more; of sixteen the oldest goes
abbrev pub shifted : List Event → Event → List Event
shifted events e = drop 1 events ++ (e ∷ [])

abbrev pub added : Log → Event → Log
added l e = cond (ltb l.count slots) (log (l.count + 1) (set l.events l.count e)) (log l.count (shifted l.events e))

abbrev pub session : State → Log → Session
session s l = record { state = s; log = l }

-- the refusal is recorded on its place (CHIP, events) if the session was open and recording at entry
abbrev pub noted : Session → ℕ → ℕ → Session
noted x op refusal =
    cond (is_open x.state && eqb x.state.recording 1)
    (session x.state (added x.log (event op refusal)))
    x

-- ---- an answer: a refusal on its place, or done, a value, and the session that goes back

abbrev pub answer : ℕ → ℕ → Session → Answer
answer refusal value x = record { refusal = number_in refusal; place = place_in refusal; value = value; session = x }
