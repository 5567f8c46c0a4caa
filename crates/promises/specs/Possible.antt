-- What a machine can be asked: numbers below 2^32, words below 2^64, sixteen events whose refusal and place have a byte each.
use Rattle.std.specs.Prelude.{Bool, true, ◌&&◌, List, [], ◌∷◌, ℕ, eqb, ltb, length}
use Rattle.logic.specs.Search.{all_in}
use Rattle.state.specs.declared.state.State.{State}
use Rattle.state.specs.declared.state.Event.{Event}
use Rattle.state.specs.declared.state.Log.{Log}
use Rattle.state.specs.States.{slots}
use Rattle.session.specs.Runs.{Call, Chip, Machine, after_by}

abbrev pub fits8 : ℕ → Bool
fits8 n = ltb n 0x100

abbrev pub fits16 : ℕ → Bool
fits16 n = ltb n 0x1_0000

abbrev pub fits32 : ℕ → Bool
fits32 n = ltb n 0x1_0000_0000

abbrev pub fits64 : ℕ → Bool
fits64 n = ltb n 0x1_0000_0000_0000_0000

abbrev pub table_fits : List ℕ → Bool
table_fits t = fits64 (length t) && all_in fits64 t

abbrev pub state_fits : State → Bool
state_fits s = fits32 s.opened && fits32 s.recording && fits32 s.transaction && fits64 s.repositories && fits64 s.ro && fits64 s.rw

abbrev pub event_fits : Event → Bool
event_fits e = fits32 e.op && fits8 e.refusal && fits8 e.place && fits16 e.unused

abbrev pub log_fits : Log → Bool
log_fits l = fits64 l.count && eqb (length l.events) slots && all_in event_fits l.events

-- this call on this chip; that the third argument is below 2^32 is part of every call
unfoldable pub possible : Chip → Call → Bool
possible chip q =
    fits32 q.op
    && fits32 q.a
    && fits32 q.b
    && state_fits chip.session.state
    && log_fits chip.session.log
    && table_fits chip.working
    && table_fits chip.kept

-- every call of a machine's run is one
unfoldable pub possible_by : Machine → Chip → List Call → Bool
possible_by machine begun [] = true
possible_by machine begun (q ∷ earlier) = possible_by machine begun earlier && possible (after_by machine begun earlier) q
