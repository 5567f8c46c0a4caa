-- A sound session (CHIP, sound session), clause by clause, and what SY_ERR asks.
use Rattle.std.specs.Prelude.{ℕ, Bool, true, cond, not, ◌&&◌, ◌||◌, List, eqb, ltb, leb, length, get_or}
use Rattle.words.specs.declared.layout.Kind.TheVariants.{Model}
use Rattle.logic.specs.Search.{all_b}
use Rattle.words.specs.Sets.{none, bits, has}
use Rattle.words.specs.Fields.{repository_in}
use Rattle.tables.specs.View.{is_live, label_at}
use Rattle.tables.specs.Sound.{sound_tables}
use Rattle.state.specs.declared.state.State.{State}
use Rattle.state.specs.declared.state.Event.{Event}
use Rattle.state.specs.declared.state.Log.{Log}
use Rattle.state.specs.declared.state.Session.{Session}
use Rattle.state.specs.Refusals.{FN_NAVL, NO_ROOM, REMAINING}
use Rattle.state.specs.States.{NONE, RO, RW, ABORTED, is_open, under, slots, blank_event}

-- an event may have any number, any refusal but SY_ERR, and any place with it; one that is not used is blank
abbrev pub sound_event : Event → Bool
sound_event e = leb FN_NAVL e.refusal && leb e.refusal NO_ROOM && leb e.place REMAINING

abbrev pub is_blank : Event → Bool
is_blank e = eqb e.op 0 && eqb e.refusal 0 && eqb e.place 0

abbrev pub sound_slot : ℕ → ℕ → Event → Bool
sound_slot count i e = cond (ltb i count) (sound_event e) (is_blank e)

unfoldable pub sound_slots : ℕ → List Event → Bool
sound_slots count events = eqb (length events) slots && all_b slots (λ i. sound_slot count i (get_or events i blank_event))

unfoldable pub sound_log : Log → Bool
sound_log l = leb l.count slots && sound_slots l.count l.events

-- access is RO or RW and never both, and to live models of the working table whose repository is open
abbrev pub may_access : List ℕ → State → ℕ → Bool
may_access working s m = is_live working Model m && has s.repositories (repository_in (label_at working Model m))

abbrev pub may_see : List ℕ → State → ℕ → Bool
may_see working s m = not (has s.ro m && has s.rw m) && (not (has s.ro m || has s.rw m) || may_access working s m)

unfoldable pub sound_access : List ℕ → State → Bool
sound_access working s = all_b bits (may_see working s)

-- RW access under RW alone, and none at all without a transaction or under an aborted one
unfoldable pub sound_transaction : State → Bool
sound_transaction s =
    leb s.transaction ABORTED
    && (under s RW || eqb s.rw none)
    && (under s RW || under s RO || eqb s.ro none)

-- a closed session is blank
unfoldable pub sound_open : Session → Bool
sound_open x =
    cond (is_open x.state)
    true
    (eqb x.state.opened 0
    && eqb x.state.recording 0
    && eqb x.state.transaction NONE
    && eqb x.state.repositories none
    && eqb x.log.count 0)

unfoldable pub sound_session : List ℕ → Session → Bool
sound_session working x =
    sound_open x
    && leb x.state.recording 1
    && ltb x.state.repositories 0x100
    && sound_transaction x.state
    && sound_access working x.state
    && sound_log x.log

unfoldable pub sound : Session → List ℕ → List ℕ → Bool
sound x working kept = sound_tables (under x.state RW) working kept && sound_session working x
