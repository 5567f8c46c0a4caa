-- What a call does: its refusal, or the value, the session's state and what becomes of the tables.
use Rattle.std.specs.Prelude.{ℕ, Bool, true, false, cond, List, eqb, ltb}
use Rattle.words.specs.declared.layout.Kind.{Kind}
use Rattle.words.specs.Layout.{count_of}
use Rattle.words.specs.Entries.{next_free}
use Rattle.words.specs.Copies.{copied}
use Rattle.tables.specs.declared.changes.Change.{Change}
use Rattle.tables.specs.declared.changes.Change.TheVariants.{Made}
use Rattle.tables.specs.Changes.{apply}
use Rattle.state.specs.declared.state.State.{State}
use Rattle.state.specs.Refusals.{NO_ROOM, done, ◌on◌, room_of}
use Rattle.state.specs.States.{RW, under}

-- what becomes of the tables
pub data Tables : Type 0 where
  Stay : Tables
  Commit : Tables
  Drop : Tables
  Changed : Change → Tables

pub record Effect : Type 0 where
  pub refusal : ℕ
  pub value : ℕ
  pub state : State
  pub tables : Tables

-- nothing; a commit copies working to kept, a drop kept to working; or working is changed
abbrev pub working_after : Tables → List ℕ → List ℕ → List ℕ
working_after Stay w k = w
working_after Commit w k = w
working_after Drop w k = copied k w
working_after (Changed c) w k = apply c w

abbrev pub kept_after : Tables → List ℕ → List ℕ → List ℕ
kept_after Stay w k = k
kept_after Commit w k = copied w k
kept_after Drop w k = k
kept_after (Changed c) w k = k

abbrev pub does : ℕ → State → Tables → Effect
does value s tables = record { refusal = done; value = value; state = s; tables = tables }

-- a refusal (CHIP, operations): value 0, and the tables stay
abbrev pub refuses : ℕ → State → Effect
refuses refusal s = record { refusal = refusal; value = 0; state = s; tables = Stay }

abbrev pub full : Kind → State → Effect
full kind s = refuses (NO_ROOM on room_of kind) s

-- the effect, unless a check refuses
abbrev pub unless_refused : ℕ → State → Effect → Effect
unless_refused refusal s e = cond (eqb refusal done) e (refuses refusal s)

-- what commits or drops does so only where a transaction writes
abbrev pub if_writing : State → Tables → Tables
if_writing s tables = cond (under s RW) tables Stay

abbrev pub number : Bool → ℕ
number true = 1
number false = 0

-- a creation: its value is the number that it took, and NO_ROOM where none is free
abbrev pub created : Kind → ℕ → State → List ℕ → Effect
created kind first s w =
    cond (ltb (next_free w kind) (count_of kind))
    (does (next_free w kind) s (Changed (Made kind (next_free w kind) first)))
    (full kind s)
