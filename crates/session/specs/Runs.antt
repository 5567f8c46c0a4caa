-- Runs: calls one after the other, and what each was answered. A list of calls or of answers has the latest first.
use Rattle.std.specs.Prelude.{ℕ, ◌≤◌, ◌<◌, ◌%◌, ◌≡◌, List, [], ◌∷◌, length, get_or, replicate}
use Rattle.std.proofs.Common.{mod-lt, lit<}
use Rattle.words.specs.Layout.{words}
use Rattle.state.specs.declared.state.Session.{Session}
use Rattle.state.specs.declared.state.Answer.{Answer}
use Rattle.state.specs.States.{closed_state, blank_log, session}
use Rattle.session.specs.Step.{Outcome, step}

-- that c is a u32 has to be said, for it may be a name or a value, and these have fields of 32 bits
pub record Call : Type 0 where
  pub op : ℕ
  pub a : ℕ
  pub b : ℕ
  pub c : ℕ
  pub small : c < 0x1_0000_0000

-- the call with these numbers; of c its lowest 32 bits
abbrev pub call : ℕ → ℕ → ℕ → ℕ → Call
call op a b c = record { op = op; a = a; b = b; c = c % 0x1_0000_0000; small = mod-lt c (lit< tt) }

-- a call and what it was answered
pub record Answered : Type 0 where
  pub call : Call
  pub refusal : ℕ
  pub place : ℕ
  pub value : ℕ

-- what stands between two calls
pub record Chip : Type 0 where
  pub session : Session
  pub working : List ℕ
  pub kept : List ℕ

abbrev pub chip_of : Session → List ℕ → List ℕ → Chip
chip_of x w k = record { session = x; working = w; kept = k }

-- ---- fresh (CHIP, sound session): the session closed, the words in use 0

abbrev pub fresh_session : Session
fresh_session = session closed_state blank_log

-- words in use that are all 0
pub record Empty (t : List ℕ) : Type 0 where
  pub long : words ≤ length t
  pub zeros : (i : ℕ) → i < words → get_or t i 0 ≡ 0

pub record Fresh (chip : Chip) : Type 0 where
  pub session : chip.session ≡ fresh_session
  pub working : Empty chip.working
  pub kept : Empty chip.kept

-- a fresh chip whose tables have the words in use and no more
unfoldable pub fresh_table : List ℕ
fresh_table = replicate words 0

abbrev pub fresh_chip : Chip
fresh_chip = chip_of fresh_session fresh_table fresh_table

-- ---- one call after the other

-- what answers calls: `step`, or what may stand in its place
abbrev pub Machine : Type 0
Machine = ℕ → ℕ → ℕ → ℕ → Session → List ℕ → List ℕ → Outcome

abbrev pub outcome_by : Machine → Chip → Call → Outcome
outcome_by machine chip q = machine q.op q.a q.b q.c chip.session chip.working chip.kept

abbrev pub left : Outcome → Chip
left o = chip_of o.answer.session o.working o.kept

abbrev pub answered : Call → Answer → Answered
answered q a = record { call = q; refusal = a.refusal; place = a.place; value = a.value }

abbrev pub answered_by : Call → Outcome → Answered
answered_by q o = answered q o.answer

-- the chip after these calls, begun with this one, and their history
unfoldable pub after_by : Machine → Chip → List Call → Chip
after_by machine begun [] = begun
after_by machine begun (q ∷ earlier) = left (outcome_by machine (after_by machine begun earlier) q)

unfoldable pub history_by : Machine → Chip → List Call → List Answered
history_by machine begun [] = []
history_by machine begun (q ∷ earlier) = answered_by q (outcome_by machine (after_by machine begun earlier) q) ∷ history_by machine begun earlier

-- by `step`, which is what the contract of `call` says
abbrev pub outcome_of : Chip → Call → Outcome
outcome_of chip q = outcome_by step chip q

abbrev pub after : Chip → List Call → Chip
after begun calls = after_by step begun calls

abbrev pub history : Chip → List Call → List Answered
history begun calls = history_by step begun calls
