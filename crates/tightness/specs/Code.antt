-- What the promises say of the code itself: of whatever meets the contract of `chip_call` or `chip_tray`, the functions that are
-- linked, or of `call`. `Post` is a contract as the checker reads it off the source: of the arguments a, the answer r, and what the lent
-- tables hold at exit, s.
use Rattle.std.specs.Prelude.{◌≡◌, List, [], ◌∷◌, ◌++◌, ℕ}
use Rattle.state.specs.declared.state.Session.{Session}
use Rattle.state.specs.Refusals.{done}
use Rattle.session.specs.Step.{Outcome, outcome}
use Rattle.session.specs.Runs.{Call, Answered, Chip, left, answered_by}
use Rattle.state.specs.declared.state.Order.{Order}
use Rattle.chip.specs.declared.tray.Reply.{Reply}
use Rattle.chip.specs.Tray.{Trayed, asked}
use Rattle.tightness.specs.Trays.{TrayPost, left_by, Told}
use Rattle.session.proofs.call.call.Reads as session-call
use Rattle.chip.proofs.chip_call.Reads as chip-call

-- ---- one call

-- what was handed over: the numbers of q, and the session and the tables of this chip
pub record Handed (q : Call) (chip : Chip) (op a b c : ℕ) (x : Session) (w k : List ℕ) : Type 0 where
  pub number : op ≡ q.op
  pub first : a ≡ q.a
  pub second : b ≡ q.b
  pub third : c ≡ q.c
  pub session : x ≡ chip.session
  pub working : w ≡ chip.working
  pub kept : k ≡ chip.kept

-- the code was called with q on this chip, and this came of it: by the face for C, or from Rattle
pub data Called (q : Call) (chip : Chip) : Outcome → Type 0 where
  linked : (κs : _) (a : _) (r : _) (s : _) → chip-call.Post κs a r s
      → Handed q chip a.0 a.1.0 a.1.1.0 a.1.1.1.0 a.1.1.1.1.0 a.1.1.1.1.1.0.now a.1.1.1.1.1.1.0.now
      → Called q chip (outcome r s.1.1.1.1.1.0.now s.1.1.1.1.1.1.0.now)
  inside : (κs : _) (a : _) (r : _) (s : _) → session-call.Post κs a r s
      → Handed q chip a.0 a.1.0 a.1.1.0 a.1.1.1.0 a.1.1.1.1.0 a.1.1.1.1.1.0.now a.1.1.1.1.1.1.0.now
      → Called q chip (outcome r s.1.1.1.1.1.0.now s.1.1.1.1.1.1.0.now)

-- ---- calls one after the other

-- calls and trays of the code one after the other, each on what the one before it left: the latest first. A tray that is done is
-- the calls of its orders, each answered as the row of answers tells; one that is refused is no call.
pub data Run (begun : Chip) : List Call → Chip → List Answered → Type 0 where
  begins : Run begun [] begun []
  then : {calls : List Call} {chip : Chip} {h : List Answered} → Run begun calls chip h
      → (q : Call) (o : Outcome) → Called q chip o
      → Run begun (q ∷ calls) (left o) (answered_by q o ∷ h)
  then_tray : {calls : List Call} {chip : Chip} {h : List Answered} → Run begun calls chip h
      → (orders : List Order) (row : List Reply) (t : Trayed) → TrayPost orders row chip t → t.answer.refusal ≡ done
      → (told : List Answered) → Told orders t.answers told
      → Run begun (asked orders ++ calls) (left_by t) (told ++ h)
  then_refused : {calls : List Call} {chip : Chip} {h : List Answered} → Run begun calls chip h
      → (orders : List Order) (row : List Reply) (t : Trayed) → TrayPost orders row chip t → (t.answer.refusal ≡ done → ⊥)
      → Run begun calls (left_by t) h
