-- Document 01's wrong libraries: none of them meets the contract of `call`, each shown at a call where it fails. All is about
-- what a machine can be asked: what a library does elsewhere nobody can see.
use Rattle.std.proofs.Math.Path.{◌≡◌}
use Rattle.std.specs.Prelude.{true, ℕ}
use Rattle.words.specs.Sets.{size_of}
use Rattle.tables.specs.View.{set_at}
use Rattle.state.specs.Refusals.{done}
use Rattle.state.specs.States.{is_open}
use Rattle.session.specs.Runs.{Call, call, Chip, Machine, outcome_by, outcome_of}
use Rattle.promises.specs.Possible.{possible}

-- what stands in the place of `call` meets its contract
abbrev pub Meets : Machine → Type 0
Meets library = (chip : Chip) (q : Call) → possible chip q ≡ true → outcome_by library chip q ≡ outcome_of chip q

-- ---- the wrong ones

-- it refuses everything
abbrev pub RefusesAll : Machine → Type 0
RefusesAll library = (chip : Chip) (q : Call) → possible chip q ≡ true → (outcome_by library chip q).answer.refusal ≡ done → ⊥

-- it gives one answer to all
abbrev pub Constant : Machine → Type 0
Constant library = (refusal : ℕ) × ((chip : Chip) (q : Call) → possible chip q ≡ true → (outcome_by library chip q).answer.refusal ≡ refusal)

-- it touches no table
abbrev pub NoTable : Machine → Type 0
NoTable library = (chip : Chip) (q : Call) → possible chip q ≡ true → (outcome_by library chip q).working ≡ chip.working

-- it honours the first operation, which opens a session, and then only answers: whatever becomes of the session
abbrev pub OnlyAnswers : Machine → Type 0
OnlyAnswers library = (chip : Chip) (q : Call) → possible chip q ≡ true → is_open chip.session.state ≡ true
    → (outcome_by library chip q).working ≡ chip.working

-- it invents the set size, once: to one 32 or 33 it answers done and another value than the number of models then in the set
pub record InventsASize (op : ℕ) (become : ℕ → ℕ → ℕ) (library : Machine) : Type 0 where
  pub chip : Chip
  pub a : ℕ
  pub b : ℕ
  pub c : ℕ
  pub asks : possible chip (call op a b c) ≡ true
  pub was_done : (outcome_by library chip (call op a b c)).answer.refusal ≡ done
  pub other : (outcome_by library chip (call op a b c)).answer.value ≡ size_of (become (set_at chip.working a) b) → ⊥

-- it invents it always
abbrev pub InventsSizes : ℕ → (ℕ → ℕ → ℕ) → Machine → Type 0
InventsSizes op become library = (chip : Chip) (a b c : ℕ) → possible chip (call op a b c) ≡ true
    → (outcome_by library chip (call op a b c)).answer.refusal ≡ done
    → (outcome_by library chip (call op a b c)).answer.value ≡ size_of (become (set_at chip.working a) b) → ⊥
