-- Demand 3: what a table tells of the calls that remain, and what the theorems ask of a call.
use Rattle.std.specs.Prelude.{ℕ, ◌+◌, ◌-◌, ◌%◌, ◌<◌, ◌≡◌, true, cond, ◌↔◌, List, [], ◌∷◌}
use Rattle.words.specs.declared.layout.Kind.{Kind}
use Rattle.words.specs.declared.layout.Kind.TheVariants.{Model, SchemaInstance, Instance}
use Rattle.words.specs.Layout.{count_of}
use Rattle.words.specs.Sets.{has}
use Rattle.words.specs.Fields.{name_in, repository_in, schema_in, type_in, model_in}
use Rattle.words.specs.Entries.{word_of, cursor_in, one_past}
use Rattle.tables.specs.View.{is_live, set_at, is_set, value_at}
use Rattle.state.specs.Refusals.{done}
use Rattle.checks.specs.Operations.{operation_of}
use Rattle.session.specs.Rows.{refusal_of}
use Rattle.session.specs.Step.{Outcome}
use Rattle.session.specs.Runs.{Call, Answered, Chip, outcome_of}
use Rattle.history.specs.Remains.{is}
use Rattle.history.specs.Live.{Live, Member, SetTo}

-- an entry's first word holds what its creation asked for: repository, schema and name; model and type
abbrev pub Asked : Kind → ℕ → Call → Type 0
Asked Model w q = (repository_in w ≡ q.a) × (schema_in w ≡ q.b) × (name_in w ≡ q.c)
Asked SchemaInstance w q = (repository_in w ≡ q.a) × (schema_in w ≡ q.b) × (name_in w ≡ q.c)
Asked Instance w q = (model_in w ≡ q.a) × (type_in w ≡ q.b)

-- the creation and the deletion of each kind
abbrev pub creation_of : Kind → ℕ
creation_of Model = 20
creation_of SchemaInstance = 30
creation_of Instance = 40

abbrev pub deletion_of : Kind → ℕ
deletion_of Model = 21
deletion_of SchemaInstance = 31
deletion_of Instance = 41

-- the number that is tried first: one past the last that a creation of the kind gave, going round; 0 if none did
unfoldable pub tried_first : Kind → List Answered → ℕ
tried_first kind [] = 0
tried_first kind (x ∷ h) = cond (is (creation_of kind) x) (one_past kind x.value) (tried_first kind h)

-- a table holds what these calls make live, a member and set, tries first what they leave, and holds (`nothing_else`) nothing besides
pub record Tells (t : List ℕ) (h : List Answered) : Type 0 where
  pub live : (kind : Kind) (n : ℕ) → ((q : Call) × Live kind n q h) ↔ (is_live t kind n ≡ true)
  pub asked : (kind : Kind) (n : ℕ) (q : Call) → Live kind n q h → Asked kind (word_of t kind n 0) q
  pub members : (s m : ℕ) → Member s m h ↔ (has (set_at t s) m ≡ true)
  pub attributes : (i k v : ℕ) → SetTo i k v h ↔ ((is_set t i k ≡ true) × (value_at t i k ≡ v))
  pub cursors : (kind : Kind) → cursor_in t kind ≡ tried_first kind h

-- the last place of each table
abbrev pub last_of : Kind → ℕ
last_of kind = count_of kind - 1

-- the live entries so counted fill the table of their kind
unfoldable pub Full : Kind → List Answered → Type 0
Full kind h = (n : ℕ) → n < count_of kind → (q : Call) × Live kind n q h

-- a creation that passes all checks but NO_ROOM
pub record Creates (kind : Kind) (chip : Chip) (q : Call) : Type 0 where
  pub operation : q.op ≡ creation_of kind
  pub passes : refusal_of (operation_of q.op) q.a q.b q.c chip.session.state chip.working ≡ done

-- a creation that is done, and whose value is n
pub record Takes (n : ℕ) (o : Outcome) : Type 0 where
  pub was_done : o.answer.refusal ≡ done
  pub number : o.answer.value ≡ n

-- how many steps on from a number another one lies, going round
abbrev pub steps_to : Kind → ℕ → ℕ → ℕ
steps_to kind from n = (n + count_of kind - from) % count_of kind

-- n is the next number that is given: it is free, and every one that is met before it is live
pub record ComesNext (kind : Kind) (h : List Answered) (n : ℕ) : Type 0 where
  pub within : n < count_of kind
  pub free : (q : Call) → Live kind n q h → ⊥
  pub passed : (j : ℕ) → j < count_of kind → steps_to kind (tried_first kind h) j < steps_to kind (tried_first kind h) n → (q : Call) × Live kind j q h

-- a deletion of entry n that is done
pub record Deletes (kind : Kind) (n : ℕ) (chip : Chip) (q : Call) : Type 0 where
  pub operation : q.op ≡ deletion_of kind
  pub number : q.a ≡ n
  pub was_done : (outcome_of chip q).answer.refusal ≡ done
