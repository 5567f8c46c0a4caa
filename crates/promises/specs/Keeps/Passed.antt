-- What a call knows once its checks are passed: a fact by name for each.
use Rattle.std.specs.Prelude.{◌≡◌, true, false, ◌||◌, List, ◌++◌, ℕ, ◌<◌, ◌≤◌, leb, Option, None, Some}
use Rattle.std.proofs.Common.{true≢false, leb-true, leb-false, lt-ltb}
use Rattle.std.proofs.lemmas.Bool.{not-false}
use Rattle.logic.specs.Laws.Bools.{and_left, and_right, and_both}
use Rattle.words.specs.declared.layout.Kind.{Kind}
use Rattle.words.specs.declared.layout.Kind.TheVariants.{Model, Instance}
use Rattle.words.specs.Sets.{has}
use Rattle.words.specs.Fields.{repositories, repository_in, model_in, type_in, is_free, is_schema}
use Rattle.words.specs.Entries.{is_taken}
use Rattle.dictionary.specs.declared.answers.Attribute.{Attribute}
use Rattle.dictionary.specs.declared.answers.Attribute.TheVariants.{Whole, Reference}
use Rattle.dictionary.specs.Dictionary.{attribute_of, lacks}
use Rattle.dictionary.specs.Subtype.{subtype}
use Rattle.tables.specs.View.{is_live, label_at, type_at}
use Rattle.tables.specs.Sound.{sound_value}
use Rattle.checks.specs.declared.operations.Writer.{Writer}
use Rattle.checks.specs.declared.operations.Operation.TheVariants as operation
use Rattle.state.specs.declared.state.State.{State}
use Rattle.state.specs.States.{NONE, RO, ABORTED, is_open, under}
use Rattle.checks.specs.Checks.{Check, in_reach, writable, accessed, transacted, gate}
use Rattle.session.specs.Rows.{reading, writing, creating, referring}
use Rattle.session.specs.Laws.Range.{Clear}

-- ---- the gate

-- a session and a transaction are open
pub record Transacted (s : State) (rest : List Check) : Type 0 where
  pub opened : is_open s ≡ true
  pub not_aborted : under s ABORTED ≡ false
  pub not_none : under s NONE ≡ false
  pub clear : Clear rest

pub is_transacted : (s : State) (rest : List Check) → Clear (transacted s rest) → Transacted s rest
unfolding Clear
is_transacted s rest p = record { opened = not-false _ p.0; not_aborted = p.1.0; not_none = p.1.1.0; clear = p.1.1.1 }

-- and the transaction is one that writes
pub record Writing (s : State) (own : List Check) : Type 0 where
  pub transacted : Transacted s own
  pub not_ro : under s RO ≡ false

pub is_writing : (o : Writer) (s : State) (own : List Check) → Clear (gate (operation.Writer o) s ++ own) → Writing s own
unfolding Clear
is_writing o s own p =
    record {
      transacted = record { opened = not-false _ p.0; not_aborted = p.1.0; not_none = p.1.1.0; clear = p.1.1.1.1 };
      not_ro = p.1.1.1.0;
    }

-- ---- an operation's own checks

-- an entry is there, and its repository is open
pub record InReach (label : ℕ) (s : State) (rest : List Check) : Type 0 where
  pub there : is_free label ≡ false
  pub is_open_lem : has s.repositories (repository_in label) ≡ true
  pub clear : Clear rest

pub in_reach_lem : (label refusal place : ℕ) (s : State) (rest : List Check) → Clear (in_reach label refusal place s rest) → InReach label s rest
unfolding Clear
in_reach_lem label refusal place s rest p = record { there = p.0; is_open_lem = not-false _ p.1.0; clear = p.1.1 }

-- an entry is there, and model m has read-write access
pub record Writable (first m : ℕ) (s : State) (rest : List Check) : Type 0 where
  pub there : is_free first ≡ false
  pub access : has s.rw m ≡ true
  pub clear : Clear rest

pub is_writable : (first refusal m : ℕ) (s : State) (rest : List Check) → Clear (writable first refusal m s rest) → Writable first m s rest
unfolding Clear
is_writable first refusal m s rest p = record { there = p.0; access = not-false _ p.1.0; clear = p.1.1 }

-- model m is there, and it has access
pub record Accessed (label m : ℕ) (s : State) : Type 0 where
  pub there : is_free label ≡ false
  pub access : (has s.ro m || has s.rw m) ≡ true

pub is_accessed : (label m : ℕ) (s : State) (rest : List Check) → Clear (accessed label m s rest) → Accessed label m s
unfolding Clear
is_accessed label m s rest p = record { there = p.0; access = not-false _ p.1.0 }

-- an instance is there, and the repository of its model is open
pub record Readable (header : ℕ) (s : State) (w : List ℕ) : Type 0 where
  pub there : is_free header ≡ false
  pub is_open_lem : has s.repositories (repository_in (label_at w Model (model_in header))) ≡ true

pub may_read : (header k : ℕ) (s : State) (w : List ℕ) (rest : List Check) → Clear (reading header k s w rest) → Readable header s w
unfolding Clear
may_read header k s w rest p = record { there = p.0; is_open_lem = not-false _ p.1.0 }

-- an attribute that is there may be written
pub record Written (header k : ℕ) (s : State) (rest : List Check) : Type 0 where
  pub there : is_free header ≡ false
  pub access : has s.rw (model_in header) ≡ true
  pub attribute : lacks (attribute_of (type_in header) k) ≡ false
  pub clear : Clear rest

pub may_write : (header k : ℕ) (s : State) (rest : List Check) → Clear (writing header k s rest) → Written header k s rest
unfolding Clear
may_write header k s rest p = record { there = p.0; access = not-false _ p.1.0; attribute = p.1.1.0; clear = p.1.1.1 }

-- what a label is made of
pub record Labelled (kind : Kind) (repository schema name : ℕ) (w : List ℕ) : Type 0 where
  pub known : repository < repositories
  pub lowest : 1 ≤ schema
  pub highest : schema ≤ 2
  pub new : is_taken w kind repository name ≡ false

pub is_labelled : (kind : Kind) (taken repository schema name : ℕ) (s : State) (w : List ℕ) → Clear (creating kind taken repository schema name s w)
    → Labelled kind repository schema name w
unfolding Clear
is_labelled kind taken repository schema name s w p =
    let is : is_schema schema ≡ true = not-false _ p.1.1.0 in
    record {
      known = leb-false _ _ p.0;
      lowest = leb-true _ _ (and_left (leb 1 schema) _ is);
      highest = leb-true _ _ (and_right (leb 1 schema) _ is);
      new = p.1.1.1.0;
    }

-- a value that may be put is sound where it is put
pub put_sound : (t : List ℕ) (x : Option Attribute) (m v : ℕ) → lacks x ≡ false → v < 0x1_0000_0000 → Clear (referring x m v t) → sound_value t x true v ≡ true
unfolding Clear
put_sound t None m v there small c = absurd (true≢false there)
put_sound t (Some Whole) m v there small c = rw (lt-ltb v 0x1_0000_0000 small)
put_sound t (Some (Reference u)) m v there small c =
    and_both (is_live t Instance v) (subtype (type_at t v) u) (rw c.0) (not-false (subtype (type_at t v) u) c.1.0)
