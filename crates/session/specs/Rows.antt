-- The table of CHIP, operations: for each operation its refusals in the page's order, each with its condition and the place
-- that it names, and the effect when none of them is given.
use Rattle.std.specs.Prelude.{ℕ, not, List, [], ◌∷◌, ◌++◌, Option, Some, None}
use Rattle.words.specs.declared.layout.Kind.{Kind}
use Rattle.words.specs.declared.layout.Kind.TheVariants.{Model, SchemaInstance, Instance}
use Rattle.words.specs.Sets.{none, has, insert, remove, size_of}
use Rattle.words.specs.Fields.{is_schema, label_of, header_of, model_in, value_in}
use Rattle.words.specs.Entries.{is_taken}
use Rattle.dictionary.specs.declared.answers.Attribute.{Attribute}
use Rattle.dictionary.specs.declared.answers.Attribute.TheVariants.{Whole, Reference}
use Rattle.dictionary.specs.Dictionary.{is_type, attribute_of}
use Rattle.dictionary.specs.Subtype.{subtype}
use Rattle.tables.specs.View.{label_at, set_at, header_at, type_at, model_at, is_set, value_at}
use Rattle.tables.specs.Deletions.{held_back}
use Rattle.tables.specs.declared.changes.Change.TheVariants.{Gone, Joined, Left, Put, Unset}
use Rattle.checks.specs.declared.operations.Operation.{Operation}
use Rattle.checks.specs.declared.operations.Operation.TheVariants as operation
use Rattle.checks.specs.declared.operations.InSession.{InSession}
use Rattle.checks.specs.declared.operations.InSession.TheVariants as in_session
use Rattle.checks.specs.declared.operations.Reader.{Reader}
use Rattle.checks.specs.declared.operations.Reader.TheVariants as reader
use Rattle.checks.specs.declared.operations.Writer.{Writer}
use Rattle.checks.specs.declared.operations.Writer.TheVariants as writer
use Rattle.state.specs.declared.state.State.{State}
use Rattle.session.specs.Effects.{Stay, Commit, Drop, Changed, Effect, does, unless_refused, if_writing, number, created}
use Rattle.state.specs.Refusals.{TR_EAB, TR_EXS, TR_NEXS, TR_NAVL, TR_NRW, RP_NEXS, RP_OPN, RP_NOPN, MO_NEXS, MO_DUP, MO_NDEQ, MO_NVLD, MX_RO, MX_RW, MX_NRW, SD_NDEF, SI_NEXS, SI_DUP, ED_NDEF, ED_NDEQ, ED_NVLD, EI_NEXS, AT_NDEF, VA_NSET, VA_NVLD, VT_NVLD, ◌on◌, REMAINING}
use Rattle.state.specs.States.{NONE, RO, RW, ABORTED, under, with_recording, with_transaction, with_repositories, with_access, woken, ended, closed_state, opened_state}
use Rattle.checks.specs.Checks.{Check, ◌gives◌, first_of, no_repository, not_opened, away, missing, lacks_attribute, schemas_differ, type_foreign, types_differ, wrong_type, apart, in_reach, writable, accessed, gate}

-- the refusals of an operation, and its effect when done
pub record Row : Type 0 where
  pub checks : List Check
  pub effect : Effect

infix 60 ◌then◌
abbrev pub ◌then◌ : List Check → Effect → Row
checks then effect = record { checks = checks; effect = effect }

-- ---- those that ask for an open session

-- 4, 5 and 6: no transaction is open, and then the rest
abbrev pub untransacted : State → List Check → List Check
untransacted s rest = under s ABORTED gives TR_EAB on 0 ∷ not (under s NONE) gives TR_EXS on 0 ∷ rest

-- 7 and 8
abbrev pub settling : State → List Check
settling s = under s ABORTED gives TR_EAB on 0 ∷ under s NONE gives TR_NEXS on 0 ∷ under s RO gives TR_NRW on 0 ∷ []

abbrev pub session_row : InSession → ℕ → ℕ → State → Row
session_row in_session.CloseSession a b s = [] then does 0 closed_state (if_writing s Drop)
session_row in_session.OpenRepository a b s =
    no_repository a gives RP_NEXS on 1 ∷ has s.repositories a gives RP_OPN on 1 ∷ []
    then does 0 (with_repositories s (insert s.repositories a)) Stay
session_row in_session.CloseRepository a b s =
    untransacted s (no_repository a gives RP_NEXS on 1 ∷ not_opened s a gives RP_NOPN on 1 ∷ [])
    then does 0 (with_repositories s (remove s.repositories a)) Stay
session_row in_session.StartReadWrite a b s = untransacted s [] then does 0 (with_transaction s RW) Stay
session_row in_session.StartReadOnly a b s = untransacted s [] then does 0 (with_transaction s RO) Stay
session_row in_session.Commit a b s = settling s then does 0 s Commit
session_row in_session.Abort a b s = settling s then does 0 (with_access s none none) Drop
session_row in_session.EndCommit a b s =
    under s ABORTED gives TR_EAB on 0 ∷ under s NONE gives TR_NEXS on 0 ∷ [] then does 0 (ended s NONE) (if_writing s Commit)
session_row in_session.EndAbort a b s = under s NONE gives TR_NEXS on 0 ∷ [] then does 0 (ended s NONE) (if_writing s Drop)
session_row in_session.StartRecording a b s = [] then does 1 (with_recording s 1) Stay
session_row in_session.StopRecording a b s = [] then does s.recording (with_recording s 0) Stay
session_row in_session.StorageFault a b s =
    under s ABORTED gives TR_EAB on 0 ∷ under s NONE gives TR_NAVL on 0 ∷ [] then does 0 (ended s ABORTED) (if_writing s Drop)
session_row in_session.IsSubtype a b s =
    not (is_type a) gives ED_NDEF on 1 ∷ not (is_type b) gives ED_NDEF on 2 ∷ types_differ a b gives ED_NDEQ on 2 ∷ []
    then does (number (subtype a b)) s Stay

-- ---- those that ask for a transaction

-- 42 and 43, and then the rest
abbrev pub reading : ℕ → ℕ → State → List ℕ → List Check → List Check
reading header k s w rest =
    missing header gives EI_NEXS on 1
    ∷ away s (label_at w Model (model_in header)) gives RP_NOPN on 1
    ∷ lacks_attribute header k gives AT_NDEF on 2
    ∷ rest

abbrev pub reader_row : Reader → ℕ → ℕ → State → List ℕ → Row
reader_row reader.ReadOnlyAccess a b s w =
    in_reach (label_at w Model a) MO_NEXS 1 s (has s.ro a gives MX_RO on 1 ∷ has s.rw a gives MX_RW on 1 ∷ [])
    then does 0 (with_access s (insert s.ro a) s.rw) Stay
reader_row reader.EndAccess a b s w =
    accessed (label_at w Model a) a s [] then does 0 (with_access s (remove s.ro a) (remove s.rw a)) Stay
reader_row reader.Get a b s w =
    reading (header_at w a) b s w (not (is_set w a b) gives VA_NSET on 2 ∷ []) then does (value_in (value_at w a b)) (woken s (model_at w a)) Stay
reader_row reader.Test a b s w = reading (header_at w a) b s w [] then does (number (is_set w a b)) (woken s (model_at w a)) Stay

-- ---- those that ask for a transaction that writes

-- 20 and 30; a taken name has a refusal of its own in each
abbrev pub creating : Kind → ℕ → ℕ → ℕ → ℕ → State → List ℕ → List Check
creating kind taken repository schema name s w =
    no_repository repository gives RP_NEXS on 1
    ∷ not_opened s repository gives RP_NOPN on 1
    ∷ not (is_schema schema) gives SD_NDEF on 2
    ∷ is_taken w kind repository name gives taken on 3
    ∷ []

-- 44 and 45, and then the rest
abbrev pub writing : ℕ → ℕ → State → List Check → List Check
writing header k s rest = writable header EI_NEXS (model_in header) s (lacks_attribute header k gives AT_NDEF on 2 ∷ rest)

-- 44, of R alone: value v in an instance of model m
abbrev pub referring : Option Attribute → ℕ → ℕ → List ℕ → List Check
referring None m v w = []
referring (Some Whole) m v w = []
referring (Some (Reference target)) m v w =
    missing (header_at w v) gives VA_NVLD on 3 ∷ wrong_type (header_at w v) target gives VT_NVLD on 3 ∷ apart w m (model_at w v) gives MO_NVLD on 3 ∷ []

-- MX_NRW is first about the named entry's own model, and then about those that refer to what would go
abbrev pub writer_row : Writer → ℕ → ℕ → ℕ → State → List ℕ → Row
writer_row writer.CreateModel a b c s w = creating Model MO_DUP a b c s w then created Model (label_of a b c) s w
writer_row writer.DeleteModel a b c s w =
    writable (label_at w Model a) MO_NEXS a s (held_back w Model a s.rw gives MX_NRW on REMAINING ∷ [])
    then does 0 (with_access s (remove s.ro a) (remove s.rw a)) (Changed (Gone Model a))
writer_row writer.ReadWriteAccess a b c s w =
    in_reach (label_at w Model a) MO_NEXS 1 s (has s.rw a gives MX_RW on 1 ∷ has s.ro a gives MX_RO on 1 ∷ [])
    then does 0 (with_access s s.ro (insert s.rw a)) Stay
writer_row writer.PromoteModel a b c s w =
    accessed (label_at w Model a) a s (has s.rw a gives MX_RW on 1 ∷ [])
    then does 0 (with_access s (remove s.ro a) (insert s.rw a)) Stay
writer_row writer.CreateSchemaInstance a b c s w = creating SchemaInstance SI_DUP a b c s w then created SchemaInstance (label_of a b c) s w
writer_row writer.DeleteSchemaInstance a b c s w = in_reach (label_at w SchemaInstance a) SI_NEXS 1 s [] then does 0 s (Changed (Gone SchemaInstance a))
writer_row writer.AddModel a b c s w =
    in_reach (label_at w SchemaInstance a) SI_NEXS 1 s
    (in_reach (label_at w Model b) MO_NEXS 2 s (schemas_differ (label_at w Model b) (label_at w SchemaInstance a) gives MO_NDEQ on 2 ∷ []))
    then does (size_of (insert (set_at w a) b)) s (Changed (Joined a b))
writer_row writer.RemoveModel a b c s w =
    in_reach (label_at w SchemaInstance a) SI_NEXS 1 s (missing (label_at w Model b) gives MO_NEXS on 2 ∷ not (has (set_at w a) b) gives MO_NVLD on 2 ∷ [])
    then does (size_of (remove (set_at w a) b)) s (Changed (Left a b))
writer_row writer.CreateInstance a b c s w =
    writable (label_at w Model a) MO_NEXS a s (not (is_type b) gives ED_NDEF on 2 ∷ type_foreign b (label_at w Model a) gives ED_NVLD on 2 ∷ [])
    then created Instance (header_of b a 0) s w
writer_row writer.DeleteInstance a b c s w =
    writable (header_at w a) EI_NEXS (model_at w a) s (held_back w Instance a s.rw gives MX_NRW on REMAINING ∷ []) then does 0 s (Changed (Gone Instance a))
writer_row writer.Put a b c s w = writing (header_at w a) b s (referring (attribute_of (type_at w a) b) (model_at w a) c w) then does 0 s (Changed (Put a b c))
writer_row writer.Unset a b c s w = writing (header_at w a) b s [] then does 0 s (Changed (Unset a b))

-- ---- every operation

-- for a number that is not listed the gate has the refusal
abbrev pub row_of : Operation → ℕ → ℕ → ℕ → State → List ℕ → Row
row_of operation.Unlisted a b c s w = [] then does 0 s Stay
row_of operation.Opening a b c s w = [] then does 0 opened_state Stay
row_of (operation.InSession o) a b c s w = session_row o a b s
row_of (operation.Reader o) a b c s w = reader_row o a b s w
row_of (operation.Writer o) a b c s w = writer_row o a b c s w

abbrev pub checks : Operation → ℕ → ℕ → ℕ → State → List ℕ → List Check
checks o a b c s w = (row_of o a b c s w).checks

abbrev pub effect : Operation → ℕ → ℕ → ℕ → State → List ℕ → Effect
effect o a b c s w = (row_of o a b c s w).effect

-- the refusal of a call on a sound state, but for NO_ROOM; done if there is none
unfoldable pub refusal_of : Operation → ℕ → ℕ → ℕ → State → List ℕ → ℕ
refusal_of o a b c s w = first_of (gate o s ++ checks o a b c s w)

-- what a call does on a sound state: a refusal is the effect that does nothing
abbrev pub performed : Operation → ℕ → ℕ → ℕ → State → List ℕ → Effect
performed o a b c s w = unless_refused (refusal_of o a b c s w) s (effect o a b c s w)
