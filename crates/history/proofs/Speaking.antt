-- What a done call says is what it does to the tables.
use Rattle.std.specs.Prelude.{ℕ, ◌<◌, ◌≡◌, refl, Bool, true, false, cond, List, [], ◌++◌, ltb, None}
use Rattle.std.proofs.Math.Decide.{dec_lt}
use Rattle.std.proofs.Common.{arith, ltb-true, ne_eqb}
use Rattle.std.proofs.lemmas.Bool.{not-false}
use Rattle.tables.specs.Laws.Sound.{live_below_lem}
use Rattle.logic.specs.Laws.Bools.{clash}
use Rattle.dictionary.proofs.Laws.Attributes.{attributes_few, attribute_count}
use Rattle.words.specs.declared.layout.Kind.{Kind}
use Rattle.words.specs.declared.layout.Kind.TheVariants.{Model, SchemaInstance, Instance}
use Rattle.words.specs.Layout.{count_of}
use Rattle.words.specs.Fields.{label_of, header_of, values, is_free, flagged}
use Rattle.words.specs.Entries.{word_of, free_at, next_free}
use Rattle.words.specs.Laws.Fields.{name_of_label, repository_of_label, schema_of_label, label_is_live, type_of_header, model_of_header, no_flag}
use Rattle.words.specs.Laws.Layout.{kinds_apart}
use Rattle.words.proofs.Found.{next_is_free}
use Rattle.words.specs.Laws.Copies.{Agreeing}
use Rattle.dictionary.specs.Dictionary.{is_type, attribute_of, lacks, the_table}
use Rattle.tables.specs.View.{label_at, header_at, type_at, model_at}
use Rattle.tables.specs.declared.changes.Change.{Change}
use Rattle.tables.specs.declared.changes.Change.TheVariants.{Made}
use Rattle.tables.specs.Changes.{apply}
use Rattle.checks.specs.declared.operations.Operation.{Operation}
use Rattle.checks.specs.declared.operations.Operation.TheVariants as operation
use Rattle.checks.specs.declared.operations.InSession.{InSession}
use Rattle.checks.specs.declared.operations.InSession.TheVariants as in_session
use Rattle.checks.specs.declared.operations.Reader.{Reader}
use Rattle.checks.specs.declared.operations.Reader.TheVariants as reader
use Rattle.checks.specs.declared.operations.Writer.{Writer}
use Rattle.checks.specs.declared.operations.Writer.TheVariants as writer
use Rattle.state.specs.declared.state.State.{State}
use Rattle.state.specs.declared.state.Session.{Session}
use Rattle.session.specs.Effects.{Effect, Tables, Stay, Commit, Drop, Changed, does, full, created, if_writing}
use Rattle.state.specs.Refusals.{MO_NEXS, MO_DUP, SI_NEXS, SI_DUP, done}
use Rattle.state.specs.States.{RW, under}
use Rattle.checks.specs.Checks.{gate}
use Rattle.session.specs.Runs.{Call}
use Rattle.session.specs.Rows.{session_row, reader_row, writer_row, checks, effect}
use Rattle.session.specs.Laws.Range.{Clear, clear_first}
use Rattle.promises.specs.Keeps.Passed.{Labelled, is_writing, in_reach_lem, is_writable, may_write, is_labelled, put_sound}
use Rattle.promises.specs.Keeps.Facts.{SoundTable}
use Rattle.promises.specs.Keeps.SessionFacts.{Sound}
use Rattle.promises.specs.Keeps.Frame.{not_free_live}
use Rattle.promises.specs.Keeps.Group.{label_made}
use Rattle.history.specs.Demand3.{Asked}
use Rattle.history.proofs.Saying.{Said, silent, changes, commits, drops, session_says, writer_says, saying}
use Rattle.history.proofs.Reading.{creator, word_asked}
use Rattle.history.proofs.Told.{shown, After}
use Rattle.history.proofs.Made.{made_after}
use Rattle.history.proofs.Groups.{dissolved_after, joined_after, left_after}
use Rattle.history.proofs.Attributes.{put_after, unset_after, no_flag_past}
use Rattle.history.proofs.Deleting.{deleted_after}
use Rattle.history.proofs.Removing.{removed_after}

-- what is said, and what becomes of the tables; outside RW the tables agree
pub data Speaks (w k : List ℕ) : Said → Tables → Type 0 where
  quiet : Speaks w k silent Stay
  change : (c : Change) → After c (word_of w) (word_of (apply c w)) → Speaks w k (changes c) (Changed c)
  commit : Speaks w k commits Commit
  commit_clean : Agreeing w k → Speaks w k commits Stay
  drop : Speaks w k drops Drop
  drop_clean : Agreeing w k → Speaks w k drops Stay

small_type : (t : ℕ) → is_type t ≡ true → t < 255
unfolding the_table
small_type t e = omega (arith, ltb-true t 10 e)

-- an attribute that a type has is one of four
few_attributes : (t k : ℕ) → lacks (attribute_of t k) ≡ false → k < values
few_attributes t k e = omega (arith, attributes_few t, attribute_count t k (λ z. clash (lacks None) refl (rw z at e)))

-- a header that is new shows itself, and no flag
module _ (type model : ℕ) (ht : type < 255) (hm : model < 256) where
  new_live : is_free (header_of type model 0) ≡ false
  new_live = ne_eqb (header_of type model 0) 0 (λ e. omega arith)

  new_shows : shown Instance (header_of type model 0) ≡ header_of type model 0
  new_shows = rw (type_of_header type model 0 ht hm (omega arith), model_of_header type model 0 ht hm (omega arith))

  new_bare : (k : ℕ) → flagged (header_of type model 0) k ≡ false
  new_bare k = by_cases (dec_lt k values)
    where
      by_cases : Dec (k < values) → flagged (header_of type model 0) k ≡ false
      by_cases (yes l) = no_flag type model k ht hm l
      by_cases (no l) = no_flag_past _ k (omega arith)

module _ (a b c : ℕ) (x : Session) (w k : List ℕ) (h : Sound x w k) (small : c < 0x1_0000_0000) where
  good : SoundTable w
  good = h.tables.working

  committing : Speaks w k commits (if_writing x.state Commit)
  committing = by_cases (under x.state RW) refl
    where
      by_cases : (on : Bool) → under x.state RW ≡ on → Speaks w k commits (cond on Commit Stay)
      by_cases true e = commit
      by_cases false e = commit_clean (h.tables.agreeing e)

  dropping : Speaks w k drops (if_writing x.state Drop)
  dropping = by_cases (under x.state RW) refl
    where
      by_cases : (on : Bool) → under x.state RW ≡ on → Speaks w k drops (cond on Drop Stay)
      by_cases true e = drop
      by_cases false e = drop_clean (h.tables.agreeing e)

  abbrev in_room : Kind → ℕ → Bool → Effect
  in_room kind first room = cond room (does (next_free w kind) x.state (Changed (Made kind (next_free w kind) first))) (full kind x.state)

  creating : (kind : Kind) (first : ℕ) → is_free first ≡ false → shown kind first ≡ first → (kind ≡ Instance → (j : ℕ) → flagged first j ≡ false)
      → (created kind first x.state w).refusal ≡ done
      → Speaks w k (changes (Made kind (created kind first x.state w).value first)) (created kind first x.state w).tables
  creating kind first live shows bare e = by_cases (ltb (next_free w kind) (count_of kind)) refl e
    where
      by_cases : (room : Bool) → ltb (next_free w kind) (count_of kind) ≡ room → (in_room kind first room).refusal ≡ done
          → Speaks w k (changes (Made kind (in_room kind first room).value first)) (in_room kind first room).tables
      by_cases true l e = change _ (made_after w good kind (next_free w kind) first (ltb-true _ _ l) (next_is_free w kind (ltb-true _ _ l)) live shows bare)
      by_cases false l e = absurd (omega arith)

  labelled : (kind : Kind) → shown kind (label_of a b c) ≡ label_of a b c → (kind ≡ Instance → ⊥) → Labelled kind a b c w
      → (created kind (label_of a b c) x.state w).refusal ≡ done
      → Speaks w k (changes (Made kind (created kind (label_of a b c) x.state w).value (label_of a b c))) (created kind (label_of a b c) x.state w).tables
  labelled kind shows other q e =
      creating kind (label_of a b c) (label_is_live _ (label_made a b c q.known q.lowest q.highest small)) shows (λ z. absurd (other z)) e

  session_speaks : (o : InSession) → Speaks w k (session_says o) (session_row o a b x.state).effect.tables
  session_speaks in_session.CloseSession = dropping
  session_speaks in_session.OpenRepository = quiet
  session_speaks in_session.CloseRepository = quiet
  session_speaks in_session.StartReadWrite = quiet
  session_speaks in_session.StartReadOnly = quiet
  session_speaks in_session.Commit = commit
  session_speaks in_session.Abort = drop
  session_speaks in_session.EndCommit = committing
  session_speaks in_session.EndAbort = dropping
  session_speaks in_session.StartRecording = quiet
  session_speaks in_session.StopRecording = quiet
  session_speaks in_session.StorageFault = dropping
  session_speaks in_session.IsSubtype = quiet

  reader_speaks : (o : Reader) → Speaks w k silent (reader_row o a b x.state w).effect.tables
  reader_speaks reader.ReadOnlyAccess = quiet
  reader_speaks reader.EndAccess = quiet
  reader_speaks reader.Get = quiet
  reader_speaks reader.Test = quiet

  -- an entry that is not free is one of its kind
  below : (kind : Kind) (n : ℕ) → free_at w kind n ≡ false → n < count_of kind
  below kind n f = live_below_lem w kind n (not_free_live w kind n f)

  writer_speaks : (o : Writer) → Clear (writer_row o a b c x.state w).checks → (writer_row o a b c x.state w).effect.refusal ≡ done
      → Speaks w k (writer_says o a b c (writer_row o a b c x.state w).effect.value) (writer_row o a b c x.state w).effect.tables
  writer_speaks writer.CreateModel p e = labelled Model refl (λ z. kinds_apart z refl) (is_labelled Model MO_DUP a b c x.state w p) e
  writer_speaks writer.DeleteModel p e =
      let q = is_writable (label_at w Model a) MO_NEXS a x.state _ p in
      change _ (removed_after w good a (below Model a q.there))
  writer_speaks writer.ReadWriteAccess p e = quiet
  writer_speaks writer.PromoteModel p e = quiet
  writer_speaks writer.CreateSchemaInstance p e =
      labelled SchemaInstance refl (λ z. kinds_apart z refl) (is_labelled SchemaInstance SI_DUP a b c x.state w p) e
  writer_speaks writer.DeleteSchemaInstance p e =
      let q = in_reach_lem (label_at w SchemaInstance a) SI_NEXS 1 x.state _ p in
      change _ (dissolved_after w good a (below SchemaInstance a q.there))
  writer_speaks writer.AddModel p e =
      let q = in_reach_lem (label_at w SchemaInstance a) SI_NEXS 1 x.state _ p in
      let m = in_reach_lem (label_at w Model b) MO_NEXS 2 x.state _ q.clear in
      change _ (joined_after w good a (below SchemaInstance a q.there) b (below Model b m.there))
  writer_speaks writer.RemoveModel p e =
      let q = in_reach_lem (label_at w SchemaInstance a) SI_NEXS 1 x.state _ p in
      change _ (left_after w good a (below SchemaInstance a q.there) b)
  writer_speaks writer.CreateInstance p e =
      let q = is_writable (label_at w Model a) MO_NEXS a x.state _ p in
      let ht : b < 255 = small_type b (not-false _ (clear_first _ _ q.clear)) in
      let hm : a < 256 = omega (arith, below Model a q.there) in
      creating Instance (header_of b a 0) (new_live b a ht hm) (new_shows b a ht hm) (λ z. new_bare b a ht hm) e
  writer_speaks writer.DeleteInstance p e = change _ (deleted_after w good a)
  writer_speaks writer.Put p e =
      let q = may_write (header_at w a) b x.state _ p in
      change _
      (put_after w good a b (not_free_live w Instance a q.there) (few_attributes (type_at w a) b q.attribute) c
      (put_sound w (attribute_of (type_at w a) b) (model_at w a) c q.attribute small q.clear))
  writer_speaks writer.Unset p e =
      let q = may_write (header_at w a) b x.state [] p in
      change _ (unset_after w good a b (not_free_live w Instance a q.there) (few_attributes (type_at w a) b q.attribute))

  -- **Every done call says what it does.**
  pub speaks : (o : Operation) → Clear (gate o x.state ++ checks o a b c x.state w) → (effect o a b c x.state w).refusal ≡ done
      → Speaks w k (saying o a b c (effect o a b c x.state w).value) (effect o a b c x.state w).tables
  speaks operation.Unlisted p e = quiet
  speaks operation.Opening p e = quiet
  speaks (operation.InSession o) p e = session_speaks o
  speaks (operation.Reader o) p e = reader_speaks o
  speaks (operation.Writer o) p e = writer_speaks o (is_writing o x.state (writer_row o a b c x.state w).checks p).transacted.clear e

-- ---- the first word of a creation that passes its checks holds what it asked for

module _ (q : Call) (s : State) (w : List ℕ) where
  label_holds : (kind : Kind) → Labelled kind q.a q.b q.c w → Asked Model (label_of q.a q.b q.c) q
  label_holds kind l =
      let ha : q.a < 256 = omega (arith, l.known) in
      let hb : q.b < 256 = omega (arith, l.highest) in
      (repository_of_label _ _ _ ha hb q.small, schema_of_label _ _ _ ha hb q.small, name_of_label _ _ _ ha hb q.small)

  own_checks : (o : Writer) → Clear (gate (operation.Writer o) s ++ checks (operation.Writer o) q.a q.b q.c s w) → Clear (writer_row o q.a q.b q.c s w).checks
  own_checks o p = (is_writing o s (writer_row o q.a q.b q.c s w).checks p).transacted.clear

  pub creation_holds : (kind : Kind)
      → Clear (gate (operation.Writer (creator kind)) s ++ checks (operation.Writer (creator kind)) q.a q.b q.c s w)
      → Asked kind (word_asked kind q) q
  creation_holds Model p = label_holds Model (is_labelled Model MO_DUP q.a q.b q.c s w (own_checks writer.CreateModel p))
  creation_holds SchemaInstance p =
      label_holds SchemaInstance (is_labelled SchemaInstance SI_DUP q.a q.b q.c s w (own_checks writer.CreateSchemaInstance p))
  creation_holds Instance p =
      let l = is_writable (label_at w Model q.a) MO_NEXS q.a s _ (own_checks writer.CreateInstance p) in
      let ht : q.b < 255 = small_type q.b (not-false _ (clear_first _ _ l.clear)) in
      let hm : q.a < 256 = omega (arith, live_below_lem w Model q.a (not_free_live w Model q.a l.there)) in
      (model_of_header q.b q.a 0 ht hm (omega arith), type_of_header q.b q.a 0 ht hm (omega arith))
