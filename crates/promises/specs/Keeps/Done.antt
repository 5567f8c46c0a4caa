-- Every operation that is done keeps the state sound.
use Rattle.std.specs.Prelude.{◌≡◌, refl, true, ◌&&◌, List, ◌++◌, ℕ, ◌<◌, eqb}
use Rattle.std.proofs.Common.{sym, true≢false, arith, leb-false, eqb-true}
use Rattle.std.proofs.lemmas.Bool.{not-false}
use Rattle.logic.specs.Laws.Bools.{and_both}
use Rattle.words.specs.declared.layout.Kind.TheVariants.{Model, SchemaInstance, Instance}
use Rattle.words.specs.Sets.{insert, remove, size_of, has}
use Rattle.words.specs.Fields.{repository_in, schema_in}
use Rattle.dictionary.specs.Dictionary.{attribute_of}
use Rattle.tables.specs.View.{is_live, label_at, header_at, set_at, type_at, model_at}
use Rattle.checks.specs.declared.operations.Operation.{Operation}
use Rattle.checks.specs.declared.operations.Operation.TheVariants as operation
use Rattle.checks.specs.declared.operations.InSession.{InSession}
use Rattle.checks.specs.declared.operations.InSession.TheVariants as in_session
use Rattle.checks.specs.declared.operations.Reader.{Reader}
use Rattle.checks.specs.declared.operations.Reader.TheVariants as reader
use Rattle.checks.specs.declared.operations.Writer.{Writer}
use Rattle.checks.specs.declared.operations.Writer.TheVariants as writer
use Rattle.state.specs.declared.state.Session.{Session}
use Rattle.state.specs.Refusals.{MO_NEXS, MO_DUP, SI_NEXS, SI_DUP, done}
use Rattle.state.specs.States.{NONE, RO, RW, ABORTED, is_open, under, woken}
use Rattle.checks.specs.Checks.{Check, gate}
use Rattle.session.specs.Rows.{reading, session_row, reader_row, writer_row, checks, effect}
use Rattle.session.specs.Laws.Range.{Clear, clear_first, clear_rest}
use Rattle.promises.specs.Keeps.Passed.{Transacted, is_transacted, is_writing, in_reach_lem, is_writable, is_accessed, may_read, may_write, is_labelled, put_sound}
use Rattle.promises.specs.Keeps.Frame.{not_free_live, live_below_lem}
use Rattle.promises.specs.Keeps.SessionFacts.{Sound}
use Rattle.promises.specs.Keeps.Afterwards.{Leaves, writing, going, dropped, committed, closed_sound}
use Rattle.promises.specs.Keeps.Sessions.{session_opened, unchanged, recorded, repository_made, repository_gone, started, commits, aborts, ends}
use Rattle.promises.specs.Keeps.Access.{reads, wakes, writes, promotes, access_gone}
use Rattle.promises.specs.Keeps.Changed.{After, model_created, group_created, instance_created, group_deleted, group_joined, group_left, attribute_put, attribute_unset, instance_deleted, model_deleted}

module _ (a b c : ℕ) (x : Session) (w k : List ℕ) (h : Sound x w k) (small : c < 0x1_0000_0000) where
  session_sound : (o : InSession) → is_open x.state ≡ true → Clear (session_row o a b x.state).checks → After x w k (session_row o a b x.state).effect
  unfolding Clear
  session_sound in_session.CloseSession opened p = record { tables = dropped w k x.state h.tables; session = closed_sound _ }
  session_sound in_session.OpenRepository opened p = repository_made x w k h opened a (leb-false _ _ p.0)
  session_sound in_session.CloseRepository opened p = repository_gone x w k h opened (not-false _ p.1.0) a
  session_sound in_session.StartReadWrite opened p = started x w k h opened (not-false _ p.1.0) RW (omega arith)
  session_sound in_session.StartReadOnly opened p = started x w k h opened (not-false _ p.1.0) RO (omega arith)
  session_sound in_session.Commit opened p = commits x w k h opened
  session_sound in_session.Abort opened p = aborts x w k h opened
  session_sound in_session.EndCommit opened p = ends x w k h opened NONE (omega arith) _ _ (committed w k x.state h.tables)
  session_sound in_session.EndAbort opened p = ends x w k h opened NONE (omega arith) _ _ (dropped w k x.state h.tables)
  session_sound in_session.StartRecording opened p = recorded x w k h opened 1 (omega arith)
  session_sound in_session.StopRecording opened p = recorded x w k h opened 0 (omega arith)
  session_sound in_session.StorageFault opened p = ends x w k h opened ABORTED (omega arith) _ _ (dropped w k x.state h.tables)
  session_sound in_session.IsSubtype opened p = unchanged x w k h opened

  -- model m may be given access: it is live, and its repository is opened
  may_see_lem : (m : ℕ) → is_live w Model m ≡ true → has x.state.repositories (repository_in (label_at w Model m)) ≡ true
      → (is_live w Model m && has x.state.repositories (repository_in (label_at w Model m))) ≡ true
  may_see_lem m live opened = and_both (is_live w Model m) (has x.state.repositories (repository_in (label_at w Model m))) live opened

  -- a read wakes the model of a live instance, which is live itself
  read_sound : (rest : List Check) → Transacted x.state (reading (header_at w a) b x.state w rest) → Leaves x.log (woken x.state (model_at w a)) w k
  read_sound rest g =
      let q = may_read (header_at w a) b x.state w rest g.clear in
      let i = h.tables.working.instances a (live_below_lem w Instance a (not_free_live w Instance a q.there)) in
      wakes x w k h g.opened (model_at w a) (may_see_lem (model_at w a) (i.headed q.there).model q.is_open_lem)
      (going x.state h.session.transaction g.not_aborted g.not_none)

  reader_sound : (o : Reader) → Transacted x.state (reader_row o a b x.state w).checks → After x w k (reader_row o a b x.state w).effect
  reader_sound reader.ReadOnlyAccess g =
      let q = in_reach_lem (label_at w Model a) MO_NEXS 1 x.state _ g.clear in
      reads x w k h g.opened a (may_see_lem a (not_free_live w Model a q.there) q.is_open_lem)
      (going x.state h.session.transaction g.not_aborted g.not_none) (clear_first _ _ (clear_rest _ _ q.clear))
  reader_sound reader.EndAccess g = access_gone x w k h g.opened a w h.tables (λ m apart. refl)
  reader_sound reader.Get g = read_sound _ g
  reader_sound reader.Test g = read_sound _ g

  writer_sound : (o : Writer) → is_open x.state ≡ true → under x.state RW ≡ true → Clear (writer_row o a b c x.state w).checks
      → (writer_row o a b c x.state w).effect.refusal ≡ done → After x w k (writer_row o a b c x.state w).effect
  writer_sound writer.CreateModel opened rw-open p e =
      let q = is_labelled Model MO_DUP a b c x.state w p in
      model_created x w k h opened rw-open a b c q.known q.lowest q.highest small q.new e
  writer_sound writer.DeleteModel opened rw-open p e =
      let q = is_writable (label_at w Model a) MO_NEXS a x.state _ p in
      model_deleted x w k h opened rw-open a (not_free_live w Model a q.there)
  writer_sound writer.ReadWriteAccess opened rw-open p e =
      let q = in_reach_lem (label_at w Model a) MO_NEXS 1 x.state _ p in
      writes x w k h opened a (may_see_lem a (not_free_live w Model a q.there) q.is_open_lem) rw-open (clear_first _ _ (clear_rest _ _ q.clear))
  writer_sound writer.PromoteModel opened rw-open p e =
      let q = is_accessed (label_at w Model a) a x.state _ p in
      promotes x w k h opened a ((h.session.access a (live_below_lem w Model a (not_free_live w Model a q.there))).may q.access) rw-open
  writer_sound writer.CreateSchemaInstance opened rw-open p e =
      let q = is_labelled SchemaInstance SI_DUP a b c x.state w p in
      group_created x w k h opened rw-open a b c q.known q.lowest q.highest small q.new e
  writer_sound writer.DeleteSchemaInstance opened rw-open p e =
      let q = in_reach_lem (label_at w SchemaInstance a) SI_NEXS 1 x.state _ p in
      group_deleted x w k h opened rw-open a (not_free_live w SchemaInstance a q.there)
  writer_sound writer.AddModel opened rw-open p e =
      let q = in_reach_lem (label_at w SchemaInstance a) SI_NEXS 1 x.state _ p in
      let m = in_reach_lem (label_at w Model b) MO_NEXS 2 x.state _ q.clear in
      group_joined x w k h opened rw-open (size_of (insert (set_at w a) b)) a b (not_free_live w SchemaInstance a q.there)
      (and_both (is_live w Model b) (eqb (schema_in (label_at w Model b)) (schema_in (label_at w SchemaInstance a))) (not_free_live w Model b m.there) (not-false _ (clear_first _ _ m.clear)))
  writer_sound writer.RemoveModel opened rw-open p e =
      let q = in_reach_lem (label_at w SchemaInstance a) SI_NEXS 1 x.state _ p in
      group_left x w k h opened rw-open (size_of (remove (set_at w a) b)) a b (not_free_live w SchemaInstance a q.there)
  writer_sound writer.CreateInstance opened rw-open p e =
      let q = is_writable (label_at w Model a) MO_NEXS a x.state _ p in
      instance_created x w k h opened rw-open a b (not_free_live w Model a q.there) (not-false _ (clear_first _ _ q.clear))
      (sym (eqb-true _ _ (not-false _ (clear_first _ _ (clear_rest _ _ q.clear))))) e
  writer_sound writer.DeleteInstance opened rw-open p e = instance_deleted x w k h opened rw-open a
  writer_sound writer.Put opened rw-open p e =
      let q = may_write (header_at w a) b x.state _ p in
      attribute_put x w k h opened rw-open a b c (not_free_live w Instance a q.there) q.attribute
      (put_sound w (attribute_of (type_at w a) b) (model_at w a) c q.attribute small q.clear)
  writer_sound writer.Unset opened rw-open p e =
      let q = may_write (header_at w a) b x.state _ p in
      attribute_unset x w k h opened rw-open a b (not_free_live w Instance a q.there) q.attribute

  pub done_sound : (o : Operation) → Clear (gate o x.state ++ checks o a b c x.state w)
      → (effect o a b c x.state w).refusal ≡ done → After x w k (effect o a b c x.state w)
  unfolding Clear
  done_sound operation.Unlisted p e = absurd (true≢false p.0)
  done_sound operation.Opening p e = session_opened x w k h p.0
  done_sound (operation.InSession o) p e = session_sound o (not-false _ p.0) p.1
  done_sound (operation.Reader o) p e = reader_sound o (is_transacted x.state (reader_row o a b x.state w).checks p)
  done_sound (operation.Writer o) p e =
      let g = is_writing o x.state (writer_row o a b c x.state w).checks p in
      let t = g.transacted in
      writer_sound o t.opened (writing x.state h.session.transaction t.not_aborted t.not_none g.not_ro) t.clear e
