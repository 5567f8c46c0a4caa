-- Which refusals there are: a call on a sound state is refused with a number from 2 to 32 on a place from 0 to 7, or not at all.
use Rattle.std.specs.Prelude.{◌≡◌, refl, Option, Some, None, Bool, true, false, cond, ◌&&◌, ◌⊎◌, List, [], ◌∷◌, ◌++◌, ℕ, ◌≤◌, leb, ltb}
use Rattle.std.proofs.Common.{inl, inr, arith, ne_eqb}
use Rattle.logic.specs.Search.{all_in}
use Rattle.logic.specs.Laws.Decides.{Decides, both, at_most, restated}
use Rattle.logic.specs.Laws.Bools.{and_left, and_right}
use Rattle.words.specs.declared.layout.Kind.{Kind}
use Rattle.words.specs.declared.layout.Kind.TheVariants.{Model, SchemaInstance, Instance}
use Rattle.words.specs.Layout.{count_of}
use Rattle.words.specs.Fields.{label_of, header_of}
use Rattle.words.specs.Entries.{next_free}
use Rattle.dictionary.specs.declared.answers.Attribute.{Attribute}
use Rattle.dictionary.specs.declared.answers.Attribute.TheVariants.{Whole, Reference}
use Rattle.dictionary.specs.Dictionary.{attribute_of}
use Rattle.tables.specs.View.{header_at, type_at, model_at}
use Rattle.tables.specs.declared.changes.Change.TheVariants.{Made}
use Rattle.checks.specs.declared.operations.Operation.{Operation}
use Rattle.checks.specs.declared.operations.Operation.TheVariants as operation
use Rattle.checks.specs.declared.operations.InSession.{InSession}
use Rattle.checks.specs.declared.operations.InSession.TheVariants as in_session
use Rattle.checks.specs.declared.operations.Reader.{Reader}
use Rattle.checks.specs.declared.operations.Reader.TheVariants as reader
use Rattle.checks.specs.declared.operations.Writer.{Writer}
use Rattle.checks.specs.declared.operations.Writer.TheVariants as writer
use Rattle.state.specs.declared.state.State.{State}
use Rattle.session.specs.Effects.{Changed, Effect, does, refuses, full, unless_refused, created}
use Rattle.state.specs.Refusals.{FN_NAVL, NO_ROOM, REMAINING, done, ◌on◌, number_in, place_in, room_of}
use Rattle.checks.specs.Checks.{Check, first_of, gate}
use Rattle.session.specs.Rows.{Row, ◌then◌, writing, referring, session_row, reader_row, writer_row, row_of, checks, effect, refusal_of, performed}

-- a refusal that an event can hold: SY_ERR is none
pub record Refusing (refusal : ℕ) : Type 0 where
  pub from : FN_NAVL ≤ number_in refusal
  pub to : number_in refusal ≤ NO_ROOM
  pub place : place_in refusal ≤ REMAINING

abbrev pub is_refusing : ℕ → Bool
is_refusing n = leb FN_NAVL (number_in n) && leb (number_in n) NO_ROOM && leb (place_in n) REMAINING

pub refusing_test : (n : ℕ) → Decides (is_refusing n) (Refusing n)
refusing_test n =
    restated (both _ _ (both _ _ (at_most FN_NAVL (number_in n)) (at_most (number_in n) NO_ROOM)) (at_most (place_in n) REMAINING))
    (λ h. record { from = h.0.0; to = h.0.1; place = h.1 })
    (λ h. ((h.from, h.to), h.place))

-- it is not done
pub refusing_not_done : (n : ℕ) → Refusing n → n ≡ done → ⊥
refusing_not_done n h e = omega (arith, e, h.from)

abbrev pub given : Check → Bool
given c = is_refusing c.refusal

first_given : (l : List Check) → all_in given l ≡ true → (first_of l ≡ done) ⊎ Refusing (first_of l)
unfolding first_of all_in
first_given [] h = inl refl
first_given (check ∷ l) h = by_condition check.condition (first_given l (and_right (given check) (all_in given l) h))
  where
    by_condition : (b : Bool) → (first_of l ≡ done) ⊎ Refusing (first_of l)
        → (cond b check.refusal (first_of l) ≡ done) ⊎ Refusing (cond b check.refusal (first_of l))
    by_condition true r = inr ((refusing_test check.refusal).holds (and_left (given check) (all_in given l) h))
    by_condition false r = r

-- no condition of a list of checks holds
unfoldable pub Clear : List Check → Type 0
Clear [] = Unit {0}
Clear (check ∷ l) = (check.condition ≡ false) × Clear l

pub clear_first : (check : Check) (l : List Check) → Clear (check ∷ l) → check.condition ≡ false
unfolding Clear
clear_first check l p = p.0

pub clear_rest : (check : Check) (l : List Check) → Clear (check ∷ l) → Clear l
unfolding Clear
clear_rest check l p = p.1

all_clear : (l : List Check) → all_in given l ≡ true → first_of l ≡ done → Clear l
unfolding first_of all_in Clear
all_clear [] h e = tt
all_clear (check ∷ l) h e = by_condition check.condition refl (λ q. all_clear l (and_right (given check) (all_in given l) h) q) e
  where
    by_condition : (b : Bool) → check.condition ≡ b → (first_of l ≡ done → Clear l) → cond b check.refusal (first_of l) ≡ done
        → (check.condition ≡ false) × Clear l
    by_condition true p later q =
        let r : Refusing check.refusal = (refusing_test check.refusal).holds (and_left (given check) (all_in given l) h) in
        absurd (refusing_not_done check.refusal r q)
    by_condition false p later q = (p, later q)

-- ---- every row refuses with such a number

-- an effect that is refused says nothing else: value 0, the state as it was, and the tables stay
pub record Refused (s : State) (e : Effect) : Type 0 where
  pub range : Refusing e.refusal
  pub nothing : e ≡ refuses e.refusal s

-- in state s a row's checks refuse with such numbers, and its effect is done or refused for want of room
pub record Fair (s : State) (row : Row) : Type 0 where
  pub checks : all_in given row.checks ≡ true
  pub effect : (row.effect.refusal ≡ done) ⊎ Refused s row.effect

fair : {s : State} {row : Row} → all_in given row.checks ≡ true → row.effect.refusal ≡ done → Fair s row
fair c e = record { checks = c; effect = inl e }

no_room : (kind : Kind) → Refusing (NO_ROOM on room_of kind)
no_room Model = (refusing_test (NO_ROOM on room_of Model)).holds refl
no_room SchemaInstance = (refusing_test (NO_ROOM on room_of SchemaInstance)).holds refl
no_room Instance = (refusing_test (NO_ROOM on room_of Instance)).holds refl

-- NO_ROOM is the one refusal of an effect
created_effect : (kind : Kind) (first : ℕ) (s : State) (w : List ℕ) → ((created kind first s w).refusal ≡ done) ⊎ Refused s (created kind first s w)
created_effect kind first s w = by_room (ltb (next_free w kind) (count_of kind)) (does (next_free w kind) s (Changed (Made kind (next_free w kind) first))) refl
  where
    by_room : (room : Bool) (made : Effect) → made.refusal ≡ done
        → ((cond room made (full kind s)).refusal ≡ done) ⊎ Refused s (cond room made (full kind s))
    by_room true made e = inl e
    by_room false made e = inr (record { range = no_room kind; nothing = refl })

creation_fair : (l : List Check) (kind : Kind) (first : ℕ) (s : State) (w : List ℕ) → all_in given l ≡ true → Fair s (l then created kind first s w)
creation_fair l kind first s w c = record { checks = c; effect = created_effect kind first s w }

put_checks : (x : Option Attribute) (header k m v : ℕ) (s : State) (w : List ℕ) → all_in given (writing header k s (referring x m v w)) ≡ true
unfolding all_in
put_checks None header k m v s w = refl
put_checks (Some Whole) header k m v s w = refl
put_checks (Some (Reference u)) header k m v s w = refl

session_fair : (o : InSession) (a b : ℕ) (s : State) → Fair s (session_row o a b s)
unfolding all_in
session_fair in_session.CloseSession a b s = fair refl refl
session_fair in_session.OpenRepository a b s = fair refl refl
session_fair in_session.CloseRepository a b s = fair refl refl
session_fair in_session.StartReadWrite a b s = fair refl refl
session_fair in_session.StartReadOnly a b s = fair refl refl
session_fair in_session.Commit a b s = fair refl refl
session_fair in_session.Abort a b s = fair refl refl
session_fair in_session.EndCommit a b s = fair refl refl
session_fair in_session.EndAbort a b s = fair refl refl
session_fair in_session.StartRecording a b s = fair refl refl
session_fair in_session.StopRecording a b s = fair refl refl
session_fair in_session.StorageFault a b s = fair refl refl
session_fair in_session.IsSubtype a b s = fair refl refl

reader_fair : (o : Reader) (a b : ℕ) (s : State) (w : List ℕ) → Fair s (reader_row o a b s w)
unfolding all_in
reader_fair reader.ReadOnlyAccess a b s w = fair refl refl
reader_fair reader.EndAccess a b s w = fair refl refl
reader_fair reader.Get a b s w = fair refl refl
reader_fair reader.Test a b s w = fair refl refl

writer_fair : (o : Writer) (a b c : ℕ) (s : State) (w : List ℕ) → Fair s (writer_row o a b c s w)
unfolding all_in
writer_fair writer.CreateModel a b c s w = creation_fair _ Model (label_of a b c) s w refl
writer_fair writer.DeleteModel a b c s w = fair refl refl
writer_fair writer.ReadWriteAccess a b c s w = fair refl refl
writer_fair writer.PromoteModel a b c s w = fair refl refl
writer_fair writer.CreateSchemaInstance a b c s w = creation_fair _ SchemaInstance (label_of a b c) s w refl
writer_fair writer.DeleteSchemaInstance a b c s w = fair refl refl
writer_fair writer.AddModel a b c s w = fair refl refl
writer_fair writer.RemoveModel a b c s w = fair refl refl
writer_fair writer.CreateInstance a b c s w = creation_fair _ Instance (header_of b a 0) s w refl
writer_fair writer.DeleteInstance a b c s w = fair refl refl
writer_fair writer.Put a b c s w = fair (put_checks (attribute_of (type_at w a) b) (header_at w a) b (model_at w a) c s w) refl
writer_fair writer.Unset a b c s w = fair refl refl

pub row_fair : (o : Operation) (a b c : ℕ) (s : State) (w : List ℕ) → Fair s (row_of o a b c s w)
unfolding all_in
row_fair operation.Unlisted a b c s w = fair refl refl
row_fair operation.Opening a b c s w = fair refl refl
row_fair (operation.InSession o) a b c s w = session_fair o a b s
row_fair (operation.Reader o) a b c s w = reader_fair o a b s w
row_fair (operation.Writer o) a b c s w = writer_fair o a b c s w

all_given : (o : Operation) (a b c : ℕ) (s : State) (w : List ℕ) → all_in given (gate o s ++ checks o a b c s w) ≡ true
unfolding all_in
all_given operation.Unlisted a b c s w = refl
all_given operation.Opening a b c s w = refl
all_given (operation.InSession o) a b c s w = (session_fair o a b s).checks
all_given (operation.Reader o) a b c s w = (reader_fair o a b s w).checks
all_given (operation.Writer o) a b c s w = (writer_fair o a b c s w).checks

pub refusal_range : (o : Operation) (a b c : ℕ) (s : State) (w : List ℕ) → (refusal_of o a b c s w ≡ done) ⊎ Refusing (refusal_of o a b c s w)
unfolding refusal_of
refusal_range o a b c s w = first_given (gate o s ++ checks o a b c s w) (all_given o a b c s w)

-- a call that is not refused has passed all its checks
pub passed : (o : Operation) (a b c : ℕ) (s : State) (w : List ℕ) → refusal_of o a b c s w ≡ done → Clear (gate o s ++ checks o a b c s w)
unfolding refusal_of
passed o a b c s w e = all_clear (gate o s ++ checks o a b c s w) (all_given o a b c s w) e

-- what a call does is done, or it is a refusal and says nothing else
pub done_or_refused : (o : Operation) (a b c : ℕ) (s : State) (w : List ℕ) → ((performed o a b c s w).refusal ≡ done) ⊎ Refused s (performed o a b c s w)
done_or_refused o a b c s w = by_refusal (refusal_of o a b c s w) (refusal_range o a b c s w)
  where
    by_refusal : (r : ℕ) → (r ≡ done) ⊎ Refusing r
        → ((unless_refused r s (effect o a b c s w)).refusal ≡ done) ⊎ Refused s (unless_refused r s (effect o a b c s w))
    by_refusal r (inl e) = rw e (row_fair o a b c s w).effect
    by_refusal r (inr h) = rw (ne_eqb r done (refusing_not_done r h)) (inr (record { range = h; nothing = refl }))
