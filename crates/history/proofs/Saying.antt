-- What a done call says to the tables: the change that it makes, read off its operation, its arguments and its value; and what
-- of it a history would look at.
use Rattle.std.specs.Prelude.{ℕ, Bool, false, cond, ◌||◌, ◌&&◌, eqb}
use Rattle.words.specs.declared.layout.Kind.{Kind}
use Rattle.words.specs.declared.layout.Kind.TheVariants.{Model, SchemaInstance, Instance}
use Rattle.words.specs.Layout.{index_of}
use Rattle.words.specs.Fields.{label_of, header_of, type_in, model_in}
use Rattle.dictionary.specs.Dictionary.{is_reference, attribute_of}
use Rattle.tables.specs.declared.changes.Change.{Change}
use Rattle.tables.specs.declared.changes.Change.TheVariants.{Made, Gone, Joined, Left, Put, Unset}
use Rattle.checks.specs.declared.operations.Operation.{Operation}
use Rattle.checks.specs.declared.operations.Operation.TheVariants as operation
use Rattle.checks.specs.declared.operations.InSession.{InSession}
use Rattle.checks.specs.declared.operations.InSession.TheVariants as in_session
use Rattle.checks.specs.declared.operations.Writer.{Writer}
use Rattle.checks.specs.declared.operations.Writer.TheVariants as writer

pub data Said : Type 0 where
  silent : Said
  changes : Change → Said
  commits : Said
  drops : Said

abbrev pub session_says : InSession → Said
session_says in_session.CloseSession = drops
session_says in_session.OpenRepository = silent
session_says in_session.CloseRepository = silent
session_says in_session.StartReadWrite = silent
session_says in_session.StartReadOnly = silent
session_says in_session.Commit = commits
session_says in_session.Abort = drops
session_says in_session.EndCommit = commits
session_says in_session.EndAbort = drops
session_says in_session.StartRecording = silent
session_says in_session.StopRecording = silent
session_says in_session.StorageFault = drops
session_says in_session.IsSubtype = silent

abbrev pub writer_says : Writer → ℕ → ℕ → ℕ → ℕ → Said
writer_says writer.CreateModel a b c value = changes (Made Model value (label_of a b c))
writer_says writer.DeleteModel a b c value = changes (Gone Model a)
writer_says writer.ReadWriteAccess a b c value = silent
writer_says writer.PromoteModel a b c value = silent
writer_says writer.CreateSchemaInstance a b c value = changes (Made SchemaInstance value (label_of a b c))
writer_says writer.DeleteSchemaInstance a b c value = changes (Gone SchemaInstance a)
writer_says writer.AddModel a b c value = changes (Joined a b)
writer_says writer.RemoveModel a b c value = changes (Left a b)
writer_says writer.CreateInstance a b c value = changes (Made Instance value (header_of b a 0))
writer_says writer.DeleteInstance a b c value = changes (Gone Instance a)
writer_says writer.Put a b c value = changes (Put a b c)
writer_says writer.Unset a b c value = changes (Unset a b)

abbrev pub saying : Operation → ℕ → ℕ → ℕ → ℕ → Said
saying operation.Unlisted a b c value = silent
saying operation.Opening a b c value = silent
saying (operation.InSession o) a b c value = session_says o
saying (operation.Reader o) a b c value = silent
saying (operation.Writer o) a b c value = writer_says o a b c value

-- the first word that a creation with these arguments makes
abbrev pub first_word : Kind → ℕ → ℕ → ℕ → ℕ
first_word Model a b c = label_of a b c
first_word SchemaInstance a b c = label_of a b c
first_word Instance a b c = header_of b a 0

-- ---- what a change makes, takes away, puts

-- entry m of one kind is entry n of the other
abbrev pub same_entry : Kind → ℕ → Kind → ℕ → Bool
same_entry kind m other n = eqb (index_of kind) (index_of other) && eqb m n

abbrev pub makes : Kind → ℕ → Change → Bool
makes kind n (Made other m first) = same_entry other m kind n
makes kind n (Gone other m) = false
makes kind n (Joined s m) = false
makes kind n (Left s m) = false
makes kind n (Put i k v) = false
makes kind n (Unset i k) = false

abbrev pub takes : Kind → ℕ → Change → Bool
takes kind n (Made other m first) = false
takes kind n (Gone other m) = same_entry other m kind n
takes kind n (Joined s m) = false
takes kind n (Left s m) = false
takes kind n (Put i k v) = false
takes kind n (Unset i k) = false

abbrev pub joins : ℕ → ℕ → Change → Bool
joins n l (Made kind m first) = false
joins n l (Gone kind m) = false
joins n l (Joined s m) = eqb s n && eqb m l
joins n l (Left s m) = false
joins n l (Put i k v) = false
joins n l (Unset i k) = false

abbrev pub leaves : ℕ → ℕ → Change → Bool
leaves n l (Made kind m first) = false
leaves n l (Gone kind m) = false
leaves n l (Joined s m) = false
leaves n l (Left s m) = eqb s n && eqb m l
leaves n l (Put i k v) = false
leaves n l (Unset i k) = false

abbrev pub puts : ℕ → ℕ → Change → Bool
puts n l (Made kind m first) = false
puts n l (Gone kind m) = false
puts n l (Joined s m) = false
puts n l (Left s m) = false
puts n l (Put i k v) = eqb i n && eqb k l
puts n l (Unset i k) = false

abbrev pub unsets : ℕ → ℕ → Change → Bool
unsets n l (Made kind m first) = false
unsets n l (Gone kind m) = false
unsets n l (Joined s m) = false
unsets n l (Left s m) = false
unsets n l (Put i k v) = false
unsets n l (Unset i k) = eqb i n && eqb k l

-- the first word of an entry of this kind that is made; the value that is put
abbrev pub word_for : Kind → Change → ℕ
word_for kind (Made other m first) = cond (eqb (index_of other) (index_of kind)) first 0
word_for kind (Gone other m) = 0
word_for kind (Joined s m) = 0
word_for kind (Left s m) = 0
word_for kind (Put i k v) = 0
word_for kind (Unset i k) = 0

abbrev pub value_put : Change → ℕ
value_put (Made kind m first) = 0
value_put (Gone kind m) = 0
value_put (Joined s m) = 0
value_put (Left s m) = 0
value_put (Put i k v) = v
value_put (Unset i k) = 0

-- ---- what a change ends, by the words of the table

-- the deletion of entry m of a kind deletes entry n of the other, which was made with this first word
abbrev pub deletes : Kind → ℕ → Kind → ℕ → ℕ → Bool
deletes kind m Model n first = same_entry kind m Model n
deletes kind m SchemaInstance n first = same_entry kind m SchemaInstance n
deletes kind m Instance n first = same_entry kind m Instance n || same_entry kind m Model (model_in first)

abbrev pub names : Change → Kind → ℕ → ℕ → Bool
names (Made kind m label) other n first = false
names (Gone kind m) other n first = deletes kind m other n first
names (Joined s m) other n first = false
names (Left s m) other n first = false
names (Put i k v) other n first = false
names (Unset i k) other n first = false

-- model m is no longer in the set of s
abbrev pub parted_by : ℕ → ℕ → Change → Bool
parted_by s m (Made kind n first) = same_entry kind n SchemaInstance s
parted_by s m (Gone kind n) = same_entry kind n SchemaInstance s || same_entry kind n Model m
parted_by s m (Joined n l) = false
parted_by s m (Left n l) = eqb n s && eqb l m
parted_by s m (Put i k v) = false
parted_by s m (Unset i k) = false

-- attribute k of the instance with this header is a reference
abbrev pub refers_by : ℕ → ℕ → Bool
refers_by header k = is_reference (attribute_of (type_in header) k)

-- value v of attribute k of instance i is no longer what was put; the headers are those of i and of v at the put
abbrev pub undone_by : ℕ → ℕ → ℕ → ℕ → ℕ → Change → Bool
undone_by i k v header target (Made kind n first) = same_entry kind n Instance i
undone_by i k v header target (Gone kind n) = deletes kind n Instance i header || (refers_by header k && deletes kind n Instance v target)
undone_by i k v header target (Joined s m) = false
undone_by i k v header target (Left s m) = false
undone_by i k v header target (Put j l u) = eqb j i && eqb l k
undone_by i k v header target (Unset j l) = eqb j i && eqb l k
