-- The operations by their numbers, each in its family: 1, which opens a session; those that ask for an open session; those of
-- 20 to 45 that ask for a transaction, and those that ask for one that writes.
use Rattle.std.specs.Prelude.{ℕ, List, [], ◌∷◌, cond, eqb}
use Rattle.checks.specs.declared.operations.Operation.{Operation}
use Rattle.checks.specs.declared.operations.Operation.TheVariants as operation
use Rattle.checks.specs.declared.operations.InSession.TheVariants as in_session
use Rattle.checks.specs.declared.operations.Reader.TheVariants as reader
use Rattle.checks.specs.declared.operations.Writer.TheVariants as writer

pub record Numbered : Type 0 where
  pub number : ℕ
  pub names : Operation

infix 70 ◌is◌
abbrev pub ◌is◌ : ℕ → Operation → Numbered
n is o = record { number = n; names = o }

-- the page's operations, in its order
unfoldable pub listed : List Numbered
listed =
    1 is operation.Opening
    ∷ 2 is (operation.InSession in_session.CloseSession)
    ∷ 3 is (operation.InSession in_session.OpenRepository)
    ∷ 4 is (operation.InSession in_session.CloseRepository)
    ∷ 5 is (operation.InSession in_session.StartReadWrite)
    ∷ 6 is (operation.InSession in_session.StartReadOnly)
    ∷ 7 is (operation.InSession in_session.Commit)
    ∷ 8 is (operation.InSession in_session.Abort)
    ∷ 9 is (operation.InSession in_session.EndCommit)
    ∷ 10 is (operation.InSession in_session.EndAbort)
    ∷ 11 is (operation.InSession in_session.StartRecording)
    ∷ 12 is (operation.InSession in_session.StopRecording)
    ∷ 13 is (operation.InSession in_session.StorageFault)
    ∷ 20 is (operation.Writer writer.CreateModel)
    ∷ 21 is (operation.Writer writer.DeleteModel)
    ∷ 22 is (operation.Reader reader.ReadOnlyAccess)
    ∷ 23 is (operation.Writer writer.ReadWriteAccess)
    ∷ 24 is (operation.Reader reader.EndAccess)
    ∷ 25 is (operation.Writer writer.PromoteModel)
    ∷ 30 is (operation.Writer writer.CreateSchemaInstance)
    ∷ 31 is (operation.Writer writer.DeleteSchemaInstance)
    ∷ 32 is (operation.Writer writer.AddModel)
    ∷ 33 is (operation.Writer writer.RemoveModel)
    ∷ 40 is (operation.Writer writer.CreateInstance)
    ∷ 41 is (operation.Writer writer.DeleteInstance)
    ∷ 42 is (operation.Reader reader.Get)
    ∷ 43 is (operation.Reader reader.Test)
    ∷ 44 is (operation.Writer writer.Put)
    ∷ 45 is (operation.Writer writer.Unset)
    ∷ 46 is (operation.InSession in_session.IsSubtype)
    ∷ []

unfoldable pub lookup : ℕ → List Numbered → Operation
lookup n [] = operation.Unlisted
lookup n (row ∷ rows) =
    let later = lookup n rows in
    cond (eqb n row.number) row.names later

-- a number that no row has is unlisted
unfoldable pub operation_of : ℕ → Operation
operation_of n = lookup n listed
