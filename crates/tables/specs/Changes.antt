-- The changes that an operation makes in a table, and what each writes.
use Rattle.std.specs.Prelude.{ℕ, List}
use Rattle.words.specs.Entries.{with_entry}
use Rattle.tables.specs.declared.changes.Change.{Change}
use Rattle.tables.specs.declared.changes.Change.TheVariants.{Made, Gone, Joined, Left, Put, Unset}
use Rattle.tables.specs.Edits.{with_member, without_member, with_value, without_value}
use Rattle.tables.specs.Deletions.{without}

unfoldable pub apply : Change → List ℕ → List ℕ
apply (Made kind n first) t = with_entry t kind n first
apply (Gone kind n) t = without t kind n
apply (Joined s m) t = with_member t s m
apply (Left s m) t = without_member t s m
apply (Put i k v) t = with_value t i k v
apply (Unset i k) t = without_value t i k
