-- Deletions: what goes with one, whether an instance that stays holds it back, and what it writes.
use Rattle.std.specs.Prelude.{ℕ, zero, suc, Bool, false, cond, not, ◌&&◌, List, eqb}
use Rattle.words.specs.declared.layout.Kind.{Kind}
use Rattle.words.specs.declared.layout.Kind.TheVariants.{Model, SchemaInstance, Instance}
use Rattle.words.specs.Layout.{count_of}
use Rattle.logic.specs.Search.{any_b}
use Rattle.words.specs.Sets.{has}
use Rattle.words.specs.Fields.{values}
use Rattle.words.specs.Entries.{without_entry}
use Rattle.dictionary.specs.Dictionary.{is_reference, attribute_of}
use Rattle.tables.specs.View.{is_live, type_at, model_at, is_set, value_at}
use Rattle.tables.specs.Edits.{without_member, without_value}

-- instance j goes with entry n of a kind: with a model its live instances, with an instance it alone
abbrev pub goes_with : List ℕ → Kind → ℕ → ℕ → Bool
goes_with t Model n j = is_live t Instance j && eqb (model_at t j) n
goes_with t SchemaInstance n j = false
goes_with t Instance n j = eqb j n

-- attribute k of instance i is set and refers to an instance that goes
abbrev pub refers : List ℕ → (ℕ → Bool) → ℕ → ℕ → Bool
refers t goes i k = is_reference (attribute_of (type_at t i) k) && is_set t i k && goes (value_at t i k)

-- ---- what holds one back

-- what holds a deletion back: an instance outside what goes refers into it, and its model has no RW access
abbrev pub holds_back : List ℕ → (ℕ → Bool) → ℕ → ℕ → Bool
holds_back t goes rw i = is_live t Instance i && not (goes i) && not (has rw (model_at t i)) && any_b values (refers t goes i)

-- the deletion of entry n of a kind, under these models' RW access
unfoldable pub held_back : List ℕ → Kind → ℕ → ℕ → Bool
held_back t kind n rw = any_b (count_of Instance) (holds_back t (goes_with t kind n) rw)

-- ---- what it writes

-- references to those that go are unset: those of the first n attributes of instance i
unfoldable pub detached : List ℕ → (ℕ → Bool) → ℕ → ℕ → List ℕ
detached t goes i zero = t
detached t goes i (suc n) =
    let before = detached t goes i n in
    cond (refers before goes i n) (without_value before i n) before

-- the sweep: the first n instances, each gone or rid of its references to those that go
abbrev pub swept_at : List ℕ → (ℕ → Bool) → ℕ → List ℕ
swept_at t goes i = cond (goes i) (without_entry t Instance i) (detached t goes i values)

unfoldable pub swept : List ℕ → (ℕ → Bool) → ℕ → List ℕ
swept t goes zero = t
swept t goes (suc n) = swept_at (swept t goes n) goes n

-- a model that goes is in no set any more: the first n
unfoldable pub ungrouped : List ℕ → ℕ → ℕ → List ℕ
ungrouped t m zero = t
ungrouped t m (suc n) = without_member (ungrouped t m n) n m

-- entry n of a kind and all that goes with it; no instance goes with a schema instance
abbrev pub without : List ℕ → Kind → ℕ → List ℕ
without t Model n = without_entry (ungrouped (swept t (goes_with t Model n) (count_of Instance)) n (count_of SchemaInstance)) Model n
without t SchemaInstance n = without_entry t SchemaInstance n
without t Instance n = swept t (goes_with t Instance n) (count_of Instance)
