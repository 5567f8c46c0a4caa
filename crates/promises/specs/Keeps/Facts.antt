-- A sound table, as statements: each test of the definition of soundness is passed exactly where they hold.
use Rattle.std.specs.Prelude.{◌≡◌, Bool, true, false, List, ℕ, ◌≤◌, ◌<◌, length}
use Rattle.std.proofs.Common.{sym}
use Rattle.words.specs.declared.layout.Kind.{Kind}
use Rattle.words.specs.declared.layout.Kind.TheVariants.{Model, SchemaInstance, Instance}
use Rattle.words.specs.Layout.{words, count_of}
use Rattle.words.specs.Sets.{none, bits, has}
use Rattle.words.specs.Fields.{name_in, repository_in, values, is_free}
use Rattle.words.specs.Entries.{cursor_in, free_at, formed}
use Rattle.logic.specs.Laws.Decides.{Decides, both, equal, at_most, less, every, denied, restated, itself, choice, whenever, unless}
use Rattle.words.specs.Laws.Fields.{Label, label_test}
use Rattle.words.specs.Laws.Copies.{Agreeing, agree_test}
use Rattle.dictionary.specs.Dictionary.{attribute_of}
use Rattle.tables.specs.View.{label_at, set_at, header_at, type_at, is_set, value_at}
use Rattle.tables.specs.Sound.{same_name, distinct, may_join, sound_group, sound_value, sound_instance, sound_cursor, sound_cursors, sound_table, sound_tables}
pub use Rattle.tables.specs.Laws.Sound.{SoundHeader, sound_header_test}

-- ---- names

pub record SameName (v w : ℕ) : Type 0 where
  pub left_live : is_free v ≡ true → ⊥
  pub right_live : is_free w ≡ true → ⊥
  pub repository : repository_in w ≡ repository_in v
  pub name : name_in w ≡ name_in v

pub turned : (v w : ℕ) → SameName v w → SameName w v
turned v w h = record { left_live = h.right_live; right_live = h.left_live; repository = sym h.repository; name = sym h.name }

same_test : (v w : ℕ) → Decides (same_name v w) (SameName v w)
same_test v w =
    restated
    (both _ _ (denied _ (itself (is_free v))) (both _ _ (both _ _ (denied _ (itself (is_free w))) (equal (repository_in w) (repository_in v))) (equal (name_in w) (name_in v))))
    (λ h. record { left_live = h.0; right_live = h.1.0.0; repository = h.1.0.1; name = h.1.1 })
    (λ h. (h.left_live, ((h.right_live, h.repository), h.name)))

abbrev pub Distinct : List ℕ → Kind → Type 0
Distinct t kind = (i : ℕ) → i < count_of kind → (j : ℕ) → j < i → SameName (label_at t kind i) (label_at t kind j) → ⊥

distinct_test : (t : List ℕ) (kind : Kind) → Decides (distinct t kind) (Distinct t kind)
unfolding distinct
distinct_test t kind = every (count_of kind) _ _ (λ i. every i _ _ (λ j. denied _ (same_test (label_at t kind i) (label_at t kind j))))

-- ---- entries

pub record SoundGroup (t : List ℕ) (s : ℕ) : Type 0 where
  pub empty : free_at t SchemaInstance s ≡ true → set_at t s ≡ none
  pub label : free_at t SchemaInstance s ≡ false → Label (label_at t SchemaInstance s)
  pub members : free_at t SchemaInstance s ≡ false → (m : ℕ) → m < bits → has (set_at t s) m ≡ true → may_join t s m ≡ true

group_test : (t : List ℕ) (s : ℕ) → Decides (sound_group t s) (SoundGroup t s)
unfolding sound_group
group_test t s =
    restated
    (choice _ _ _ (equal (set_at t s) none) (both _ _ (label_test (label_at t SchemaInstance s)) (every bits _ _ (λ m. whenever (has (set_at t s) m) _ (itself (may_join t s m))))))
    (λ h. record { empty = h.0; label = λ f. (h.1 f).0; members = λ f. (h.1 f).1 })
    (λ h. (h.empty, (λ f. (h.label f, h.members f))))

pub record SoundInstance (t : List ℕ) (i : ℕ) : Type 0 where
  pub empty : free_at t Instance i ≡ true → (k : ℕ) → k < values → value_at t i k ≡ 0
  pub headed : free_at t Instance i ≡ false → SoundHeader t (header_at t i)
  pub valued : free_at t Instance i ≡ false → (k : ℕ) → k < values → sound_value t (attribute_of (type_at t i) k) (is_set t i k) (value_at t i k) ≡ true

instance_test : (t : List ℕ) (i : ℕ) → Decides (sound_instance t i) (SoundInstance t i)
unfolding sound_instance
instance_test t i =
    restated
    (choice _ _ _
    (every values _ _ (λ k. equal (value_at t i k) 0))
    (both _ _ (sound_header_test t (header_at t i)) (every values _ _ (λ k. itself (sound_value t (attribute_of (type_at t i) k) (is_set t i k) (value_at t i k))))))
    (λ h. record { empty = h.0; headed = λ f. (h.1 f).0; valued = λ f. (h.1 f).1 })
    (λ h. (h.empty, (λ f. (h.headed f, h.valued f))))

-- ---- tables

-- each cursor is the number of an entry
abbrev pub Cursors : List ℕ → Type 0
Cursors t = (kind : Kind) → cursor_in t kind < count_of kind

cursors_test : (t : List ℕ) → Decides (sound_cursors t) (Cursors t)
cursors_test t = restated (both _ _ (both _ _ (each Model) (each SchemaInstance)) (each Instance)) by_kind (λ h. ((h Model, h SchemaInstance), h Instance))
  where
    each : (kind : Kind) → Decides (sound_cursor t kind) (cursor_in t kind < count_of kind)
    each kind = less (cursor_in t kind) (count_of kind)

    by_kind : ((cursor_in t Model < count_of Model) × (cursor_in t SchemaInstance < count_of SchemaInstance)) × (cursor_in t Instance < count_of Instance) → Cursors t
    by_kind h Model = h.0.0
    by_kind h SchemaInstance = h.0.1
    by_kind h Instance = h.1

pub record SoundTable (t : List ℕ) : Type 0 where
  pub long : words ≤ length t
  pub cursors : Cursors t
  pub models : (m : ℕ) → m < count_of Model → formed Model (label_at t Model m) ≡ true
  pub model_names : Distinct t Model
  pub groups : (s : ℕ) → s < count_of SchemaInstance → SoundGroup t s
  pub group_names : Distinct t SchemaInstance
  pub instances : (i : ℕ) → i < count_of Instance → SoundInstance t i

pub table_test : (t : List ℕ) → Decides (sound_table t) (SoundTable t)
unfolding sound_table
table_test t =
    let models = both _ _ (every (count_of Model) _ _ (λ m. itself (formed Model (label_at t Model m)))) (distinct_test t Model) in
    let entries = both _ _ (both _ _ models (every (count_of SchemaInstance) _ _ (group_test t))) (distinct_test t SchemaInstance) in
    restated (both _ _ (both _ _ (both _ _ (at_most words (length t)) (cursors_test t)) entries) (every (count_of Instance) _ _ (instance_test t)))
    (λ h.
    let e = h.0.1 in
    record { long = h.0.0.0; cursors = h.0.0.1; models = e.0.0.0; model_names = e.0.0.1; groups = e.0.1; group_names = e.1; instances = h.1 })
    (λ h. (((h.long, h.cursors), (((h.models, h.model_names), h.groups), h.group_names)), h.instances))

pub record SoundTables (writing : Bool) (w k : List ℕ) : Type 0 where
  pub working : SoundTable w
  pub kept : SoundTable k
  pub agreeing : writing ≡ false → Agreeing w k

pub tables_test : (writing : Bool) (w k : List ℕ) → Decides (sound_tables writing w k) (SoundTables writing w k)
unfolding sound_tables
tables_test writing w k =
    restated (both _ _ (both _ _ (table_test w) (table_test k)) (unless writing _ (agree_test w k)))
    (λ h. record { working = h.0.0; kept = h.0.1; agreeing = h.1 })
    (λ h. ((h.working, h.kept), h.agreeing))
