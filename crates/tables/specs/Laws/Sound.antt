-- What the clauses of sound tables say, and that tables which agree in the words in use are alike sound.
use Rattle.std.specs.Prelude.{◌≡◌, Bool, cond, not, ◌&&◌, ◌||◌, List, ℕ, ◌+◌, ◌≤◌, ◌<◌, length, get_or, take, Option, None, Some}
use Rattle.std.proofs.Math.Path.{refl}
use Rattle.std.proofs.Common.{◌∙◌, arith, length-take}
use Rattle.std.proofs.lemmas.List.{get_or-take}
use Rattle.std.proofs.Math.Bool.{true, false, and-true, and_self}
use Rattle.std.proofs.lemmas.Bool.{false≢true}
use borrow.Author.Tests.{le-leb}
use Rattle.words.specs.declared.layout.Kind.{Kind}
use Rattle.words.specs.declared.layout.Kind.TheVariants.{Model, SchemaInstance, Instance}
use Rattle.words.specs.Layout.{words, count_of, place_of}
use Rattle.words.specs.Fields.{name_in, repository_in, schema_in, type_in, model_in, is_free}
use Rattle.words.specs.Entries.{in_entry, word_of}
use Rattle.words.specs.Copies.{is_long, agree}
use Rattle.logic.specs.Laws.Bools.{and_left, and_right, or_right}
use Rattle.logic.specs.Laws.Decides.{Decides, both, equal, at_most, restated, itself}
use Rattle.words.specs.Laws.Fields.{Header, header_test}
use Rattle.words.specs.Laws.Entries.{entry_test}
use Rattle.words.specs.Laws.Copies.{Agreeing, agree_test, agree_entries, agree_cursors}
use Rattle.dictionary.specs.declared.answers.Attribute.{Attribute}
use Rattle.dictionary.specs.declared.answers.Attribute.TheVariants.{Whole, Reference}
use Rattle.dictionary.specs.Dictionary.{is_type, schema_of}
use Rattle.tables.specs.View.{is_live, label_at}
use Rattle.tables.specs.Sound.{same_name, distinct, sound_group, sound_value, sound_header, sound_instance, sound_cursors, sound_entries, sound_instances, sound_table, sound_tables}
use Rattle.logic.specs.Laws.Search.{all_same}

-- a number past the last entry is not live
pub live_below_lem : (t : List ℕ) (kind : Kind) (i : ℕ) → is_live t kind i ≡ true → i < count_of kind
live_below_lem t kind i h = by_cases (in_entry kind i 0) refl h
  where
    by_cases : (b : Bool) → in_entry kind i 0 ≡ b → not (is_free (cond b (get_or t (place_of kind i + 0) 0) 0)) ≡ true → i < count_of kind
    by_cases true e live = ((entry_test kind i 0).holds e).0
    by_cases false e live = absurd (false≢true live)

-- ---- what a sound table is by its first clauses

module _ (t : List ℕ) (h : sound_table t ≡ true) where
  pub table_long : words ≤ length t
  unfolding sound_table
  table_long = (at_most words (length t)).holds (and_left _ _ (and_left _ _ (and_left _ _ h)))

  pub table_entries : sound_entries t ≡ true
  unfolding sound_table
  table_entries = and_right (is_long t && sound_cursors t) (sound_entries t) (and_left _ (sound_instances t) h)

-- the working table of two that are sound
pub sound_working : (writing : Bool) (working kept : List ℕ) → sound_tables writing working kept ≡ true → sound_table working ≡ true
unfolding sound_tables
sound_working writing working kept h = and_left _ (sound_table kept) (and_left _ (writing || agree working kept) h)

-- ---- names

-- two live entries of one repository with one name
pub record SameName (t : List ℕ) (kind : Kind) (i j : ℕ) : Type 0 where
  pub live : is_live t kind i ≡ true
  pub other : is_live t kind j ≡ true
  pub repositories : repository_in (label_at t kind j) ≡ repository_in (label_at t kind i)
  pub names : name_in (label_at t kind j) ≡ name_in (label_at t kind i)

pub same_name_test : (t : List ℕ) (kind : Kind) (i j : ℕ) → Decides (same_name (label_at t kind i) (label_at t kind j)) (SameName t kind i j)
same_name_test t kind i j =
    restated (both _ _ (itself _)
    (both _ _ (both _ _ (itself _) (equal (repository_in (label_at t kind j)) (repository_in (label_at t kind i)))) (equal (name_in (label_at t kind j)) (name_in (label_at t kind i)))))
    (λ h. record { live = h.0; other = h.1.0.0; repositories = h.1.0.1; names = h.1.1 })
    (λ h. (h.live, ((h.other, h.repositories), h.names)))

-- ---- headers

-- an instance lies in a live model of the schema that its type is of
pub record SoundHeader (t : List ℕ) (h : ℕ) : Type 0 where
  pub header : Header h
  pub type : is_type (type_in h) ≡ true
  pub model : is_live t Model (model_in h) ≡ true
  pub schema : schema_in (label_at t Model (model_in h)) ≡ schema_of (type_in h)

pub sound_header_test : (t : List ℕ) (h : ℕ) → Decides (sound_header t h) (SoundHeader t h)
sound_header_test t h =
    restated (both _ _ (both _ _ (both _ _ (header_test h) (itself (is_type (type_in h)))) (itself (is_live t Model (model_in h)))) (equal (schema_in (label_at t Model (model_in h))) (schema_of (type_in h))))
    (λ w. record { header = w.0.0.0; type = w.0.0.1; model = w.0.1; schema = w.1 })
    (λ w. (((w.header, w.type), w.model), w.schema))

-- ---- tables that agree in the words in use are alike sound

-- what names and sets ask of the words of their kinds alone
module _ (a b : List ℕ) where
  pub distinct_alike : (kind : Kind) → ((i k : ℕ) → word_of a kind i k ≡ word_of b kind i k) → distinct a kind ≡ distinct b kind
  unfolding distinct
  distinct_alike kind same = simp same

  pub group_alike : ((i k : ℕ) → word_of a Model i k ≡ word_of b Model i k) → ((i k : ℕ) → word_of a SchemaInstance i k ≡ word_of b SchemaInstance i k) → (s : ℕ) → sound_group a s ≡ sound_group b s
  unfolding sound_group
  group_alike models groups s = simp (models, groups)

module _ (a b : List ℕ) (agreeing : Agreeing a b) where
  same : (kind : Kind) (i k : ℕ) → word_of a kind i k ≡ word_of b kind i k
  same = agree_entries a b agreeing

  value_alike : (attribute : Option Attribute) (set : Bool) (v : ℕ) → sound_value a attribute set v ≡ sound_value b attribute set v
  value_alike None set v = refl
  value_alike (Some Whole) set v = refl
  value_alike (Some (Reference target)) set v = simp same

  instance_alike : (i : ℕ) → sound_instance a i ≡ sound_instance b i
  unfolding sound_instance
  instance_alike i = simp (same, value_alike)

  pub sound_alike : sound_table a ≡ sound_table b
  unfolding sound_table
  sound_alike =
      rw (le-leb words (length a) agreeing.left, le-leb words (length b) agreeing.right) (rw (
        all_same (count_of SchemaInstance) (sound_group a) (sound_group b)
            (λ s l. group_alike a b (same Model) (same SchemaInstance) s),
        all_same (count_of Instance) (sound_instance a) (sound_instance b) (λ i l. instance_alike i),
      ) (rw
      (distinct_alike a b Model (same Model), distinct_alike a b SchemaInstance (same SchemaInstance)) (simp (same, agree_cursors a b agreeing))))

-- so the words in use alone decide
pub sound_chunk : (t u : List ℕ) → words ≤ length t → u ≡ take words t → sound_table u ≡ sound_table t
sound_chunk t u h e = rw e (sound_alike (take words t) t record { left = simp length-take (omega arith); right = h; alike = λ i l. get_or-take words t i 0 l })

-- of tables that agree one tells of both; else both are looked at, and only while writing
module _ (working kept : List ℕ) where
  pub sound_agreeing : (writing : Bool) → agree working kept ≡ true → sound_tables writing working kept ≡ sound_table working
  unfolding sound_tables
  sound_agreeing writing e =
      rw (e, or_right writing true refl, ← sound_alike working kept ((agree_test working kept).holds e)) (and-true _ ∙ and_self (sound_table working))

  pub sound_apart : (writing : Bool) → agree working kept ≡ false → sound_tables writing working kept ≡ (sound_table working && sound_table kept && writing)
  unfolding sound_tables
  sound_apart true e = refl
  sound_apart false e = rw e
