-- Models and schema instances: what a pass over the labels keeps, and that the words before the first instance decide all that is asked of them.
use Rattle.std.specs.Prelude.{◌≡◌, Bool, false, Some, None, cond, ◌&&◌, ◌||◌, not, ℕ, ◌+◌, ◌≤◌, ◌<◌, eqb, length, get_or, set, replicate}
use Rattle.std.proofs.Math.Path.{refl, ap, fun_ext}
use Rattle.std.proofs.Common.{◌∙◌, add-zero, arith, le-leb, length-set}
use Rattle.std.proofs.Math.Bool.{true, and-true}
use Rattle.std.proofs.lemmas.Bool.{lt-leb}
use mathlib.Core.List.{List, []}
use Rattle.words.specs.declared.layout.Kind.{Kind}
use Rattle.words.specs.declared.layout.Kind.TheVariants.{Model, SchemaInstance, Instance}
use Rattle.words.specs.Layout.{words, base_of, stride_of, count_of, place_of}
use Rattle.logic.specs.Search.{all_b}
use Rattle.words.specs.Sets.{none, bits, has, set_of}
use Rattle.words.specs.Fields.{schema_in, is_label}
use Rattle.words.specs.Entries.{in_entry, word_of, free_at, formed, all_formed}
use Rattle.words.specs.Copies.{is_long, same_at}
use Rattle.logic.specs.Laws.Bools.{and_left, and_ended, or_right}
use Rattle.logic.specs.Laws.Decides.{equal, every}
use Rattle.logic.specs.Laws.Search.{all_more, all_at, all_from, all_stop, all_done, all_same}
use Rattle.words.specs.Laws.Layout.{stride_positive}
use Rattle.words.specs.Laws.Fields.{label_test, label_is_live}
use Rattle.words.specs.Laws.Entries.{entry_test}
use Rattle.tables.specs.declared.live.Live.{Live}
use Rattle.tables.specs.View.{label_at, set_at}
use Rattle.tables.specs.Sound.{distinct, may_join, sound_group, sound_cursors, sound_entries, sound_instances, sound_table}
use Rattle.tables.specs.Quick.Names.{is_new, chains, chain_of}
use Rattle.tables.specs.Quick.Live.{is_of, live_of, live_below, live_in, no_live, with_live}
use Rattle.tables.specs.Quick.Labels.{labelled, sound_labels, tested, tested_labels, same_entries, is_blank}
use Rattle.tables.specs.Laws.Sound.{distinct_alike, group_alike}
use Rattle.tables.specs.Laws.Names.{free_is_new, Chained, none_chained, chained_free, chained_more}
use Rattle.tables.specs.Laws.Live.{live_free, live_more}

-- ---- the pass

-- where the first word of an entry stands
pub first_word : (t : List ℕ) (kind : Kind) (i : ℕ) → i < count_of kind → label_at t kind i ≡ get_or t (place_of kind i) 0
first_word t kind i l = rw ((entry_test kind i 0).passes (l, stride_positive kind), add-zero)

pub first_place : (kind : Kind) → base_of kind ≡ place_of kind 0
first_place Model = refl
first_place SchemaInstance = refl
first_place Instance = refl

pub next_place : (kind : Kind) (i : ℕ) → place_of kind i + stride_of kind ≡ place_of kind (i + 1)
next_place Model i = omega arith
next_place SchemaInstance i = omega arith
next_place Instance i = omega arith

-- after i entries
pub record Passed (t : List ℕ) (kind : Kind) (last before : List ℕ) (live : Live) (i : ℕ) : Type 0 where
  pub labels : all_b i (labelled t kind) ≡ true
  pub names : all_b i (is_new t kind) ≡ true
  pub size : (length last ≡ chains) × (length before ≡ bits)
  pub chained : Chained t kind last before i
  pub sets : live ≡ live_below t kind i

module _ (t : List ℕ) (kind : Kind) where
  pub none_passed : (before : List ℕ) → length before ≡ bits → Passed t kind (replicate chains 0) before no_live 0
  unfolding all_b set_of
  none_passed before n = record { labels = refl; names = refl; size = (refl, n); chained = none_chained t kind before; sets = refl }

  module _ (last before : List ℕ) (live : Live) (i : ℕ) (passed : Passed t kind last before live i) where
    pub free_passed : free_at t kind i ≡ true → Passed t kind last before live (i + 1)
    free_passed free = record {
      labels = all_more (labelled t kind) i passed.labels (rw free);
      names = all_more (is_new t kind) i passed.names (free_is_new t kind i free);
      size = passed.size;
      chained = chained_free t kind last before i free passed.chained;
      sets = passed.sets ∙ live_free t kind i free;
    }

    pub label_passed : i < bits → (w : ℕ) → label_at t kind i ≡ w → is_label w ≡ true → is_new t kind i ≡ true
        → Passed t kind (set last (chain_of w) (i + 1)) (set before i (get_or last (chain_of w) 0)) (with_live live (schema_in w) i) (i + 1)
    label_passed l w here label new =
        let passes : is_label (label_at t kind i) ≡ true = rw here label in
        rw (← here) record {
          labels = all_more (labelled t kind) i passed.labels (or_right (free_at t kind i) (is_label (label_at t kind i)) passes);
          names = all_more (is_new t kind) i passed.names new;
          size = (length-set last _ _ ∙ passed.size.0, length-set before _ _ ∙ passed.size.1);
          chained = chained_more t kind last before i passed.size.0 (omega (arith, passed.size.1)) (ap not (label_is_live (label_at t kind i) ((label_test (label_at t kind i)).holds passes)))
              passed.chained;
          sets = ap (λ (l : Live). with_live l (schema_in (label_at t kind i)) i) passed.sets ∙ live_more t kind i ((label_test (label_at t kind i)).holds passes);
        }

    -- the last one included
    pub all_passed : i ≡ count_of kind → Some live ≡ tested_labels t kind
    unfolding distinct
    all_passed e =
        let labels : all_b (count_of kind) (labelled t kind) ≡ true = all_done (labelled t kind) (count_of kind) i (omega arith) (omega arith) passed.labels in
        let names : all_b (count_of kind) (is_new t kind) ≡ true = all_done (is_new t kind) (count_of kind) i (omega arith) (omega arith) passed.names in
        rw (labels, names) (ap Some (passed.sets ∙ ap (live_below t kind) e))

  module _ (i : ℕ) (l : i < count_of kind) where
    pub no_label : free_at t kind i ≡ false → is_label (label_at t kind i) ≡ false → None ≡ tested_labels t kind
    no_label live e = rw (all_stop (count_of kind) (labelled t kind) i l (rw (live, e)))

    pub not_new : is_new t kind i ≡ false → None ≡ tested_labels t kind
    unfolding distinct
    not_new e = rw (and_ended (all_b (count_of kind) (labelled t kind)) (all_b (count_of kind) (is_new t kind)) (all_stop (count_of kind) (is_new t kind) i l e))

-- ---- what an answer tells

pub sound_told : (b : Bool) (live all : Live) → Some live ≡ tested b all → (b ≡ true) × (live ≡ all)
sound_told true live all e = (refl, cc)
sound_told false live all e = cc

pub unsound_told : (b : Bool) (all : Live) → None ≡ tested b all → b ≡ false
unsound_told true all e = cc
unsound_told false all e = refl

-- ---- a table is sound by its entries and its instances

-- a group that is sound has a label
group_labelled : (t : List ℕ) (s : ℕ) → sound_group t s ≡ true → labelled t SchemaInstance s ≡ true
unfolding sound_group
group_labelled t s h = by_cases (free_at t SchemaInstance s) h
  where
    by_cases : (b : Bool) → cond b (eqb (set_at t s) none) (is_label (label_at t SchemaInstance s) && all_b bits (λ m. not (has (set_at t s) m) || may_join t s m)) ≡ true
        → (b || is_label (label_at t SchemaInstance s)) ≡ true
    by_cases true e = refl
    by_cases false e = and_left (is_label (label_at t SchemaInstance s)) _ e

regrouped : (a b g d f : Bool) → (g ≡ true → f ≡ true) → (a && b && g && d) ≡ (a && b && (f && d) && g)
regrouped false b g d f h = refl
regrouped true false g d f h = refl
regrouped true true false d f h = rw (and_ended (f && d) false refl)
regrouped true true true d f h = rw (h refl, and-true d)

-- the labels first, then the sets
pub entries_by_labels : (t : List ℕ) → sound_entries t ≡ (sound_labels t Model && sound_labels t SchemaInstance && all_b (count_of SchemaInstance) (sound_group t))
entries_by_labels t =
    regrouped (all_formed t Model) (distinct t Model) (all_b (count_of SchemaInstance) (sound_group t)) (distinct t SchemaInstance)
    (all_b (count_of SchemaInstance) (labelled t SchemaInstance))
    (λ h. all_from (count_of SchemaInstance) (labelled t SchemaInstance) (λ s l. group_labelled t s (all_at (count_of SchemaInstance) (sound_group t) h s l)))

module _ (t : List ℕ) where
  pub short_unsound : length t < words → sound_table t ≡ false
  unfolding sound_table
  short_unsound l = rw (lt-leb words (length t) l)

  pub cursors_unsound : sound_cursors t ≡ false → sound_table t ≡ false
  unfolding sound_table
  cursors_unsound e = rw (and_ended (is_long t) (sound_cursors t) e)

  pub entries_unsound : sound_entries t ≡ false → sound_table t ≡ false
  unfolding sound_table
  entries_unsound e = rw (and_ended (is_long t && sound_cursors t) (sound_entries t) e)

  pub instances_unsound : sound_instances t ≡ false → sound_table t ≡ false
  unfolding sound_table
  instances_unsound e = and_ended (is_long t && sound_cursors t && sound_entries t) (sound_instances t) e

  pub sound_by_instances : words ≤ length t → sound_cursors t ≡ true → sound_entries t ≡ true → sound_instances t ≡ sound_table t
  unfolding sound_table
  sound_by_instances long cursors e = rw (le-leb words (length t) long, cursors, e)

-- ---- tables that are the same before the first instance

module _ (a b : List ℕ) (same : same_entries a b ≡ true) where
  alike : (j : ℕ) → j < base_of Instance → get_or a j 0 ≡ get_or b j 0
  alike = (every (base_of Instance) (same_at a b) (λ j. get_or a j 0 ≡ get_or b j 0) (λ j. equal (get_or a j 0) (get_or b j 0))).holds same

  entry_alike : (kind : Kind) → ((i k : ℕ) → i < count_of kind → k < stride_of kind → place_of kind i + k < base_of Instance) → (i k : ℕ) → word_of a kind i k ≡ word_of b kind i k
  entry_alike kind early i k = by_cases (in_entry kind i k) refl
    where
      by_cases : (c : Bool) → in_entry kind i k ≡ c → cond c (get_or a (place_of kind i + k) 0) 0 ≡ cond c (get_or b (place_of kind i + k) 0) 0
      by_cases false e = refl
      by_cases true e = alike (place_of kind i + k) (early i k ((entry_test kind i k).holds e).0 ((entry_test kind i k).holds e).1)

  model_alike : (i k : ℕ) → word_of a Model i k ≡ word_of b Model i k
  model_alike = entry_alike Model (λ i k hi hk. omega arith)

  set_alike : (i k : ℕ) → word_of a SchemaInstance i k ≡ word_of b SchemaInstance i k
  set_alike = entry_alike SchemaInstance (λ i k hi hk. omega arith)

  live_of_alike : (schema n : ℕ) → live_of a Model schema n ≡ live_of b Model schema n
  live_of_alike schema n = ap (λ (label : ℕ → ℕ). set_of n (λ i. is_of schema (label i))) (fun_ext (λ i. model_alike i 0))

  pub live_alike : live_in a Model ≡ live_in b Model
  live_alike = rw (live_of_alike 1 (count_of Model), live_of_alike 2 (count_of Model))

  formed_alike : all_formed a Model ≡ all_formed b Model
  formed_alike = all_same (count_of Model) (λ i. formed Model (label_at a Model i)) (λ i. formed Model (label_at b Model i)) (λ i l. rw (model_alike i 0))

  pub entries_alike : sound_entries a ≡ sound_entries b
  entries_alike =
      rw (
        formed_alike,
        distinct_alike a b Model model_alike,
        distinct_alike a b SchemaInstance set_alike,
        all_same (count_of SchemaInstance) (sound_group a) (sound_group b)
            (λ s l. group_alike a b model_alike set_alike s),
      )

-- ---- a table with no model and no schema instance is there as one with no word at all

module _ (t : List ℕ) (blank : is_blank t ≡ true) where
  pub blank_entries : sound_entries t ≡ true
  unfolding all_b distinct sound_group
  blank_entries = entries_alike t [] blank

  pub blank_live : live_in t Model ≡ no_live
  unfolding set_of
  blank_live = live_alike t [] blank
