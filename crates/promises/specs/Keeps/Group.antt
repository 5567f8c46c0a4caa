-- Models and schema instances: made, dissolved, joined and left, a table stays sound.
use Rattle.std.specs.Prelude.{◌≡◌, refl, true, false, not, ◌||◌, ◌⊎◌, List, ℕ, ◌≤◌, ◌<◌, eqb}
use Rattle.std.proofs.Common.{sym, ◌∙◌, true≢false, inl, inr, arith, eq-eqb, ne_eqb}
use Rattle.tables.specs.Laws.Sound.{live_below_lem}
use Rattle.words.specs.declared.layout.Kind.{Kind}
use Rattle.words.specs.declared.layout.Kind.TheVariants.{Model, SchemaInstance, Instance}
use Rattle.words.specs.Layout.{count_of}
use Rattle.words.specs.Sets.{bits, none, has, insert, remove}
use Rattle.words.specs.Fields.{label_of, name_in, repository_in, repositories, is_free, is_named}
use Rattle.words.specs.Entries.{one_past, free_at, is_taken, with_words, with_entry, without_entry}
use Rattle.logic.specs.Laws.Bools.{and_left, and_right, or_right, clash, fails}
use Rattle.logic.specs.Laws.Search.{none_at}
use Rattle.words.specs.Laws.Sets.{has_insert, has_remove, has_none}
use Rattle.words.specs.Laws.Fields.{Label, label_test, label_is_live, repository_of_label, schema_of_label}
use Rattle.words.specs.Laws.Entries.{word_same, word_other, entry_first, entry_zeros, one_past_below}
use Rattle.tables.specs.View.{is_live, label_at, set_at, model_at}
use Rattle.tables.specs.Sound.{may_join}
use Rattle.tables.specs.Edits.{with_set}
use Rattle.promises.specs.Keeps.Facts.{SameName, SoundTable}
use Rattle.promises.specs.Keeps.Frame.{same_or_not, live_not_free, distinct_kept, distinct_edited}
use Rattle.promises.specs.Keeps.Edited.{Rest, word_rest, entry_rest, cursor_moved, model_edited, other_group, group_same_model, group_edited}

-- a label made of a repository, a schema and a name
pub label_made : (r s n : ℕ) → r < repositories → 1 ≤ s → s ≤ 2 → n < 0x1_0000_0000 → Label (label_of r s n)
label_made r s n hr hs hs' hn = record {
  small = omega arith;
  repository = omega (arith, repository_of_label r s n (omega arith) (omega arith) hn);
  schema_from = omega (arith, schema_of_label r s n (omega arith) (omega arith) hn);
  schema_to = omega (arith, schema_of_label r s n (omega arith) (omega arith) hn);
}

-- a name that is not taken is nobody's
pub not_named : (t : List ℕ) (kind : Kind) (w : ℕ) → is_taken t kind (repository_in w) (name_in w) ≡ false → (j : ℕ) → SameName w (label_at t kind j) → ⊥
not_named t kind w h j e =
    let live : is_free (label_at t kind j) ≡ false = fails (is_free (label_at t kind j)) e.right_live in
    let here : j < count_of kind = live_below_lem t kind j (rw live) in
    let named : is_named (label_at t kind j) (repository_in w) (name_in w) ≡ true = rw (live, eq-eqb _ _ e.repository, eq-eqb _ _ e.name) in
    true≢false (sym named ∙ none_at (count_of kind) (λ i. is_named (label_at t kind i) (repository_in w) (name_in w)) h j here)

module _ (t : List ℕ) (n w : ℕ) (h : SoundTable t) where
  -- a model is made
  pub made_model : n < count_of Model → free_at t Model n ≡ true → Label w → is_taken t Model (repository_in w) (name_in w) ≡ false
      → SoundTable (with_entry t Model n w)
  made_model l f label free =
      cursor_moved t' Model (one_past Model n)
      (model_edited t t' n h (entry_rest t Model n _)
      (rw new (or_right (is_free w) _ ((label_test w).passes label)))
      (λ j apart e. not_named t Model w free j (rw new at e))
      (λ s e live. clash _ f (live_not_free t Model n live))
      (λ i e p live. clash _ f (live_not_free t Model n live)))
      (one_past_below Model n)
    where
      t' : List ℕ
      t' = with_words t Model n w

      new : label_at t' Model n ≡ w
      new = entry_first t Model n w l h.long

  -- a schema instance is made
  pub made_group : n < count_of SchemaInstance → Label w → is_taken t SchemaInstance (repository_in w) (name_in w) ≡ false
      → SoundTable (with_entry t SchemaInstance n w)
  made_group l label free =
      cursor_moved t' SchemaInstance (one_past SchemaInstance n)
      (group_edited t t' n h rest
      (record {
        empty = λ f. clash (is_free w) (rw new at f) (label_is_live w label);
        label = λ f. rw new label;
        members = λ f m b e. clash (has none m) (rw alone at e) (has_none m);
      })
      (distinct_edited t t' SchemaInstance n (λ i apart. other_group t t' n h rest i 0 apart) (λ j apart e. not_named t SchemaInstance w free j (rw new at e)) h.group_names))
      (one_past_below SchemaInstance n)
    where
      t' : List ℕ
      t' = with_words t SchemaInstance n w

      rest : Rest t t' SchemaInstance n
      rest = entry_rest t SchemaInstance n _

      new : label_at t' SchemaInstance n ≡ w
      new = entry_first t SchemaInstance n w l h.long

      alone : set_at t' n ≡ 0
      alone = entry_zeros t SchemaInstance n w 1 (omega arith) l h.long (λ z. absurd (omega arith))

-- a model is taken away that no set and no instance names
pub freed_model : (t : List ℕ) (n : ℕ) → SoundTable t → n < count_of Model → ((s : ℕ) → has (set_at t s) n ≡ true → ⊥)
    → ((i : ℕ) → free_at t Instance i ≡ false → model_at t i ≡ n → ⊥) → SoundTable (without_entry t Model n)
freed_model t n h l no_set no_instance =
    model_edited t (without_entry t Model n) n h (entry_rest t Model n _)
    (rw new)
    (λ j apart e. e.left_live (rw new))
    (λ s e live. no_set s e)
    (λ i e p live. no_instance i e p)
  where
    new : label_at (without_entry t Model n) Model n ≡ 0
    new = entry_first t Model n 0 l h.long

-- a schema instance is taken away
pub dissolved_group : (t : List ℕ) (n : ℕ) → SoundTable t → n < count_of SchemaInstance → SoundTable (without_entry t SchemaInstance n)
dissolved_group t n h l =
    group_edited t t' n h rest
    (record {
      empty = λ f. alone;
      label = λ f. clash (is_free 0) refl (rw new at f);
      members = λ f. clash (is_free 0) refl (rw new at f);
    })
    (distinct_edited t t' SchemaInstance n (λ i apart. other_group t t' n h rest i 0 apart) (λ j apart e. e.left_live (rw new)) h.group_names)
  where
    t' : List ℕ
    t' = without_entry t SchemaInstance n

    rest : Rest t t' SchemaInstance n
    rest = entry_rest t SchemaInstance n _

    new : label_at t' SchemaInstance n ≡ 0
    new = entry_first t SchemaInstance n 0 l h.long

    alone : set_at t' n ≡ 0
    alone = entry_zeros t SchemaInstance n 0 1 (omega arith) l h.long (λ z. absurd (omega arith))

-- the set of a schema instance is another one, whose members may join
module _ (t : List ℕ) (n set : ℕ) (h : SoundTable t) (l : n < count_of SchemaInstance) where
  same_label : (i : ℕ) → label_at (with_set t n set) SchemaInstance i ≡ label_at t SchemaInstance i
  same_label i = word_other t SchemaInstance n 1 set SchemaInstance i 0 (λ s. omega (arith, s.places))

  new_set : set_at (with_set t n set) n ≡ set
  new_set = word_same t SchemaInstance n 1 set l (omega arith) h.long

  pub set_changed : (free_at t SchemaInstance n ≡ true → set ≡ none)
      → (free_at t SchemaInstance n ≡ false → (m : ℕ) → m < bits → has set m ≡ true → may_join t n m ≡ true)
      → SoundTable (with_set t n set)
  set_changed empty members =
      group_edited t (with_set t n set) n h rest
      (record {
        empty = λ f. new_set ∙ empty (rw (same_label n) at f);
        label = λ f. rw (same_label n) ((h.groups n l).label (rw (same_label n) at f));
        members = λ f m b e. rw (same_label n, group_same_model t (with_set t n set) n h rest m 0) (members (rw (same_label n) at f) m b (rw new_set at e));
      })
      (distinct_kept t (with_set t n set) SchemaInstance same_label h.group_names)
    where
      rest : Rest t (with_set t n set) SchemaInstance n
      rest = word_rest t SchemaInstance n 1 set

module _ (t : List ℕ) (n m : ℕ) (h : SoundTable t) where
  -- a model joins a set
  pub joined_group : is_live t SchemaInstance n ≡ true → may_join t n m ≡ true → SoundTable (with_set t n (insert (set_at t n) m))
  joined_group live may =
      set_changed t n (insert (set_at t n) m) h here
      (λ f. clash _ f (live_not_free t SchemaInstance n live))
      (λ f j b e. by_cases f j b (same_or_not j m) (sym (has_insert (set_at t n) m j inside) ∙ e))
    where
      here : n < count_of SchemaInstance
      here = live_below_lem t SchemaInstance n live

      inside : m < bits
      inside = live_below_lem t Model m (and_left (is_live t Model m) _ may)

      by_cases : free_at t SchemaInstance n ≡ false → (j : ℕ) → j < bits → (j ≡ m) ⊎ (j ≡ m → ⊥)
          → (eqb j m || has (set_at t n) j) ≡ true → may_join t n j ≡ true
      by_cases f j b (inl p) e = rw p may
      by_cases f j b (inr p) e = (h.groups n here).members f j b (rw (ne_eqb j m p) at e)

  -- a model leaves a set
  pub left_group : n < count_of SchemaInstance → SoundTable (with_set t n (remove (set_at t n) m))
  left_group l =
      set_changed t n (remove (set_at t n) m) h l
      (λ f. empty (set_at t n) ((h.groups n l).empty f))
      (λ f j b e. (h.groups n l).members f j b (and_right (not (eqb j m)) _ (sym (has_remove (set_at t n) m j) ∙ e)))
    where
      empty : (s : ℕ) → s ≡ none → remove s m ≡ none
      empty s e = omega arith
