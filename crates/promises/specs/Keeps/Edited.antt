-- A table in which one entry is edited, or a cursor: what must hold of it for the table to stay sound.
use Rattle.std.specs.Prelude.{◌≡◌, refl, true, false, ◌⊎◌, List, ℕ, ◌<◌, length}
use Rattle.std.proofs.Common.{sym, ◌∙◌, inl, inr, arith}
use Rattle.words.specs.declared.layout.Kind.{Kind}
use Rattle.words.specs.declared.layout.Kind.TheVariants.{Model, SchemaInstance, Instance}
use Rattle.words.specs.Layout.{count_of}
use Rattle.words.specs.Sets.{has}
use Rattle.words.specs.Entries.{word_of, free_at, formed, cursor_in, with_word, with_cursor, with_words}
use Rattle.words.specs.Laws.Layout.{kinds_apart, same_kind}
use Rattle.words.specs.Laws.Entries.{length_word, word_other, word_cursor, length_entry, entry_other, entry_cursor, length_cursor, cursor_entries, cursor_same, cursor_other}
use Rattle.tables.specs.View.{is_live, label_at, set_at, model_at}
use Rattle.promises.specs.Keeps.Facts.{SameName, Distinct, SoundGroup, SoundInstance, SoundTable}
use Rattle.promises.specs.Keeps.Frame.{same_or_not, distinct_kept, distinct_edited, group_stays, Lasts, lasts_same, instance_stays}

-- all but entry n of a kind is as it was
pub record Rest (t t' : List ℕ) (kind : Kind) (n : ℕ) : Type 0 where
  pub long : length t' ≡ length t
  pub others : (kind' : Kind) (i k : ℕ) → (kind ≡ kind' → n ≡ i → ⊥) → word_of t' kind' i k ≡ word_of t kind' i k
  pub same_cursors : (kind' : Kind) → cursor_in t' kind' ≡ cursor_in t kind'

pub word_rest : (t : List ℕ) (kind : Kind) (n k w : ℕ) → Rest t (with_word t kind n k w) kind n
word_rest t kind n k w = record {
  long = length_word t kind n k w;
  others = λ kind' i j apart. word_other t kind n k w kind' i j (λ s. apart s.kinds s.numbers);
  same_cursors = word_cursor t kind n k w;
}

pub entry_rest : (t : List ℕ) (kind : Kind) (n first : ℕ) → Rest t (with_words t kind n first) kind n
entry_rest t kind n first = record {
  long = length_entry t kind n first;
  others = λ kind' i k apart. entry_other t kind n first kind' i k apart;
  same_cursors = entry_cursor t kind n first;
}

pub rest_then : (t t' t'' : List ℕ) (kind : Kind) (n : ℕ) → Rest t t' kind n → Rest t' t'' kind n → Rest t t'' kind n
rest_then t t' t'' kind n a b = record {
  long = b.long ∙ a.long;
  others = λ kind' i k apart. b.others kind' i k apart ∙ a.others kind' i k apart;
  same_cursors = λ kind'. b.same_cursors kind' ∙ a.same_cursors kind';
}

-- a cursor moves: no entry's word is another
module _ (t : List ℕ) (kind : Kind) (n : ℕ) (h : SoundTable t) (l : n < count_of kind) where
  moved : List ℕ
  moved = with_cursor t kind n

  same : (kind' : Kind) (i k : ℕ) → word_of moved kind' i k ≡ word_of t kind' i k
  unfolding moved
  same = cursor_entries t kind n

  in_range : (kind' : Kind) → (kind ≡ kind') ⊎ (kind ≡ kind' → ⊥) → cursor_in moved kind' < count_of kind'
  unfolding moved
  in_range kind' (inl e) = rw (← e, cursor_same t kind n h.long) l
  in_range kind' (inr apart) = rw (cursor_other t kind n kind' apart) (h.cursors kind')

  pub cursor_moved : SoundTable (with_cursor t kind n)
  unfolding moved
  cursor_moved = record {
    long = omega (arith, length_cursor t kind n, h.long);
    cursors = λ kind'. in_range kind' (same_kind kind kind');
    models = λ m b. rw (same Model m 0) (h.models m b);
    model_names = distinct_kept t moved Model (λ i. same Model i 0) h.model_names;
    groups = λ s b. group_stays t moved s (same SchemaInstance s) (λ m e live. same Model m 0) (h.groups s b);
    group_names = distinct_kept t moved SchemaInstance (λ i. same SchemaInstance i 0) h.group_names;
    instances = λ i b. instance_stays t moved i (same Instance i) (λ f live. same Model (model_at t i) 0) (λ v live. lasts_same t moved v (same Instance v 0) live) (h.instances i b);
  }

module _ (t t' : List ℕ) (n : ℕ) (h : SoundTable t) where
  module _ (r : Rest t t' Model n) where
    other_model : (m k : ℕ) → (m ≡ n → ⊥) → word_of t' Model m k ≡ word_of t Model m k
    other_model m k apart = r.others Model m k (λ e same. apart (sym same))

    same_group : (s k : ℕ) → word_of t' SchemaInstance s k ≡ word_of t SchemaInstance s k
    same_group s k = r.others SchemaInstance s k (λ e same. kinds_apart e refl)

    same_instance : (i k : ℕ) → word_of t' Instance i k ≡ word_of t Instance i k
    same_instance i k = r.others Instance i k (λ e same. kinds_apart e refl)

    pub model_edited : formed Model (label_at t' Model n) ≡ true
        → ((j : ℕ) → (j ≡ n → ⊥) → SameName (label_at t' Model n) (label_at t Model j) → ⊥)
        → ((s : ℕ) → has (set_at t s) n ≡ true → is_live t Model n ≡ true → ⊥)
        → ((i : ℕ) → free_at t Instance i ≡ false → model_at t i ≡ n → is_live t Model n ≡ true → ⊥)
        → SoundTable t'
    model_edited new names no_set no_instance = record {
      long = omega (arith, r.long, h.long);
      cursors = λ kind. rw (r.same_cursors kind) (h.cursors kind);
      models = λ m l. models m l (same_or_not m n);
      model_names = distinct_edited t t' Model n (λ i apart. other_model i 0 apart) names h.model_names;
      groups = λ s l. group_stays t t' s (same_group s) (λ m e live. other_model m 0 (λ p. no_set s (rw p at e) (rw p at live))) (h.groups s l);
      group_names = distinct_kept t t' SchemaInstance (λ i. same_group i 0) h.group_names;
      instances = λ i l.
          instance_stays t t' i (same_instance i) (λ f live. other_model (model_at t i) 0 (λ p. no_instance i f p (rw p at live)))
          (λ v live. lasts_same t t' v (same_instance v 0) live) (h.instances i l);
    }
      where
        models : (m : ℕ) → m < count_of Model → (m ≡ n) ⊎ (m ≡ n → ⊥) → formed Model (label_at t' Model m) ≡ true
        models m l (inl e) = rw e new
        models m l (inr e) = rw (other_model m 0 e) (h.models m l)

  module _ (r : Rest t t' SchemaInstance n) where
    pub other_group : (s k : ℕ) → (s ≡ n → ⊥) → word_of t' SchemaInstance s k ≡ word_of t SchemaInstance s k
    other_group s k apart = r.others SchemaInstance s k (λ e same. apart (sym same))

    pub group_same_model : (m k : ℕ) → word_of t' Model m k ≡ word_of t Model m k
    group_same_model m k = r.others Model m k (λ e same. kinds_apart e refl)

    pub group_same_instance : (i k : ℕ) → word_of t' Instance i k ≡ word_of t Instance i k
    group_same_instance i k = r.others Instance i k (λ e same. kinds_apart e refl)

    pub group_edited : SoundGroup t' n → Distinct t' SchemaInstance → SoundTable t'
    group_edited new names = record {
      long = omega (arith, r.long, h.long);
      cursors = λ kind. rw (r.same_cursors kind) (h.cursors kind);
      models = λ m l. rw (group_same_model m 0) (h.models m l);
      model_names = distinct_kept t t' Model (λ i. group_same_model i 0) h.model_names;
      groups = λ s l. groups s l (same_or_not s n);
      group_names = names;
      instances = λ i l. instance_stays t t' i (group_same_instance i) (λ f live. group_same_model (model_at t i) 0) (λ v live. lasts_same t t' v (group_same_instance v 0) live) (h.instances i l);
    }
      where
        groups : (s : ℕ) → s < count_of SchemaInstance → (s ≡ n) ⊎ (s ≡ n → ⊥) → SoundGroup t' s
        groups s l (inl e) = rw e new
        groups s l (inr e) = group_stays t t' s (λ k. other_group s k e) (λ m p live. group_same_model m 0) (h.groups s l)

  module _ (r : Rest t t' Instance n) where
    other_instance : (i k : ℕ) → (i ≡ n → ⊥) → word_of t' Instance i k ≡ word_of t Instance i k
    other_instance i k apart = r.others Instance i k (λ e same. apart (sym same))

    pub instance_same_model : (m k : ℕ) → word_of t' Model m k ≡ word_of t Model m k
    instance_same_model m k = r.others Model m k (λ e same. kinds_apart e refl)

    instance_same_group : (s k : ℕ) → word_of t' SchemaInstance s k ≡ word_of t SchemaInstance s k
    instance_same_group s k = r.others SchemaInstance s k (λ e same. kinds_apart e refl)

    pub all_last : (is_live t Instance n ≡ true → Lasts t t' n) → (v : ℕ) → is_live t Instance v ≡ true → Lasts t t' v
    all_last own v live = by_cases (same_or_not v n)
      where
        by_cases : (v ≡ n) ⊎ (v ≡ n → ⊥) → Lasts t t' v
        by_cases (inl e) = rw e (own (rw e at live))
        by_cases (inr e) = lasts_same t t' v (other_instance v 0 e) live

    pub instance_edited : SoundInstance t' n → (is_live t Instance n ≡ true → Lasts t t' n) → SoundTable t'
    instance_edited new own = record {
      long = omega (arith, r.long, h.long);
      cursors = λ kind. rw (r.same_cursors kind) (h.cursors kind);
      models = λ m l. rw (instance_same_model m 0) (h.models m l);
      model_names = distinct_kept t t' Model (λ i. instance_same_model i 0) h.model_names;
      groups = λ s l. group_stays t t' s (instance_same_group s) (λ m p live. instance_same_model m 0) (h.groups s l);
      group_names = distinct_kept t t' SchemaInstance (λ i. instance_same_group i 0) h.group_names;
      instances = λ i l. instances i l (same_or_not i n);
    }
      where
        instances : (i : ℕ) → i < count_of Instance → (i ≡ n) ⊎ (i ≡ n → ⊥) → SoundInstance t' i
        instances i l (inl e) = rw e new
        instances i l (inr e) = instance_stays t t' i (λ k. other_instance i k e) (λ f live. instance_same_model (model_at t i) 0) (all_last own) (h.instances i l)
