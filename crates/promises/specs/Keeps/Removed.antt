-- Instances and models deleted: a table stays sound.
use Rattle.std.specs.Prelude.{◌≡◌, refl, Bool, true, false, ◌&&◌, ◌⊎◌, List, ℕ, zero, suc, ◌+◌, ◌≤◌, ◌<◌, ltb, Option, None, Some}
use Rattle.std.proofs.Common.{sym, ◌∙◌, inl, inr, arith, eq-eqb, eqb-true, ltb-true}
use Rattle.tables.specs.Laws.Sound.{live_below_lem}
use Rattle.words.specs.declared.layout.Kind.{Kind}
use Rattle.words.specs.declared.layout.Kind.TheVariants.{Model, SchemaInstance, Instance}
use Rattle.words.specs.Layout.{count_of}
use Rattle.words.specs.Sets.{none, has, remove}
use Rattle.words.specs.Fields.{values}
use Rattle.words.specs.Entries.{word_of, free_at}
use Rattle.words.specs.Laws.Sets.{has_none, has_remove}
use Rattle.words.specs.Laws.Fields.{header_is_live}
use Rattle.words.specs.Laws.Layout.{kinds_apart}
use Rattle.words.specs.Laws.Entries.{word_same, word_other, entry_other}
use Rattle.dictionary.specs.declared.answers.Attribute.{Attribute}
use Rattle.dictionary.specs.declared.answers.Attribute.TheVariants.{Whole, Reference}
use Rattle.dictionary.specs.Dictionary.{is_reference, attribute_of}
use Rattle.tables.specs.View.{is_live, label_at, set_at, header_at, type_at, model_at, is_set, value_at}
use Rattle.tables.specs.Sound.{sound_value}
use Rattle.tables.specs.declared.changes.Change.TheVariants.{Gone}
use Rattle.tables.specs.Edits.{without_member}
use Rattle.tables.specs.Deletions.{goes_with, refers, swept, ungrouped}
use Rattle.tables.specs.Changes.{apply}
use Rattle.logic.specs.Laws.Bools.{clash, fails}
use Rattle.promises.specs.Keeps.Facts.{SoundInstance, SoundTable}
use Rattle.promises.specs.Keeps.Frame.{same_or_not, live_not_free, not_free_live, distinct_kept, group_stays, headed_stays, value_stays, Lasts}
use Rattle.promises.specs.Keeps.Group.{left_group, freed_model}
use Rattle.promises.specs.Keeps.Values.{unset_sound}
use Rattle.promises.specs.Keeps.Swept.{Same, Unset, Rid, Sweep, sweeps}

-- ---- a sweep keeps a table sound

value_kept : (t t' : List ℕ) (goes : ℕ → Bool) (x : Option Attribute) (set : Bool) (v : ℕ) → (is_reference x && set && goes v) ≡ false
    → (goes v ≡ false → is_live t Instance v ≡ true → Lasts t t' v) → sound_value t x set v ≡ true → sound_value t' x set v ≡ true
value_kept t t' goes None set v n k h = h
value_kept t t' goes (Some Whole) set v n k h = h
value_kept t t' goes (Some (Reference u)) true v n k h = value_stays t t' (Some (Reference u)) true v (k n) h
value_kept t t' goes (Some (Reference u)) false v n k h = h

module _ (goes : ℕ → Bool) (t t' : List ℕ) (h : SoundTable t) (w : Sweep goes (count_of Instance) t t') where
  pub swept_model : (m k : ℕ) → word_of t' Model m k ≡ word_of t Model m k
  swept_model m k = w.others Model m k (λ e l. kinds_apart e refl)

  swept_group : (s k : ℕ) → word_of t' SchemaInstance s k ≡ word_of t SchemaInstance s k
  swept_group s k = w.others SchemaInstance s k (λ e l. kinds_apart e refl)

  -- what goes is free
  swept_away : (j : ℕ) → j < count_of Instance → goes j ≡ true → free_at t' Instance j ≡ true
  swept_away j l g = rw (w.gone j l g 0 (omega arith))

  -- what stays is live as it was, and of the same type
  swept_live : (v : ℕ) → goes v ≡ false → is_live t Instance v ≡ true → Lasts t t' v
  swept_live v g live =
      let l : v < count_of Instance = live_below_lem t Instance v live in
      let r : Rid goes values (word_of t Instance v) (word_of t' Instance v) = w.stays v l g in
      record {
        live = rw (header_is_live (header_at t' v) (r.alike.header ((h.instances v l).headed (live_not_free t Instance v live)).header));
        type = r.alike.types;
      }

  swept_free : (j : ℕ) → j < count_of Instance → goes j ≡ false → free_at t Instance j ≡ true → free_at t' Instance j ≡ true
  swept_free j l g f = eq-eqb _ _ ((w.stays j l g).empty (eqb-true _ _ f))

  module _ (j : ℕ) (l : j < count_of Instance) (g : goes j ≡ false) where
    rid : Rid goes values (word_of t Instance j) (word_of t' Instance j)
    rid = w.stays j l g

    was : SoundInstance t j
    was = h.instances j l

    -- an instance that is live after a sweep was live before it
    pub swept_lived : free_at t' Instance j ≡ false → free_at t Instance j ≡ false
    swept_lived f = fails (free_at t Instance j) (λ e. clash _ (swept_free j l g e) f)

    value_empty : (k : ℕ) → value_at t j k ≡ 0
        → ((refers t goes j k ≡ false) × Same (word_of t Instance j) (word_of t' Instance j) k) ⊎ Unset (word_of t' Instance j) k
        → value_at t' j k ≡ 0
    value_empty k e (inl s) = s.1.value ∙ e
    value_empty k e (inr u) = u.value

    value_sound : (k : ℕ) → sound_value t (attribute_of (type_at t j) k) (is_set t j k) (value_at t j k) ≡ true
        → ((refers t goes j k ≡ false) × Same (word_of t Instance j) (word_of t' Instance j) k) ⊎ Unset (word_of t' Instance j) k
        → sound_value t' (attribute_of (type_at t j) k) (is_set t' j k) (value_at t' j k) ≡ true
    value_sound k e (inl s) =
        rw (s.1.flag, s.1.value)
        (value_kept t t' goes (attribute_of (type_at t j) k) (is_set t j k) (value_at t j k) s.0 (swept_live (value_at t j k)) e)
    value_sound k e (inr u) = rw (u.flag, u.value) (unset_sound t' (attribute_of (type_at t j) k))

    staying : (b : Bool) → free_at t Instance j ≡ b → SoundInstance t' j
    staying true f = record {
      empty = λ e k m. value_empty k (was.empty f k m) (rid.earlier k m m);
      headed = λ e. clash _ (swept_free j l g f) e;
      valued = λ e. clash _ (swept_free j l g f) e;
    }
    staying false f = record {
      empty = λ e. clash _ e (live_not_free t' Instance j (swept_live j g (not_free_live t Instance j f)).live);
      headed = λ e. headed_stays t t' (header_at t j) (header_at t' j) rid.alike (swept_model (model_at t j) 0) (was.headed f);
      valued = λ e k m. rw rid.alike.types (value_sound k (was.valued f k m) (rid.earlier k m m));
    }

  swept_instance : (j : ℕ) → j < count_of Instance → (b : Bool) → goes j ≡ b → SoundInstance t' j
  swept_instance j l true g = record {
    empty = λ e k m. w.gone j l g (1 + k) (omega arith);
    headed = λ e. clash _ (swept_away j l g) e;
    valued = λ e. clash _ (swept_away j l g) e;
  }
  swept_instance j l false g = staying j l g (free_at t Instance j) refl

  pub sweep_sound : SoundTable t'
  sweep_sound = record {
    long = omega (arith, w.long, h.long);
    cursors = λ kind. rw (w.same_cursors kind) (h.cursors kind);
    models = λ m l. rw (swept_model m 0) (h.models m l);
    model_names = distinct_kept t t' Model (λ i. swept_model i 0) h.model_names;
    groups = λ s l. group_stays t t' s (swept_group s) (λ m p live. swept_model m 0) (h.groups s l);
    group_names = distinct_kept t t' SchemaInstance (λ i. swept_group i 0) h.group_names;
    instances = λ i l. swept_instance i l (goes i) refl;
  }

-- an instance is deleted
pub deleted_sound : (t : List ℕ) (i : ℕ) → SoundTable t → SoundTable (apply (Gone Instance i) t)
unfolding apply
deleted_sound t i h = sweep_sound (goes_with t Instance i) t (swept t (goes_with t Instance i) (count_of Instance)) h (sweeps (goes_with t Instance i) t (count_of Instance) (omega arith) h.long)

-- ---- a model leaves all sets

record Ungrouped (t t' : List ℕ) (m n : ℕ) : Type 0 where
  sound : SoundTable t'
  others : (kind : Kind) (i k : ℕ) → (SchemaInstance ≡ kind → ⊥) → word_of t' kind i k ≡ word_of t kind i k
  cleared : (s : ℕ) → s < n → has (set_at t' s) m ≡ false

ungroups : (t : List ℕ) (m n : ℕ) → n ≤ count_of SchemaInstance → SoundTable t → Ungrouped t (ungrouped t m n) m n
unfolding ungrouped
ungroups t m zero hn h = record { sound = h; others = λ kind i k apart. refl; cleared = λ s l. absurd (omega arith) }
ungroups t m (suc n) hn h = more (ungrouped t m n) (ungroups t m n (omega arith) h)
  where
    more : (before : List ℕ) → Ungrouped t before m n → Ungrouped t (without_member before n m) m (suc n)
    more before u = record {
      sound = left_group before n m u.sound hn;
      others = λ kind i k apart. word_other before SchemaInstance n 1 _ kind i k (λ s. apart s.kinds) ∙ u.others kind i k apart;
      cleared = λ s l. by_cases s l (same_or_not s n);
    }
      where
        by_cases : (s : ℕ) → s < suc n → (s ≡ n) ⊎ (s ≡ n → ⊥) → has (set_at (without_member before n m) s) m ≡ false
        by_cases s l (inl e) =
            rw (e, word_same before SchemaInstance n 1 (remove (set_at before n) m) hn (omega arith) u.sound.long, has_remove (set_at before n) m m, eq-eqb m m refl)
        by_cases s l (inr e) =
            rw (word_other before SchemaInstance n 1 (remove (set_at before n) m) SchemaInstance s 1 (λ q. e (sym q.numbers)))
            (u.cleared s (omega arith))

-- ---- a model is deleted

module _ (t : List ℕ) (m : ℕ) (h : SoundTable t) (here : m < count_of Model) where
  emptied : List ℕ
  emptied = swept t (goes_with t Model m) (count_of Instance)

  left_alone : List ℕ
  left_alone = ungrouped emptied m (count_of SchemaInstance)

  sweep : Sweep (goes_with t Model m) (count_of Instance) t emptied
  unfolding emptied
  sweep = sweeps (goes_with t Model m) t (count_of Instance) (omega arith) h.long

  alone : Ungrouped emptied left_alone m (count_of SchemaInstance)
  unfolding left_alone
  alone = ungroups emptied m (count_of SchemaInstance) (omega arith) (sweep_sound (goes_with t Model m) t emptied h sweep)

  no_member : (s : ℕ) → has (set_at left_alone s) m ≡ true → ⊥
  no_member s e = by_cases (ltb s (count_of SchemaInstance)) refl
    where
      by_cases : (b : Bool) → ltb s (count_of SchemaInstance) ≡ b → ⊥
      by_cases true l = clash _ e (alone.cleared s (ltb-true _ _ l))
      by_cases false l = clash (has none m) (rw l at e) (has_none m)

  not_its : (i : ℕ) → i < count_of Instance → free_at emptied Instance i ≡ false → model_at emptied i ≡ m → (b : Bool) → goes_with t Model m i ≡ b → ⊥
  not_its i l f e true g = clash _ (swept_away (goes_with t Model m) t emptied h sweep i l g) f
  not_its i l f e false g =
      let lived : free_at t Instance i ≡ false = swept_lived (goes_with t Model m) t emptied h sweep i l g f in
      let its : model_at t i ≡ m = sym (sweep.stays i l g).alike.models ∙ e in
      clash (goes_with t Model m i) (rw (lived, eq-eqb _ _ its)) g

  same_instance : (i k : ℕ) → word_of left_alone Instance i k ≡ word_of emptied Instance i k
  same_instance i k = alone.others Instance i k (λ z. kinds_apart z refl)

  no_instance : (i : ℕ) → free_at left_alone Instance i ≡ false → model_at left_alone i ≡ m → ⊥
  no_instance i f e =
      not_its i
      (live_below_lem left_alone Instance i (not_free_live left_alone Instance i f))
      (rw (same_instance i 0) at f) (rw (same_instance i 0) at e) (goes_with t Model m i) refl

  pub removed_sound : SoundTable (apply (Gone Model m) t)
  unfolding apply left_alone emptied
  removed_sound = freed_model left_alone m alone.sound here no_member no_instance

  -- the other models are as they were
  pub removed_others : (n : ℕ) → (n ≡ m → ⊥) → label_at (apply (Gone Model m) t) Model n ≡ label_at t Model n
  unfolding apply left_alone emptied
  removed_others n apart =
      entry_other left_alone Model m _ Model n 0 (λ e same. apart (sym same))
      ∙ alone.others Model n 0 (λ z. kinds_apart z refl)
      ∙ swept_model (goes_with t Model m) t emptied h sweep n 0
