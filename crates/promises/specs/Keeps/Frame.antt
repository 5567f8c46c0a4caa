-- What an entry's soundness rests on: its own words, the labels of live models, and which instances live with which types.
use Rattle.std.specs.Prelude.{◌≡◌, refl, Bool, true, false, ◌&&◌, ◌⊎◌, List, ℕ, ◌+◌, eqb, Option, None, Some}
use Rattle.std.proofs.Common.{◌∙◌, inl, inr, arith, eqb-true}
use Rattle.std.proofs.lemmas.Bool.{eqb-false, not-true}
use Rattle.tables.specs.Laws.Sound.{SoundHeader}
use Rattle.words.specs.declared.layout.Kind.{Kind}
use Rattle.words.specs.declared.layout.Kind.TheVariants.{Model, SchemaInstance, Instance}
use Rattle.words.specs.Sets.{has}
use Rattle.words.specs.Fields.{model_in}
use Rattle.words.specs.Entries.{word_of, free_at}
use Rattle.logic.specs.Laws.Bools.{and_left, and_right, and_both}
use Rattle.words.specs.Laws.Fields.{Alike}
use Rattle.dictionary.specs.declared.answers.Attribute.{Attribute}
use Rattle.dictionary.specs.declared.answers.Attribute.TheVariants.{Whole, Reference}
use Rattle.dictionary.specs.Dictionary.{attribute_of}
use Rattle.dictionary.specs.Subtype.{subtype}
pub use Rattle.tables.specs.Laws.Sound.{live_below_lem}
use Rattle.tables.specs.View.{is_live, label_at, set_at, header_at, type_at, model_at, is_set, value_at}
use Rattle.tables.specs.Sound.{may_join, sound_value}
use Rattle.promises.specs.Keeps.Facts.{SameName, turned, Distinct, SoundGroup, SoundInstance}

pub same_or_not : (i n : ℕ) → (i ≡ n) ⊎ (i ≡ n → ⊥)
same_or_not i n = by_cases (eqb i n) refl
  where
    by_cases : (b : Bool) → eqb i n ≡ b → (i ≡ n) ⊎ (i ≡ n → ⊥)
    by_cases true e = inl (eqb-true i n e)
    by_cases false e = inr (eqb-false i n e)

pub live_not_free : (t : List ℕ) (kind : Kind) (i : ℕ) → is_live t kind i ≡ true → free_at t kind i ≡ false
live_not_free t kind i h = not-true (free_at t kind i) h

pub not_free_live : (t : List ℕ) (kind : Kind) (i : ℕ) → free_at t kind i ≡ false → is_live t kind i ≡ true
not_free_live t kind i h = rw h

pub alike_same : (h : ℕ) → Alike h h
alike_same h = record { types = refl; models = refl; header = λ w. w }

-- ---- names

module _ (t t' : List ℕ) (kind : Kind) where
  pub distinct_kept : ((i : ℕ) → label_at t' kind i ≡ label_at t kind i) → Distinct t kind → Distinct t' kind
  distinct_kept own d i l j m e = d i l j m (rw (own i, own j) at e)

  pub distinct_edited : (n : ℕ) → ((i : ℕ) → (i ≡ n → ⊥) → label_at t' kind i ≡ label_at t kind i)
      → ((j : ℕ) → (j ≡ n → ⊥) → SameName (label_at t' kind n) (label_at t kind j) → ⊥)
      → Distinct t kind → Distinct t' kind
  distinct_edited n own new d i l j m e = by_cases (same_or_not i n) (same_or_not j n)
    where
      by_cases : (i ≡ n) ⊎ (i ≡ n → ⊥) → (j ≡ n) ⊎ (j ≡ n → ⊥) → ⊥
      by_cases (inl p) (inl q) = omega arith
      by_cases (inl p) (inr q) = new j q (rw (p, own j q) at e)
      by_cases (inr p) (inl q) = new i p (turned _ _ (rw (q, own i p) at e))
      by_cases (inr p) (inr q) = d i l j m (rw (own i p, own j q) at e)

-- ---- groups

module _ (t t' : List ℕ) (s : ℕ) where
  pub group_stays : ((k : ℕ) → word_of t' SchemaInstance s k ≡ word_of t SchemaInstance s k)
      → ((m : ℕ) → has (set_at t s) m ≡ true → is_live t Model m ≡ true → label_at t' Model m ≡ label_at t Model m)
      → SoundGroup t s → SoundGroup t' s
  group_stays own models g = record {
    empty = λ f. own 1 ∙ g.empty (rw (own 0) at f);
    label = λ f. rw (own 0) (g.label (rw (own 0) at f));
    members = λ f m l h. joins m (g.members (rw (own 0) at f) m l (rw (own 1) at h)) (rw (own 1) at h);
  }
    where
      joins : (m : ℕ) → may_join t s m ≡ true → has (set_at t s) m ≡ true → may_join t' s m ≡ true
      joins m j h = rw (own 0, models m h (and_left (is_live t Model m) _ j)) j

-- ---- instances

pub headed_stays : (t t' : List ℕ) (h h' : ℕ) → Alike h h' → label_at t' Model (model_in h) ≡ label_at t Model (model_in h)
    → SoundHeader t h → SoundHeader t' h'
headed_stays t t' h h' a m w = record {
  header = a.header w.header;
  type = rw a.types w.type;
  model = rw (a.models, m) w.model;
  schema = rw (a.models, m, a.types) w.schema;
}

-- an instance that lives keeps its type
pub record Lasts (t t' : List ℕ) (v : ℕ) : Type 0 where
  pub live : is_live t' Instance v ≡ true
  pub type : type_at t' v ≡ type_at t v

pub lasts_same : (t t' : List ℕ) (v : ℕ) → header_at t' v ≡ header_at t v → is_live t Instance v ≡ true → Lasts t t' v
lasts_same t t' v e h = record { live = rw e h; type = rw e }

pub value_stays : (t t' : List ℕ) (x : Option Attribute) (set : Bool) (v : ℕ) → (is_live t Instance v ≡ true → Lasts t t' v)
    → sound_value t x set v ≡ true → sound_value t' x set v ≡ true
value_stays t t' None set v k h = h
value_stays t t' (Some Whole) set v k h = h
value_stays t t' (Some (Reference u)) true v k h = lasting (k (and_left (is_live t Instance v) _ h)) (and_right (is_live t Instance v) _ h)
  where
    lasting : Lasts t t' v → subtype (type_at t v) u ≡ true → (is_live t' Instance v && subtype (type_at t' v) u) ≡ true
    lasting l s = and_both _ _ l.live (rw l.type s)
value_stays t t' (Some (Reference u)) false v k h = h

module _ (t t' : List ℕ) (i : ℕ) where
  pub instance_stays : ((k : ℕ) → word_of t' Instance i k ≡ word_of t Instance i k)
      → (free_at t Instance i ≡ false → is_live t Model (model_at t i) ≡ true → label_at t' Model (model_at t i) ≡ label_at t Model (model_at t i))
      → ((v : ℕ) → is_live t Instance v ≡ true → Lasts t t' v)
      → SoundInstance t i → SoundInstance t' i
  instance_stays own model lasts g = record {
    empty = λ f k l. own (1 + k) ∙ g.empty (rw (own 0) at f) k l;
    headed = λ f. rw (own 0) (heads (rw (own 0) at f) (g.headed (rw (own 0) at f)));
    valued = λ f k l. rw (own 0, own (1 + k)) (value_stays t t' (attribute_of (type_at t i) k) (is_set t i k) (value_at t i k) (lasts (value_at t i k)) (g.valued (rw (own 0) at f) k l));
  }
    where
      heads : free_at t Instance i ≡ false → SoundHeader t (header_at t i) → SoundHeader t' (header_at t i)
      heads f w = headed_stays t t' (header_at t i) (header_at t i) (alike_same (header_at t i)) (model f w.model) w
