-- Instances: made, put and unset, a table stays sound.
use Rattle.std.specs.Prelude.{◌≡◌, refl, Bool, true, false, not, ◌&&◌, ◌||◌, ◌⊎◌, List, ℕ, ◌+◌, ◌<◌, Option, None, Some}
use Rattle.std.proofs.Common.{ap, ◌∙◌, inl, inr, arith, eq-eqb, ne_eqb}
use Rattle.tables.specs.Laws.Sound.{SoundHeader, live_below_lem}
use Rattle.words.specs.declared.layout.Kind.TheVariants.{Model, Instance}
use Rattle.words.specs.Layout.{count_of}
use Rattle.words.specs.Fields.{schema_in, type_in, model_in, header_of, values, flagged, with_flag, without_flag}
use Rattle.words.specs.Entries.{one_past, free_at, with_words, with_entry}
use Rattle.words.specs.Laws.Fields.{Header, header_is_live, type_of_header, model_of_header, no_flag, Alike, alike_with, alike_without, flagged_with, flagged_without}
use Rattle.words.specs.Laws.Entries.{entry_first, entry_zeros, one_past_below}
use Rattle.dictionary.specs.declared.answers.Attribute.{Attribute}
use Rattle.dictionary.specs.declared.answers.Attribute.TheVariants.{Whole, Reference}
use Rattle.dictionary.specs.Dictionary.{is_type, schema_of, attribute_of}
use Rattle.tables.specs.View.{is_live, label_at, header_at, type_at, model_at, value_at}
use Rattle.tables.specs.Sound.{sound_value}
use Rattle.tables.specs.Edits.{with_value, without_value}
use Rattle.logic.specs.Laws.Bools.{clash}
use Rattle.promises.specs.Keeps.Facts.{SoundInstance, SoundTable}
use Rattle.promises.specs.Keeps.Frame.{same_or_not, live_not_free, headed_stays, value_stays, Lasts}
use Rattle.promises.specs.Keeps.Edited.{Rest, entry_rest, cursor_moved, instance_same_model, all_last, instance_edited}
use Rattle.promises.specs.Keeps.Written.{written, written_header, written_value, written_others, written_rest}

-- an attribute that is not set is sound with a word that is 0
pub unset_sound : (t : List ℕ) (x : Option Attribute) → sound_value t x false 0 ≡ true
unset_sound t None = refl
unset_sound t (Some Whole) = refl
unset_sound t (Some (Reference u)) = refl

-- ---- an instance is made

module _ (t : List ℕ) (n type model : ℕ) (h : SoundTable t) (l : n < count_of Instance) (f : free_at t Instance n ≡ true)
    (small : type < 255) (there : is_type type ≡ true) (live : is_live t Model model ≡ true)
    (schema : schema_in (label_at t Model model) ≡ schema_of type) where
  first : ℕ
  first = header_of type model 0

  after : List ℕ
  after = with_words t Instance n first

  below : model < count_of Model
  below = live_below_lem t Model model live

  a_type : type_in first ≡ type
  unfolding first
  a_type = type_of_header type model 0 small (omega (arith, below)) (omega arith)

  a_model : model_in first ≡ model
  unfolding first
  a_model = model_of_header type model 0 small (omega (arith, below)) (omega arith)

  a_header : Header first
  unfolding first
  a_header = record { small = omega (arith, below); typed = omega arith; model = omega (arith, a_model, below) }

  new : header_at after n ≡ first
  unfolding after
  new = entry_first t Instance n first l h.long

  new_value : (k : ℕ) → k < values → value_at after n k ≡ 0
  unfolding after
  new_value k m = entry_zeros t Instance n first (1 + k) (omega arith) l h.long (λ z. absurd (omega arith))

  rest : Rest t after Instance n
  unfolding after
  rest = entry_rest t Instance n _

  headed : SoundHeader after first
  headed = record {
    header = a_header;
    type = rw a_type there;
    model = rw (a_model, instance_same_model t after n h rest model 0) live;
    schema = rw (a_model, instance_same_model t after n h rest model 0, a_type) schema;
  }

  pub made_instance : SoundTable (with_entry t Instance n (header_of type model 0))
  unfolding after first
  made_instance =
      cursor_moved after Instance (one_past Instance n)
      (instance_edited t after n h rest
      (record {
        empty = λ e k m. new_value k m;
        headed = λ e. rw new headed;
        valued = λ e k m. rw (new, new_value k m, no_flag type model k small (omega (arith, below)) m) (unset_sound after (attribute_of (type_in first) k));
      })
      (λ e. clash _ f (live_not_free t Instance n e)))
      (one_past_below Instance n)

-- ---- one attribute of an instance is changed

module _ (t : List ℕ) (i k v h' : ℕ) (h : SoundTable t) (live : is_live t Instance i ≡ true) (hk : k < values)
    (alike : Alike (header_at t i) h') (flags : (j : ℕ) → j < values → (j ≡ k → ⊥) → flagged h' j ≡ flagged (header_at t i) j)
    (good : sound_value t (attribute_of (type_at t i) k) (flagged h' k) v ≡ true) where
  changed : List ℕ
  changed = written t i k v h'

  here : i < count_of Instance
  here = live_below_lem t Instance i live

  was : SoundInstance t i
  was = h.instances i here

  was_headed : SoundHeader t (header_at t i)
  was_headed = was.headed (live_not_free t Instance i live)

  now_header : header_at changed i ≡ h'
  unfolding changed
  now_header = written_header t i k v h' here hk h.long

  now_rest : Rest t changed Instance i
  unfolding changed
  now_rest = written_rest t i k v h' here hk h.long

  now_lasts : Lasts t changed i
  now_lasts = record { live = rw (now_header, header_is_live h' (alike.header was_headed.header)); type = rw now_header alike.types }

  now_sound : (j : ℕ) → j < values → (j ≡ k) ⊎ (j ≡ k → ⊥) → sound_value t (attribute_of (type_at t i) j) (flagged h' j) (value_at changed i j) ≡ true
  unfolding changed
  now_sound j l (inl e) = rw (e, written_value t i k v h' here hk h.long) good
  now_sound j l (inr e) = rw (flags j l e, written_others t i k v h' here hk h.long j e) (was.valued (live_not_free t Instance i live) j l)

  pub attribute_changed : SoundTable (written t i k v h')
  unfolding changed
  attribute_changed =
      instance_edited t changed i h now_rest
      (record {
        empty = λ e. clash _ e (live_not_free changed Instance i now_lasts.live);
        headed = λ e. rw now_header (headed_stays t changed (header_at t i) h' alike (instance_same_model t changed i h now_rest (model_at t i) 0) was_headed);
        valued = λ e j l.
            rw (now_header, alike.types)
            (value_stays t changed (attribute_of (type_at t i) j) (flagged h' j) (value_at changed i j)
            (all_last t changed i h now_rest (λ e. now_lasts) (value_at changed i j)) (now_sound j l (same_or_not j k)));
      })
      (λ e. now_lasts)

module _ (t : List ℕ) (i k : ℕ) (h : SoundTable t) (live : is_live t Instance i ≡ true) (hk : k < values) where
  -- an attribute is put
  pub put_attribute : (v : ℕ) → sound_value t (attribute_of (type_at t i) k) true v ≡ true → SoundTable (with_value t i k v)
  put_attribute v good =
      attribute_changed t i k v (with_flag (header_at t i) k) h live hk (alike_with (header_at t i) k hk)
      (λ j l apart. flagged_with (header_at t i) k j hk l ∙ ap (λ (b : Bool). b || flagged (header_at t i) j) (ne_eqb j k apart))
      (rw (flagged_with (header_at t i) k k hk hk, eq-eqb k k refl) good)

  -- an attribute is unset
  pub unset_attribute : SoundTable (without_value t i k)
  unset_attribute =
      attribute_changed t i k 0 (without_flag (header_at t i) k) h live hk (alike_without (header_at t i) k hk)
      (λ j l apart. flagged_without (header_at t i) k j hk l ∙ ap (λ (b : Bool). not b && flagged (header_at t i) j) (ne_eqb j k apart))
      (rw (flagged_without (header_at t i) k k hk hk, eq-eqb k k refl) (unset_sound t (attribute_of (type_at t i) k)))
