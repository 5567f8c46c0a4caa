-- An attribute put or unset.
use Rattle.std.specs.Prelude.{ℕ, ◌+◌, ◌≤◌, ◌<◌, ◌≡◌, Bool, true, false, not, ◌&&◌, ◌||◌, ◌⊎◌, List, eqb, Option, None, Some}
use Rattle.std.proofs.Math.Path.{refl}
use Rattle.std.proofs.Common.{ap, sym, ◌∙◌, inl, inr, arith, eq-eqb, ne_eqb, le-ltb}
use Rattle.std.proofs.Math.Decide.{dec_lt}
use Rattle.tables.specs.Laws.Sound.{live_below_lem}
use Rattle.words.specs.declared.layout.Kind.{Kind}
use Rattle.words.specs.declared.layout.Kind.TheVariants.{Model, SchemaInstance, Instance}
use Rattle.words.specs.Layout.{count_of}
use Rattle.words.specs.Fields.{values, is_free, flagged, with_flag, without_flag}
use Rattle.words.specs.Entries.{word_of}
use Rattle.words.specs.Laws.Layout.{kinds_apart}
use Rattle.logic.specs.Laws.Bools.{and_left, and_ended, clash}
use Rattle.words.specs.Laws.Fields.{Alike, header_is_live, alike_with, alike_without, flagged_with, flagged_without}
use Rattle.dictionary.specs.declared.answers.Attribute.{Attribute}
use Rattle.dictionary.specs.declared.answers.Attribute.TheVariants.{Whole, Reference}
use Rattle.dictionary.specs.Dictionary.{is_reference, attribute_of}
use Rattle.tables.specs.View.{is_live, header_at, type_at}
use Rattle.tables.specs.Sound.{sound_value}
use Rattle.tables.specs.declared.changes.Change.{Change}
use Rattle.tables.specs.declared.changes.Change.TheVariants.{Put, Unset}
use Rattle.tables.specs.Changes.{apply}
use Rattle.promises.specs.Keeps.Facts.{SoundTable}
use Rattle.promises.specs.Keeps.Frame.{same_or_not, live_not_free}
use Rattle.promises.specs.Keeps.Edited.{Rest}
use Rattle.promises.specs.Keeps.Written.{written, written_header, written_value, written_others, written_rest}
use Rattle.history.proofs.Saying.{names, parted_by, undone_by}
use Rattle.history.proofs.Told.{shown, shown_type, EntryAfter, MemberAfter, ValueAfter, same, put, unset, After, shape, not_made, not_joined, not_put, entry_kept, member_kept, value_kept}

-- a number that is no attribute's has no flag
pub no_flag_past : (h j : ℕ) → values ≤ j → flagged h j ≡ false
no_flag_past h j l = rw (le-ltb j values l)

-- a sound reference that is set names a live instance
pub reference_live : (t : List ℕ) (x : Option Attribute) (v : ℕ) → is_reference x ≡ true → sound_value t x true v ≡ true → is_live t Instance v ≡ true
reference_live t None v r h = clash _ r refl
reference_live t (Some Whole) v r h = clash _ r refl
reference_live t (Some (Reference u)) v r h = and_left (is_live t Instance v) _ h

-- ---- one attribute of an instance changed

module _ (t : List ℕ) (h : SoundTable t) (i k : ℕ) (live : is_live t Instance i ≡ true) (hk : k < values) (v h' : ℕ)
    (alike : Alike (header_at t i) h') (flags : (j : ℕ) → j < values → (j ≡ k → ⊥) → flagged h' j ≡ flagged (header_at t i) j) where
  here : i < count_of Instance
  here = live_below_lem t Instance i live

  rest : Rest t (written t i k v h') Instance i
  rest = written_rest t i k v h' here hk h.long

  header : header_at (written t i k v h') i ≡ h'
  header = written_header t i k v h' here hk h.long

  changed_entry : (c : Change) → eqb (shape c) 0 ≡ false → ((kind : Kind) (n first : ℕ) → names c kind n first ≡ false)
      → (kind : Kind) (n : ℕ) → EntryAfter c (word_of t) (word_of (written t i k v h')) kind n
  changed_entry c p none Model n = entry_kept c _ _ Model n (rest.others Model n 0 (λ e q. kinds_apart e refl)) (λ first. not_made c p) (λ q. none Model n _)
  changed_entry c p none SchemaInstance n =
      entry_kept c _ _ SchemaInstance n (rest.others SchemaInstance n 0 (λ e q. kinds_apart e refl)) (λ first. not_made c p) (λ q. none SchemaInstance n _)
  changed_entry c p none Instance n = by_cases (same_or_not i n)
    where
      live_now : is_free h' ≡ is_free (header_at t i)
      live_now =
          let was : is_free (header_at t i) ≡ false = live_not_free t Instance i live in
          header_is_live h' (alike.header ((h.instances i here).headed was).header) ∙ sym was

      by_cases : (i ≡ n) ⊎ (i ≡ n → ⊥) → EntryAfter c (word_of t) (word_of (written t i k v h')) Instance n
      by_cases (inl e) = rw (← e) (same (rw header live_now) (rw (header, alike.types, alike.models)) (λ first. not_made c p) (λ q. none Instance i _))
      by_cases (inr e) = entry_kept c _ _ Instance n (rest.others Instance n 0 (λ a b. e b)) (λ first. not_made c p) (λ q. none Instance n _)

  changed_member : (c : Change) → eqb (shape c) 2 ≡ false → ((s m : ℕ) → parted_by s m c ≡ false) → (s m : ℕ) → MemberAfter c (word_of t) (word_of (written t i k v h')) s m
  changed_member c p none s m = member_kept c _ _ s m (rest.others SchemaInstance s 1 (λ e q. kinds_apart e refl)) (not_joined c p) (λ q. none s m)

  all_flags : (j : ℕ) → (j ≡ k → ⊥) → flagged h' j ≡ flagged (header_at t i) j
  all_flags j apart = by_cases (dec_lt j values)
    where
      by_cases : Dec (j < values) → flagged h' j ≡ flagged (header_at t i) j
      by_cases (yes l) = flags j l apart
      by_cases (no l) = no_flag_past h' j (omega arith) ∙ sym (no_flag_past (header_at t i) j (omega arith))

  -- the other attributes
  others_kept : (c : Change) (n j : ℕ) → (i ≡ n → k ≡ j → ⊥) → ((u : ℕ) → c ≡ Put n j u → ⊥)
      → ((a b u : ℕ) → undone_by n j u a b c ≡ false) → ValueAfter c (word_of t) (word_of (written t i k v h')) n j
  others_kept c n j apart none keeps = by_cases (same_or_not i n)
    where
      by_cases : (i ≡ n) ⊎ (i ≡ n → ⊥) → ValueAfter c (word_of t) (word_of (written t i k v h')) n j
      by_cases (inl e) =
          let other : j ≡ k → ⊥ = λ q. apart e (sym q) in
          rw (← e)
          (same (rw header (all_flags j other)) (written_others t i k v h' here hk h.long j other) (rw (← e) at none) (λ a b q. rw (← e) at (keeps a b (word_of t Instance i (1 + j)))))
      by_cases (inr e) = value_kept c _ _ n j (λ l. rest.others Instance n l (λ a b. e b)) none (λ a b q. keeps a b _)

-- ---- put

module _ (t : List ℕ) (h : SoundTable t) (i k : ℕ) (live : is_live t Instance i ≡ true) (hk : k < values) where
  flags_with : (j : ℕ) → j < values → (j ≡ k → ⊥) → flagged (with_flag (header_at t i) k) j ≡ flagged (header_at t i) j
  flags_with j l apart = flagged_with (header_at t i) k j hk l ∙ ap (λ (b : Bool). b || flagged (header_at t i) j) (ne_eqb j k apart)

  flags_without : (j : ℕ) → j < values → (j ≡ k → ⊥) → flagged (without_flag (header_at t i) k) j ≡ flagged (header_at t i) j
  flags_without j l apart = flagged_without (header_at t i) k j hk l ∙ ap (λ (b : Bool). not b && flagged (header_at t i) j) (ne_eqb j k apart)

  apart_test : (n j : ℕ) → (i ≡ n → k ≡ j → ⊥) → (eqb i n && eqb k j) ≡ false
  apart_test n j apart = by_cases (same_or_not i n)
    where
      by_cases : (i ≡ n) ⊎ (i ≡ n → ⊥) → (eqb i n && eqb k j) ≡ false
      by_cases (inl e) = and_ended (eqb i n) (eqb k j) (ne_eqb k j (apart e))
      by_cases (inr e) = rw (ne_eqb i n e)

  same_attribute : (n j : ℕ) → ((i ≡ n) × (k ≡ j)) ⊎ (i ≡ n → k ≡ j → ⊥)
  same_attribute n j = by_cases (same_or_not i n) (same_or_not k j)
    where
      by_cases : (i ≡ n) ⊎ (i ≡ n → ⊥) → (k ≡ j) ⊎ (k ≡ j → ⊥) → ((i ≡ n) × (k ≡ j)) ⊎ (i ≡ n → k ≡ j → ⊥)
      by_cases (inl p) (inl q) = inl (p, q)
      by_cases (inl p) (inr q) = inr (λ a b. q b)
      by_cases (inr p) q = inr (λ a b. p a)

  module _ (v : ℕ) (good : sound_value t (attribute_of (type_at t i) k) true v ≡ true) where
    put_here : ValueAfter (Put i k v) (word_of t) (word_of (written t i k v (with_flag (header_at t i) k))) i k
    put_here =
        put v (shown Instance (header_at t i)) (shown Instance (header_at t v)) refl
        (record {
          set = rw (written_header t i k v (with_flag (header_at t i) k) (live_below_lem t Instance i live) hk h.long, flagged_with (header_at t i) k k hk hk, eq-eqb k k refl);
          value = written_value t i k v (with_flag (header_at t i) k) (live_below_lem t Instance i live) hk h.long;
        })
        (record { live = live_not_free t Instance i live; shows = refl })
        (λ q. record { live = live_not_free t Instance v (reference_live t (attribute_of (type_at t i) k) v (rw (shown_type (header_at t i)) at q) good); shows = refl })

    put_value : (n j : ℕ) → ValueAfter (Put i k v) (word_of t) (word_of (written t i k v (with_flag (header_at t i) k))) n j
    put_value n j = by_cases (same_attribute n j)
      where
        by_cases : ((i ≡ n) × (k ≡ j)) ⊎ (i ≡ n → k ≡ j → ⊥) → ValueAfter (Put i k v) (word_of t) (word_of (written t i k v (with_flag (header_at t i) k))) n j
        by_cases (inl p) = rw (← p.0, ← p.1) put_here
        by_cases (inr apart) =
            others_kept t h i k live hk v (with_flag (header_at t i) k) (alike_with (header_at t i) k hk) flags_with (Put i k v) n j apart
            (λ u e. apart (cc (e)) (cc (e))) (λ a b u. apart_test n j apart)

    pub put_after : After (Put i k v) (word_of t) (word_of (apply (Put i k v) t))
    unfolding apply
    put_after = record {
      entries = changed_entry t h i k live hk v (with_flag (header_at t i) k) (alike_with (header_at t i) k hk) flags_with (Put i k v) refl (λ kind n first. refl);
      members = changed_member t h i k live hk v (with_flag (header_at t i) k) (alike_with (header_at t i) k hk) flags_with (Put i k v) refl (λ s m. refl);
      attributes = put_value;
    }

  -- ---- unset

  unset_value : (n j : ℕ) → ValueAfter (Unset i k) (word_of t) (word_of (written t i k 0 (without_flag (header_at t i) k))) n j
  unset_value n j = by_cases (same_attribute n j)
    where
      by_cases : ((i ≡ n) × (k ≡ j)) ⊎ (i ≡ n → k ≡ j → ⊥) → ValueAfter (Unset i k) (word_of t) (word_of (written t i k 0 (without_flag (header_at t i) k))) n j
      by_cases (inl p) =
          rw (← p.0, ← p.1)
          (unset (rw (written_header t i k 0 (without_flag (header_at t i) k) (live_below_lem t Instance i live) hk h.long, flagged_without (header_at t i) k k hk hk, eq-eqb k k refl))
          (λ u. not_put (Unset i k) refl) (λ a b q. rw (eq-eqb i i refl, eq-eqb k k refl)))
      by_cases (inr apart) =
          others_kept t h i k live hk 0 (without_flag (header_at t i) k) (alike_without (header_at t i) k hk) flags_without (Unset i k) n j apart
          (λ u. not_put (Unset i k) refl) (λ a b u. apart_test n j apart)

  pub unset_after : After (Unset i k) (word_of t) (word_of (apply (Unset i k) t))
  unfolding apply
  unset_after = record {
    entries = changed_entry t h i k live hk 0 (without_flag (header_at t i) k) (alike_without (header_at t i) k hk) flags_without (Unset i k) refl (λ kind n first. refl);
    members = changed_member t h i k live hk 0 (without_flag (header_at t i) k) (alike_without (header_at t i) k hk) flags_without (Unset i k) refl (λ s m. refl);
    attributes = unset_value;
  }
