-- Instances gone, with the references to them: an instance deleted.
use Rattle.std.specs.Prelude.{ℕ, ◌+◌, ◌<◌, ◌≡◌, Bool, true, false, ◌&&◌, ◌||◌, ◌⊎◌, List, eqb, ltb}
use Rattle.std.proofs.Math.Path.{refl}
use Rattle.std.proofs.Common.{ap, sym, ◌∙◌, inl, inr, arith, eq-eqb, ne_eqb, eqb-true}
use Rattle.std.proofs.Math.Bool.{or-false}
use Rattle.std.proofs.Math.Decide.{dec_lt}
use Rattle.tables.specs.Laws.Sound.{live_below_lem}
use Rattle.words.specs.declared.layout.Kind.{Kind}
use Rattle.words.specs.declared.layout.Kind.TheVariants.{Model, SchemaInstance, Instance}
use Rattle.words.specs.Layout.{count_of, index_of}
use Rattle.words.specs.Sets.{none, has}
use Rattle.words.specs.Fields.{type_in, values, is_free, flagged}
use Rattle.words.specs.Entries.{word_of}
use Rattle.words.specs.Laws.Layout.{kinds_apart}
use Rattle.logic.specs.Laws.Bools.{and_left, and_right, and_both, and_ended, or_right, clash}
use Rattle.words.specs.Laws.Sets.{has_none}
use Rattle.words.specs.Laws.Fields.{header_is_live}
use Rattle.dictionary.specs.Dictionary.{is_reference, attribute_of}
use Rattle.tables.specs.View.{is_live, header_at, type_at, value_at, is_set}
use Rattle.tables.specs.declared.changes.Change.{Change}
use Rattle.tables.specs.declared.changes.Change.TheVariants.{Gone}
use Rattle.tables.specs.Deletions.{goes_with, refers, swept}
use Rattle.tables.specs.Changes.{apply}
use Rattle.promises.specs.Keeps.Facts.{SoundTable}
use Rattle.promises.specs.Keeps.Frame.{same_or_not, not_free_live}
use Rattle.promises.specs.Keeps.Swept.{Same, Unset, Rid, Sweep, sweeps}
use Rattle.history.proofs.Saying.{names, refers_by, undone_by}
use Rattle.history.proofs.Told.{Words, shown, shown_type, EntryAfter, gone, ValueAfter, same, unset, Holding, After, shape}
use Rattle.history.proofs.Told.{not_made, not_joined, not_put, entry_kept, member_kept, value_kept}
use Rattle.history.proofs.Attributes.{no_flag_past}
use Rattle.history.proofs.Sweeping.{swept_keeps}

pub eqb_turned : (a b : ℕ) → eqb a b ≡ eqb b a
eqb_turned a b = by_cases (same_or_not a b)
  where
    by_cases : (a ≡ b) ⊎ (a ≡ b → ⊥) → eqb a b ≡ eqb b a
    by_cases (inl e) = eq-eqb a b e ∙ sym (eq-eqb b a (sym e))
    by_cases (inr e) = ne_eqb a b e ∙ sym (ne_eqb b a (λ q. e (sym q)))

pub no_flag_free : (k : ℕ) → flagged 0 k ≡ false
no_flag_free k = and_ended (ltb k values) (has none (16 + k)) (has_none (16 + k))

middle : (a b c : Bool) → (a && b && c) ≡ false → b ≡ true → (a && c) ≡ false
middle true b c h e = rw e at h
middle false b c h e = refl

-- those that go by a change, and what the history says of it
module _ (c : Change) (t : List ℕ) (h : SoundTable t) (goes : ℕ → Bool) (e' : Words)
    (words_are : (i k : ℕ) → e' Instance i k ≡ word_of (swept t goes (count_of Instance)) Instance i k)
    (unmade : eqb (shape c) 0 ≡ false) (no_put : eqb (shape c) 4 ≡ false)
    (named : (n : ℕ) → is_live t Instance n ≡ true → names c Instance n (shown Instance (header_at t n)) ≡ goes n)
    (undone : (i k header target : ℕ) → Holding (word_of t) i k header target → undone_by i k (value_at t i k) header target c ≡ (goes i || (refers_by header k && goes (value_at t i k)))) where
  w : Sweep goes (count_of Instance) t (swept t goes (count_of Instance))
  w = sweeps goes t (count_of Instance) (omega arith) h.long

  -- an instance that stays is live as it was, and shows the same
  module _ (n : ℕ) (l : n < count_of Instance) (g : goes n ≡ false) where
    rid : Rid goes values (word_of t Instance n) (word_of (swept t goes (count_of Instance)) Instance n)
    rid = w.stays n l g

    live_still : (b : Bool) → is_free (header_at t n) ≡ b → is_free (word_of (swept t goes (count_of Instance)) Instance n 0) ≡ b
    live_still true f = eq-eqb _ _ (rid.empty (eqb-true _ _ f))
    live_still false f = header_is_live _ (rid.alike.header ((h.instances n l).headed f).header)

    shows_still : shown Instance (word_of (swept t goes (count_of Instance)) Instance n 0) ≡ shown Instance (header_at t n)
    shows_still = rw (rid.alike.types, rid.alike.models)

  pub swept_entry : (n : ℕ) → EntryAfter c (word_of t) e' Instance n
  swept_entry n = by_cases (dec_lt n (count_of Instance)) (goes n) refl
    where
      by_cases : Dec (n < count_of Instance) → (b : Bool) → goes n ≡ b → EntryAfter c (word_of t) e' Instance n
      by_cases (yes l) true g =
          gone (ap is_free (words_are n 0 ∙ w.gone n l g 0 (omega arith))) (λ first. not_made c unmade) (λ f. named n (not_free_live t Instance n f) ∙ g)
      by_cases (yes l) false g =
          same (ap is_free (words_are n 0) ∙ live_still n l g (is_free (header_at t n)) refl) (ap (shown Instance) (words_are n 0) ∙ shows_still n l g)
          (λ first. not_made c unmade) (λ f. named n (not_free_live t Instance n f) ∙ g)
      by_cases (no l) b g =
          entry_kept c _ _ Instance n (words_are n 0 ∙ w.others Instance n 0 (λ e m. l m)) (λ first. not_made c unmade)
          (λ f. absurd (l (live_below_lem t Instance n (not_free_live t Instance n f))))

  module _ (i k : ℕ) where
    refers_by_lem : (header target : ℕ) → Holding (word_of t) i k header target → refers_by header k ≡ is_reference (attribute_of (type_at t i) k)
    refers_by_lem header target q = ap (λ (x : ℕ). is_reference (attribute_of x k)) (ap type_in (sym q.own.shows) ∙ shown_type (header_at t i))

    -- an attribute of an instance that stays
    staying_value : (l : i < count_of Instance) → goes i ≡ false → k < values → (b : Bool) → refers t goes i k ≡ b → ValueAfter c (word_of t) e' i k
    staying_value l g hk true r =
        unset (ap (λ (x : ℕ). flagged x k) (words_are i 0) ∙ by_cases ((w.stays i l g).earlier k hk hk)) (λ v. not_put c no_put)
        (λ a b q. undone i k a b q ∙ or_right (goes i) _ (and_both (refers_by a k) (goes (value_at t i k)) (refers_by_lem a b q ∙ referring) reaching))
      where
        referring : is_reference (attribute_of (type_at t i) k) ≡ true
        referring = and_left (is_reference (attribute_of (type_at t i) k)) (is_set t i k) (and_left (is_reference (attribute_of (type_at t i) k) && is_set t i k) (goes (value_at t i k)) r)

        reaching : goes (value_at t i k) ≡ true
        reaching = and_right (is_reference (attribute_of (type_at t i) k) && is_set t i k) (goes (value_at t i k)) r

        by_cases : ((refers t goes i k ≡ false) × Same (word_of t Instance i) (word_of (swept t goes (count_of Instance)) Instance i) k) ⊎ Unset (word_of (swept t goes (count_of Instance)) Instance i) k
            → flagged (word_of (swept t goes (count_of Instance)) Instance i 0) k ≡ false
        by_cases (inl p) = clash _ r p.0
        by_cases (inr u) = u.flag
    staying_value l g hk false r =
        let s : Same (word_of t Instance i) (word_of (swept t goes (count_of Instance)) Instance i) k = swept_keeps goes t h.long (count_of Instance) (omega arith) i l g k hk r in
        same (ap (λ (x : ℕ). flagged x k) (words_are i 0) ∙ s.flag) (words_are i (1 + k) ∙ s.value) (λ v. not_put c no_put)
        (λ a b q. undone i k a b q ∙ rw (g, refers_by_lem a b q) (middle (is_reference (attribute_of (type_at t i) k)) (is_set t i k) (goes (value_at t i k)) r q.set))

    pub swept_value : ValueAfter c (word_of t) e' i k
    swept_value = by_cases (dec_lt i (count_of Instance)) (dec_lt k values) (goes i) refl
      where
        by_cases : Dec (i < count_of Instance) → Dec (k < values) → (b : Bool) → goes i ≡ b → ValueAfter c (word_of t) e' i k
        by_cases (no l) m b g =
            value_kept c _ _ i k (λ j. words_are i j ∙ w.others Instance i j (λ e m. l m)) (λ v. not_put c no_put)
            (λ x y q. absurd (l (live_below_lem t Instance i (not_free_live t Instance i q.own.live))))
        by_cases (yes l) m true g =
            unset (rw (words_are i 0, w.gone i l g 0 (omega arith)) (no_flag_free k)) (λ v. not_put c no_put) (λ a b q. undone i k a b q ∙ rw g)
        by_cases (yes l) (no m) false g =
            unset (no_flag_past _ k (omega arith)) (λ v. not_put c no_put) (λ a b q. clash _ q.set (no_flag_past _ k (omega arith)))
        by_cases (yes l) (yes m) false g = staying_value l g m (refers t goes i k) refl

-- ---- an instance deleted

module _ (t : List ℕ) (h : SoundTable t) (j : ℕ) where
  named_deleted : (n : ℕ) → is_live t Instance n ≡ true → names (Gone Instance j) Instance n (shown Instance (header_at t n)) ≡ goes_with t Instance j n
  named_deleted n live = or-false (eqb j n) ∙ eqb_turned j n

  undone_deleted : (i k header target : ℕ) → Holding (word_of t) i k header target
      → undone_by i k (value_at t i k) header target (Gone Instance j) ≡ (goes_with t Instance j i || (refers_by header k && goes_with t Instance j (value_at t i k)))
  undone_deleted i k header target q = rw (or-false (eqb j i), or-false (eqb j (value_at t i k)), eqb_turned j i, eqb_turned j (value_at t i k))

  others_stay : (kind : Kind) (n k : ℕ) → eqb (index_of Instance) (index_of kind) ≡ false
      → word_of (swept t (goes_with t Instance j) (count_of Instance)) kind n k ≡ word_of t kind n k
  others_stay kind n k apart = (sweeps (goes_with t Instance j) t (count_of Instance) (omega arith) h.long).others kind n k (λ e l. kinds_apart e apart)

  deleted_entry : (kind : Kind) (n : ℕ) → EntryAfter (Gone Instance j) (word_of t) (word_of (swept t (goes_with t Instance j) (count_of Instance))) kind n
  deleted_entry Model n = entry_kept _ _ _ Model n (others_stay Model n 0 refl) (λ first. not_made (Gone Instance j) refl) (λ q. refl)
  deleted_entry SchemaInstance n = entry_kept _ _ _ SchemaInstance n (others_stay SchemaInstance n 0 refl) (λ first. not_made (Gone Instance j) refl) (λ q. refl)
  deleted_entry Instance n = swept_entry (Gone Instance j) t h (goes_with t Instance j) _ (λ i k. refl) refl refl named_deleted undone_deleted n

  pub deleted_after : After (Gone Instance j) (word_of t) (word_of (apply (Gone Instance j) t))
  unfolding apply
  deleted_after = record {
    entries = deleted_entry;
    members = λ s m. member_kept _ _ _ s m (others_stay SchemaInstance s 1 refl) (not_joined (Gone Instance j) refl) (λ q. refl);
    attributes = λ i k. swept_value (Gone Instance j) t h (goes_with t Instance j) _ (λ a b. refl) refl refl named_deleted undone_deleted i k;
  }
