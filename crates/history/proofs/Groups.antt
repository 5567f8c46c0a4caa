-- A schema instance dissolved, and a model that joins or leaves its set.
use Rattle.std.specs.Prelude.{ℕ, ◌<◌, ◌≡◌, refl, ◌⊎◌, List, eqb}
use Rattle.std.proofs.Common.{ap, sym, ◌∙◌, inl, inr, arith, eq-eqb, ne_eqb}
use Rattle.std.proofs.Math.Bool.{and-false, or-false}
use Rattle.words.specs.declared.layout.Kind.{Kind}
use Rattle.words.specs.declared.layout.Kind.TheVariants.{Model, SchemaInstance, Instance}
use Rattle.words.specs.Layout.{count_of}
use Rattle.words.specs.Sets.{bits, insert, remove}
use Rattle.words.specs.Fields.{is_free}
use Rattle.words.specs.Entries.{word_of, without_entry}
use Rattle.logic.specs.Laws.Bools.{and_ended}
use Rattle.words.specs.Laws.Sets.{has_none, has_insert, has_remove}
use Rattle.words.specs.Laws.Layout.{kinds_apart}
use Rattle.words.specs.Laws.Entries.{word_same, word_other, entry_first, entry_zeros, entry_other}
use Rattle.tables.specs.View.{set_at}
use Rattle.tables.specs.declared.changes.Change.TheVariants.{Gone, Joined, Left}
use Rattle.tables.specs.Edits.{with_set}
use Rattle.tables.specs.Changes.{apply}
use Rattle.promises.specs.Keeps.Facts.{SoundTable}
use Rattle.promises.specs.Keeps.Frame.{same_or_not}
use Rattle.history.proofs.Saying.{refers_by}
use Rattle.history.proofs.Told.{EntryAfter, gone, MemberAfter, same, joined, parted, After, not_made, not_joined, not_put, entry_kept, member_kept, value_kept}

module _ (t : List ℕ) (h : SoundTable t) (s : ℕ) (l : s < count_of SchemaInstance) where
  -- ---- dissolved

  dissolved_entry : (kind : Kind) (n : ℕ) → EntryAfter (Gone SchemaInstance s) (word_of t) (word_of (without_entry t SchemaInstance s)) kind n
  dissolved_entry Model n =
      entry_kept _ _ _ Model n (entry_other t SchemaInstance s _ Model n 0 (λ e p. kinds_apart e refl)) (λ first. not_made (Gone SchemaInstance s) refl) (λ q. refl)
  dissolved_entry SchemaInstance n = by_cases (same_or_not s n)
    where
      by_cases : (s ≡ n) ⊎ (s ≡ n → ⊥) → EntryAfter (Gone SchemaInstance s) (word_of t) (word_of (without_entry t SchemaInstance s)) SchemaInstance n
      by_cases (inl p) =
          rw (← p)
          (gone (ap is_free (entry_first t SchemaInstance s 0 l h.long))
          (λ first. not_made (Gone SchemaInstance s) refl) (λ q. eq-eqb s s refl))
      by_cases (inr p) =
          entry_kept _ _ _ SchemaInstance n (entry_other t SchemaInstance s _ SchemaInstance n 0 (λ e q. p q)) (λ first. not_made (Gone SchemaInstance s) refl)
          (λ q. ne_eqb s n p)
  dissolved_entry Instance n =
      entry_kept _ _ _ Instance n (entry_other t SchemaInstance s _ Instance n 0 (λ e p. kinds_apart e refl)) (λ first. not_made (Gone SchemaInstance s) refl) (λ q. refl)

  dissolved_member : (n m : ℕ) → MemberAfter (Gone SchemaInstance s) (word_of t) (word_of (without_entry t SchemaInstance s)) n m
  dissolved_member n m = by_cases (same_or_not s n)
    where
      by_cases : (s ≡ n) ⊎ (s ≡ n → ⊥) → MemberAfter (Gone SchemaInstance s) (word_of t) (word_of (without_entry t SchemaInstance s)) n m
      by_cases (inl p) =
          rw (← p)
          (parted (rw (entry_zeros t SchemaInstance s 0 1 (omega arith) l h.long (λ z. absurd (omega arith))) (has_none m))
          (not_joined (Gone SchemaInstance s) refl) (λ q. or-false (eqb s s) ∙ eq-eqb s s refl))
      by_cases (inr p) =
          member_kept _ _ _ n m (entry_other t SchemaInstance s _ SchemaInstance n 1 (λ e q. p q)) (not_joined (Gone SchemaInstance s) refl) (λ q. or-false (eqb s n) ∙ ne_eqb s n p)

  pub dissolved_after : After (Gone SchemaInstance s) (word_of t) (word_of (apply (Gone SchemaInstance s) t))
  unfolding apply
  dissolved_after = record {
    entries = dissolved_entry;
    members = dissolved_member;
    attributes = λ i k.
        value_kept _ _ _ i k (λ j. entry_other t SchemaInstance s _ Instance i j (λ e p. kinds_apart e refl))
        (λ v. not_put (Gone SchemaInstance s) refl) (λ a b q. and-false (refers_by a k));
  }

  -- ---- a set changed

  module _ (set : ℕ) where
    set_first : (kind : Kind) (n : ℕ) → word_of (with_set t s set) kind n 0 ≡ word_of t kind n 0
    set_first kind n = word_other t SchemaInstance s 1 set kind n 0 (λ q. omega (arith, q.places))

    set_instance : (i k : ℕ) → word_of (with_set t s set) Instance i k ≡ word_of t Instance i k
    set_instance i k = word_other t SchemaInstance s 1 set Instance i k (λ q. kinds_apart q.kinds refl)

    set_here : set_at (with_set t s set) s ≡ set
    set_here = word_same t SchemaInstance s 1 set l (omega arith) h.long

    set_there : (n : ℕ) → (s ≡ n → ⊥) → set_at (with_set t s set) n ≡ set_at t n
    set_there n p = word_other t SchemaInstance s 1 set SchemaInstance n 1 (λ q. p q.numbers)

  -- ---- joined

  joined_member : (m : ℕ) → m < bits → (n j : ℕ) → MemberAfter (Joined s m) (word_of t) (word_of (with_set t s (insert (set_at t s) m))) n j
  joined_member m hm n j = by_cases (same_or_not s n) (same_or_not m j)
    where
      by_cases : (s ≡ n) ⊎ (s ≡ n → ⊥) → (m ≡ j) ⊎ (m ≡ j → ⊥) → MemberAfter (Joined s m) (word_of t) (word_of (with_set t s (insert (set_at t s) m))) n j
      by_cases (inl p) (inl q) =
          rw (← p, ← q) (joined refl (rw (set_here (insert (set_at t s) m), has_insert (set_at t s) m m hm, eq-eqb m m refl)))
      by_cases (inl p) (inr q) =
          rw (← p)
          (same (rw (set_here (insert (set_at t s) m), has_insert (set_at t s) m j hm, ne_eqb j m (λ e. q (sym e)))) (λ e. q (cc (e))) (λ e. refl))
      by_cases (inr p) q = member_kept _ _ _ n j (set_there (insert (set_at t s) m) n p) (λ e. p (cc (e))) (λ e. refl)

  pub joined_after : (m : ℕ) → m < bits → After (Joined s m) (word_of t) (word_of (apply (Joined s m) t))
  unfolding apply
  joined_after m hm = record {
    entries = λ kind n. entry_kept _ _ _ kind n (set_first _ kind n) (λ first. not_made (Joined s m) refl) (λ q. refl);
    members = joined_member m hm;
    attributes = λ i k. value_kept _ _ _ i k (set_instance _ i) (λ v. not_put (Joined s m) refl) (λ a b q. refl);
  }

  -- ---- left

  left_member : (m n j : ℕ) → MemberAfter (Left s m) (word_of t) (word_of (with_set t s (remove (set_at t s) m))) n j
  left_member m n j = by_cases (same_or_not s n) (same_or_not m j)
    where
      by_cases : (s ≡ n) ⊎ (s ≡ n → ⊥) → (m ≡ j) ⊎ (m ≡ j → ⊥) → MemberAfter (Left s m) (word_of t) (word_of (with_set t s (remove (set_at t s) m))) n j
      by_cases (inl p) (inl q) =
          rw (← p, ← q)
          (parted (rw (set_here (remove (set_at t s) m), has_remove (set_at t s) m m, eq-eqb m m refl)) (not_joined (Left s m) refl)
          (λ e. rw (eq-eqb s s refl, eq-eqb m m refl)))
      by_cases (inl p) (inr q) =
          rw (← p)
          (same (rw (set_here (remove (set_at t s) m), has_remove (set_at t s) m j, ne_eqb j m (λ e. q (sym e)))) (not_joined (Left s m) refl)
          (λ e. and_ended (eqb s s) (eqb m j) (ne_eqb m j q)))
      by_cases (inr p) q = member_kept _ _ _ n j (set_there (remove (set_at t s) m) n p) (not_joined (Left s m) refl) (λ e. rw (ne_eqb s n p))

  pub left_after : (m : ℕ) → After (Left s m) (word_of t) (word_of (apply (Left s m) t))
  unfolding apply
  left_after m = record {
    entries = λ kind n. entry_kept _ _ _ kind n (set_first _ kind n) (λ first. not_made (Left s m) refl) (λ q. refl);
    members = left_member m;
    attributes = λ i k. value_kept _ _ _ i k (set_instance _ i) (λ v. not_put (Left s m) refl) (λ a b q. refl);
  }
