-- An entry made.
use Rattle.std.specs.Prelude.{ℕ, ◌<◌, ◌≡◌, refl, true, false, ◌⊎◌, List}
use Rattle.std.proofs.Common.{ap, ◌∙◌, inl, inr, arith, eq-eqb, ne_eqb}
use Rattle.words.specs.declared.layout.Kind.{Kind}
use Rattle.words.specs.declared.layout.Kind.TheVariants.{Model, SchemaInstance, Instance}
use Rattle.words.specs.Layout.{count_of}
use Rattle.words.specs.Fields.{is_free, flagged}
use Rattle.words.specs.Entries.{word_of, free_at, with_entry}
use Rattle.words.specs.Laws.Layout.{kinds_apart, same_kind}
use Rattle.words.specs.Laws.Sets.{has_none}
use Rattle.words.specs.Laws.Entries.{made_first, made_zeros, made_other}
use Rattle.tables.specs.declared.changes.Change.TheVariants.{Made}
use Rattle.tables.specs.Changes.{apply}
use Rattle.promises.specs.Keeps.Facts.{SoundTable}
use Rattle.promises.specs.Keeps.Frame.{same_or_not}
use Rattle.history.proofs.Told.{shown, EntryAfter, made, MemberAfter, parted, ValueAfter, unset, After, not_joined, not_put, entry_kept, member_kept, value_kept}

pub same_entry_lem : (kind kind' : Kind) (n n' : ℕ) → ((kind ≡ kind') × (n ≡ n')) ⊎ (kind ≡ kind' → n ≡ n' → ⊥)
same_entry_lem kind kind' n n' = by_cases (same_kind kind kind') (same_or_not n n')
  where
    by_cases : (kind ≡ kind') ⊎ (kind ≡ kind' → ⊥) → (n ≡ n') ⊎ (n ≡ n' → ⊥) → ((kind ≡ kind') × (n ≡ n')) ⊎ (kind ≡ kind' → n ≡ n' → ⊥)
    by_cases (inl p) (inl q) = inl (p, q)
    by_cases (inl p) (inr q) = inr (λ a b. q b)
    by_cases (inr p) q = inr (λ a b. p a)

module _ (t : List ℕ) (h : SoundTable t) where
  made_entry : (kind : Kind) (n w : ℕ) → n < count_of kind → free_at t kind n ≡ true → is_free w ≡ false → shown kind w ≡ w
      → (kind' : Kind) (n' : ℕ) → EntryAfter (Made kind n w) (word_of t) (word_of (with_entry t kind n w)) kind' n'
  made_entry kind n w l free live shows kind' n' = by_cases (same_entry_lem kind kind' n n')
    where
      new : word_of (with_entry t kind n w) kind n 0 ≡ w
      new = made_first t kind n w l h.long

      by_cases : ((kind ≡ kind') × (n ≡ n')) ⊎ (kind ≡ kind' → n ≡ n' → ⊥) → EntryAfter (Made kind n w) (word_of t) (word_of (with_entry t kind n w)) kind' n'
      by_cases (inl p) = rw (← p.0, ← p.1) (made w refl (record { live = ap is_free new ∙ live; shows = ap (shown kind) new ∙ shows }) free)
      by_cases (inr apart) =
          entry_kept _ _ _ kind' n' (made_other t kind n _ kind' n' 0 apart)
          (λ first q. apart (cc (q)) (cc (q)))
          (λ q. refl)

  made_member : (kind : Kind) (n w : ℕ) → n < count_of kind → (s m : ℕ) → MemberAfter (Made kind n w) (word_of t) (word_of (with_entry t kind n w)) s m
  made_member Model n w l s m =
      member_kept _ _ _ s m (made_other t Model n _ SchemaInstance s 1 (λ e p. kinds_apart e refl)) (not_joined (Made Model n w) refl) (λ q. refl)
  made_member SchemaInstance n w l s m = by_cases (same_or_not n s)
    where
      by_cases : (n ≡ s) ⊎ (n ≡ s → ⊥) → MemberAfter (Made SchemaInstance n w) (word_of t) (word_of (with_entry t SchemaInstance n w)) s m
      by_cases (inl p) =
          rw (← p)
          (parted (rw (made_zeros t SchemaInstance n w 1 (omega arith) (omega arith) l h.long) (has_none m))
          (not_joined (Made SchemaInstance n w) refl) (λ q. eq-eqb n n refl))
      by_cases (inr p) =
          member_kept _ _ _ s m (made_other t SchemaInstance n _ SchemaInstance s 1 (λ e q. p q)) (not_joined (Made SchemaInstance n w) refl)
          (λ q. ne_eqb n s p)
  made_member Instance n w l s m =
      member_kept _ _ _ s m (made_other t Instance n _ SchemaInstance s 1 (λ e p. kinds_apart e refl)) (not_joined (Made Instance n w) refl) (λ q. refl)

  made_value : (kind : Kind) (n w : ℕ) → n < count_of kind → (kind ≡ Instance → (k : ℕ) → flagged w k ≡ false)
      → (i k : ℕ) → ValueAfter (Made kind n w) (word_of t) (word_of (with_entry t kind n w)) i k
  made_value Model n w l bare i k =
      value_kept _ _ _ i k (λ j. made_other t Model n _ Instance i j (λ e p. kinds_apart e refl)) (λ v. not_put (Made Model n w) refl) (λ a b q. refl)
  made_value SchemaInstance n w l bare i k =
      value_kept _ _ _ i k (λ j. made_other t SchemaInstance n _ Instance i j (λ e p. kinds_apart e refl)) (λ v. not_put (Made SchemaInstance n w) refl) (λ a b q. refl)
  made_value Instance n w l bare i k = by_cases (same_or_not n i)
    where
      by_cases : (n ≡ i) ⊎ (n ≡ i → ⊥) → ValueAfter (Made Instance n w) (word_of t) (word_of (with_entry t Instance n w)) i k
      by_cases (inl p) =
          rw (← p)
          (unset (rw (made_first t Instance n w l h.long) (bare refl k))
          (λ v. not_put (Made Instance n w) refl) (λ a b q. eq-eqb n n refl))
      by_cases (inr p) =
          value_kept _ _ _ i k (λ j. made_other t Instance n _ Instance i j (λ e q. p q)) (λ v. not_put (Made Instance n w) refl)
          (λ a b q. ne_eqb n i p)

  pub made_after : (kind : Kind) (n w : ℕ) → n < count_of kind → free_at t kind n ≡ true → is_free w ≡ false → shown kind w ≡ w
      → (kind ≡ Instance → (k : ℕ) → flagged w k ≡ false) → After (Made kind n w) (word_of t) (word_of (apply (Made kind n w) t))
  unfolding apply
  made_after kind n w l free live shows bare = record {
    entries = made_entry kind n w l free live shows;
    members = made_member kind n w l;
    attributes = made_value kind n w l bare;
  }
