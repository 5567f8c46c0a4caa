-- A model removed, with its instances, and out of all sets.
use Prim.Native.Nat.{ℕ, zero, suc, ◌≤◌, ◌<◌}
use Rattle.std.specs.Prelude.{◌≡◌, Bool, true, false, not, ◌&&◌, ◌||◌, ◌⊎◌, List, eqb, length}
use Rattle.std.proofs.Math.Path.{refl, ap}
use Rattle.std.proofs.Common.{sym, ◌∙◌, inl, inr, eq-or-lt_of_le, le_of_suc-le-suc, arith, eq-eqb, ne_eqb, le-ltb}
use Rattle.std.proofs.Math.Logic.{⊎_elim}
use Rattle.std.proofs.Math.Decide.{dec_lt}
use Rattle.words.specs.declared.layout.Kind.{Kind}
use Rattle.words.specs.declared.layout.Kind.TheVariants.{Model, SchemaInstance, Instance}
use Rattle.words.specs.Layout.{words, count_of}
use Rattle.words.specs.Sets.{has, remove}
use Rattle.words.specs.Fields.{model_in, is_free}
use Rattle.words.specs.Entries.{word_of, without_entry}
use Rattle.words.specs.Laws.Sets.{has_none, has_remove}
use Rattle.words.specs.Laws.Layout.{kinds_apart}
use Rattle.words.specs.Laws.Entries.{length_word, word_same, word_other, entry_first, entry_other}
use Rattle.tables.specs.View.{is_live, set_at, header_at, model_at, value_at}
use Rattle.tables.specs.declared.changes.Change.TheVariants.{Gone}
use Rattle.tables.specs.Deletions.{goes_with, swept, ungrouped}
use Rattle.tables.specs.Changes.{apply}
use Rattle.logic.specs.Laws.Bools.{clash}
use Rattle.promises.specs.Keeps.Facts.{SoundTable}
use Rattle.promises.specs.Keeps.Frame.{same_or_not}
use Rattle.promises.specs.Keeps.Swept.{Sweep, sweeps}
use Rattle.history.proofs.Saying.{names, refers_by, undone_by}
use Rattle.history.proofs.Told.{shown, shown_model, Entry, EntryAfter, gone, MemberAfter, parted, same, Holding, After, not_made, not_joined, entry_kept, member_kept}
use Rattle.history.proofs.Deleting.{eqb_turned, swept_entry, swept_value}

-- ---- a model leaves all sets

module _ (t : List ℕ) (m : ℕ) where
  ungrouped_long : (n : ℕ) → length (ungrouped t m n) ≡ length t
  unfolding ungrouped
  ungrouped_long zero = refl
  ungrouped_long (suc n) = length_word (ungrouped t m n) SchemaInstance n 1 _ ∙ ungrouped_long n

  ungrouped_others : (n : ℕ) (kind : Kind) (i k : ℕ) → (SchemaInstance ≡ kind → k ≡ 1 → ⊥) → word_of (ungrouped t m n) kind i k ≡ word_of t kind i k
  unfolding ungrouped
  ungrouped_others zero kind i k apart = refl
  ungrouped_others (suc n) kind i k apart =
      word_other (ungrouped t m n) SchemaInstance n 1 _ kind i k (λ s. apart s.kinds (sym s.places)) ∙ ungrouped_others n kind i k apart

  ungrouped_later : (n s : ℕ) → n ≤ s → set_at (ungrouped t m n) s ≡ set_at t s
  unfolding ungrouped
  ungrouped_later zero s l = refl
  ungrouped_later (suc n) s l = word_other (ungrouped t m n) SchemaInstance n 1 _ SchemaInstance s 1 (λ q. omega (arith, q.numbers)) ∙ ungrouped_later n s (omega arith)

  ungrouped_earlier : words ≤ length t → (n s : ℕ) → n ≤ count_of SchemaInstance → s < n → set_at (ungrouped t m n) s ≡ remove (set_at t s) m
  unfolding ungrouped
  ungrouped_earlier long zero s hn l = absurd (omega arith)
  ungrouped_earlier long (suc n) s hn l =
      ⊎_elim
      (λ e. rw e (word_same (ungrouped t m n) SchemaInstance n 1 _ hn (omega arith) (omega (arith, ungrouped_long n)) ∙ ap (λ (x : ℕ). remove x m) (ungrouped_later n n (omega arith))))
      (λ k. word_other (ungrouped t m n) SchemaInstance n 1 _ SchemaInstance s 1 (λ q. omega (arith, q.numbers)) ∙ ungrouped_earlier long n s (omega arith) k)
      (eq-or-lt_of_le (le_of_suc-le-suc l))

-- ---- removed

module _ (t : List ℕ) (h : SoundTable t) (m : ℕ) (here : m < count_of Model) where
  emptied : List ℕ
  emptied = swept t (goes_with t Model m) (count_of Instance)

  alone : List ℕ
  alone = ungrouped emptied m (count_of SchemaInstance)

  removed : List ℕ
  removed = without_entry alone Model m

  sweep : Sweep (goes_with t Model m) (count_of Instance) t emptied
  unfolding emptied
  sweep = sweeps (goes_with t Model m) t (count_of Instance) (omega arith) h.long

  long_alone : words ≤ length alone
  unfolding alone
  long_alone = omega (arith, ungrouped_long emptied m (count_of SchemaInstance), sweep.long, h.long)

  -- its words: instances as swept, models but this one and labels as they were
  removed_instance : (i k : ℕ) → word_of removed Instance i k ≡ word_of (swept t (goes_with t Model m) (count_of Instance)) Instance i k
  unfolding removed alone emptied
  removed_instance i k =
      entry_other alone Model m _ Instance i k (λ e p. kinds_apart e refl) ∙ ungrouped_others emptied m (count_of SchemaInstance) Instance i k (λ e p. kinds_apart e refl)

  removed_model : word_of removed Model m 0 ≡ 0
  unfolding removed
  removed_model = entry_first alone Model m 0 here long_alone

  other_model : (n : ℕ) → (m ≡ n → ⊥) → word_of removed Model n 0 ≡ word_of t Model n 0
  unfolding removed alone
  other_model n apart =
      entry_other alone Model m _ Model n 0 (λ e p. apart p)
      ∙ ungrouped_others emptied m (count_of SchemaInstance) Model n 0 (λ e p. kinds_apart e refl)
      ∙ sweep.others Model n 0 (λ e l. kinds_apart e refl)

  removed_label : (s : ℕ) → word_of removed SchemaInstance s 0 ≡ word_of t SchemaInstance s 0
  unfolding removed alone
  removed_label s =
      entry_other alone Model m _ SchemaInstance s 0 (λ e p. kinds_apart e refl)
      ∙ ungrouped_others emptied m (count_of SchemaInstance) SchemaInstance s 0 (λ e p. omega arith)
      ∙ sweep.others SchemaInstance s 0 (λ e l. kinds_apart e refl)

  removed_set : (s : ℕ) → s < count_of SchemaInstance → set_at removed s ≡ remove (set_at t s) m
  unfolding removed alone
  removed_set s l =
      entry_other alone Model m _ SchemaInstance s 1 (λ e p. kinds_apart e refl)
      ∙ ungrouped_earlier emptied m (omega (arith, sweep.long, h.long)) (count_of SchemaInstance) s (omega arith) l
      ∙ ap (λ (x : ℕ). remove x m) (sweep.others SchemaInstance s 1 (λ e l. kinds_apart e refl))

  set_past : (s : ℕ) → count_of SchemaInstance ≤ s → set_at removed s ≡ set_at t s
  unfolding removed alone
  set_past s l =
      entry_other alone Model m _ SchemaInstance s 1 (λ e p. kinds_apart e refl)
      ∙ ungrouped_later emptied m (count_of SchemaInstance) s l
      ∙ sweep.others SchemaInstance s 1 (λ e l. kinds_apart e refl)

  no_set : (s : ℕ) → count_of SchemaInstance ≤ s → set_at t s ≡ 0
  no_set s l = rw (le-ltb s (count_of SchemaInstance) l)

  -- what the history says of it
  its_model : (n header : ℕ) → Entry (word_of t) Instance n header → eqb m (model_in header) ≡ goes_with t Model m n
  its_model n header q =
      ap (λ (x : ℕ). eqb m (model_in x)) (sym q.shows) ∙ rw (shown_model (header_at t n), q.live) (eqb_turned m (model_at t n))

  named_removed : (n : ℕ) → is_live t Instance n ≡ true → names (Gone Model m) Instance n (shown Instance (header_at t n)) ≡ goes_with t Model m n
  named_removed n live = its_model n _ (record { live = live_told _ live; shows = refl })
    where
      live_told : (b : Bool) → not b ≡ true → b ≡ false
      live_told true p = sym p
      live_told false p = refl

  undone_removed : (i k header target : ℕ) → Holding (word_of t) i k header target
      → undone_by i k (value_at t i k) header target (Gone Model m) ≡ (goes_with t Model m i || (refers_by header k && goes_with t Model m (value_at t i k)))
  undone_removed i k header target q = rw (its_model i header q.own) (ap (λ (b : Bool). goes_with t Model m i || b) (by_cases (refers_by header k) refl))
    where
      by_cases : (b : Bool) → refers_by header k ≡ b → (b && eqb m (model_in target)) ≡ (b && goes_with t Model m (value_at t i k))
      by_cases true e = its_model (value_at t i k) target (q.named e)
      by_cases false e = refl

  removed_entry : (kind : Kind) (n : ℕ) → EntryAfter (Gone Model m) (word_of t) (word_of removed) kind n
  removed_entry Model n = by_cases (same_or_not m n)
    where
      by_cases : (m ≡ n) ⊎ (m ≡ n → ⊥) → EntryAfter (Gone Model m) (word_of t) (word_of removed) Model n
      by_cases (inl p) = rw (← p) (gone (ap is_free removed_model) (λ first. not_made (Gone Model m) refl) (λ q. eq-eqb m m refl))
      by_cases (inr p) = entry_kept _ _ _ Model n (other_model n p) (λ first. not_made (Gone Model m) refl) (λ q. ne_eqb m n p)
  removed_entry SchemaInstance n = entry_kept _ _ _ SchemaInstance n (removed_label n) (λ first. not_made (Gone Model m) refl) (λ q. refl)
  removed_entry Instance n = swept_entry (Gone Model m) t h (goes_with t Model m) (word_of removed) removed_instance refl refl named_removed undone_removed n

  removed_member : (s j : ℕ) → MemberAfter (Gone Model m) (word_of t) (word_of removed) s j
  removed_member s j = by_cases (dec_lt s (count_of SchemaInstance)) (same_or_not m j)
    where
      by_cases : Dec (s < count_of SchemaInstance) → (m ≡ j) ⊎ (m ≡ j → ⊥) → MemberAfter (Gone Model m) (word_of t) (word_of removed) s j
      by_cases (yes l) (inl p) =
          rw (← p) (parted (rw (removed_set s l, has_remove (set_at t s) m m, eq-eqb m m refl)) (not_joined (Gone Model m) refl) (λ q. eq-eqb m m refl))
      by_cases (yes l) (inr p) =
          same (rw (removed_set s l, has_remove (set_at t s) m j, ne_eqb j m (λ e. p (sym e)))) (not_joined (Gone Model m) refl) (λ q. ne_eqb m j p)
      by_cases (no l) q =
          let past : count_of SchemaInstance ≤ s = omega arith in
          member_kept _ _ _ s j (set_past s past) (not_joined (Gone Model m) refl) (λ e. clash _ e (ap (λ (x : ℕ). has x j) (no_set s past) ∙ has_none j))

  pub removed_after : After (Gone Model m) (word_of t) (word_of (apply (Gone Model m) t))
  unfolding apply removed alone emptied
  removed_after = record {
    entries = removed_entry;
    members = removed_member;
    attributes = λ i k. swept_value (Gone Model m) t h (goes_with t Model m) (word_of removed) removed_instance refl refl named_removed undone_removed i k;
  }
