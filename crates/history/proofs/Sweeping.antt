-- A sweep leaves alone every attribute that does not refer to what goes.
use Prim.Native.Nat.{ℕ, zero, suc, ◌+◌, ◌≤◌, ◌<◌}
use Rattle.std.specs.Prelude.{◌≡◌, Bool, true, false, cond, ◌⊎◌, List, length}
use Rattle.std.proofs.Math.Path.{refl}
use Rattle.std.proofs.Common.{ap, sym, ◌∙◌, inl, inr, arith, ne_eqb}
use Rattle.words.specs.declared.layout.Kind.TheVariants.{Instance}
use Rattle.words.specs.Layout.{words, count_of}
use Rattle.words.specs.Fields.{values, flagged, without_flag}
use Rattle.words.specs.Entries.{word_of, without_entry}
use Rattle.words.specs.Laws.Fields.{flagged_without}
use Rattle.tables.specs.View.{header_at}
use Rattle.tables.specs.Edits.{without_value}
use Rattle.tables.specs.Deletions.{refers, detached, swept}
use Rattle.logic.specs.Laws.Bools.{clash}
use Rattle.promises.specs.Keeps.Frame.{same_or_not}
use Rattle.promises.specs.Keeps.Edited.{entry_rest}
use Rattle.promises.specs.Keeps.Written.{written_header, written_others}
use Rattle.promises.specs.Keeps.Swept.{Same, Detached, detaches, Sweep, sweeps}

same_then : (e e' e'' : ℕ → ℕ) (k : ℕ) → Same e e' k → Same e' e'' k → Same e e'' k
same_then e e' e'' k a b = record { flag = b.flag ∙ a.flag; value = b.value ∙ a.value }

same_words : (e e' : ℕ → ℕ) (k : ℕ) → ((j : ℕ) → e' j ≡ e j) → Same e e' k
same_words e e' k p = record { flag = ap (λ (x : ℕ). flagged x k) (p 0); value = p (1 + k) }

module _ (goes : ℕ → Bool) (i : ℕ) (here : i < count_of Instance) (t : List ℕ) (long : words ≤ length t) where
  -- one attribute more is looked at
  keeps_more : (before : List ℕ) (n k : ℕ) → n < values → k < values → Detached goes i here t before n
      → refers t goes i k ≡ false → Same (word_of t Instance i) (word_of before Instance i) k
      → (b : Bool) → refers before goes i n ≡ b → Same (word_of t Instance i) (word_of (cond b (without_value before i n) before) Instance i) k
  keeps_more before n k hn hk d none w false e = w
  keeps_more before n k hn hk d none w true e = by_cases (same_or_not k n)
    where
      long_before : words ≤ length before
      long_before = omega (arith, d.rest.long)

      as_before : refers before goes i n ≡ refers t goes i n
      as_before = rw (d.rid.alike.types, (d.rid.later n (omega arith) hn).flag, (d.rid.later n (omega arith) hn).value)

      by_cases : (k ≡ n) ⊎ (k ≡ n → ⊥) → Same (word_of t Instance i) (word_of (without_value before i n) Instance i) k
      by_cases (inl p) = clash (refers t goes i n) (sym as_before ∙ e) (rw p at none)
      by_cases (inr p) =
          same_then _ _ _ k w
          (record {
            flag = rw (written_header before i n 0 (without_flag (header_at before i) n) here hn long_before, flagged_without (header_at before i) n k hn hk, ne_eqb k n p);
            value = written_others before i n 0 (without_flag (header_at before i) n) here hn long_before k p;
          })

  pub detached_keeps : (n : ℕ) → n ≤ values → (k : ℕ) → k < values → refers t goes i k ≡ false
      → Same (word_of t Instance i) (word_of (detached t goes i n) Instance i) k
  unfolding detached
  detached_keeps zero hn k hk none = record { flag = refl; value = refl }
  detached_keeps (suc n) hn k hk none =
      keeps_more (detached t goes i n) n k hn hk (detaches goes i here t n (omega arith) long) none
      (detached_keeps n (omega arith) k hk none) (refers (detached t goes i n) goes i n) refl

module _ (goes : ℕ → Bool) (t : List ℕ) (long : words ≤ length t) where
  -- one instance more is swept
  swept_more : (before : List ℕ) (n : ℕ) → n < count_of Instance → Sweep goes n t before → (j : ℕ) → j < suc n → goes j ≡ false
      → (k : ℕ) → k < values → refers t goes j k ≡ false → (j < n → Same (word_of t Instance j) (word_of before Instance j) k)
      → (b : Bool) → goes n ≡ b → Same (word_of t Instance j) (word_of (cond b (without_entry before Instance n) (detached before goes n values)) Instance j) k
  swept_more before n hn w j l stay k hk none earlier b g = by_cases (same_or_not j n) b g
    where
      long_before : words ≤ length before
      long_before = omega (arith, w.long)

      as_before : (i : ℕ) → word_of before Instance n i ≡ word_of t Instance n i
      as_before i = w.others Instance n i (λ e l. omega arith)

      by_cases : (j ≡ n) ⊎ (j ≡ n → ⊥) → (b : Bool) → goes n ≡ b
          → Same (word_of t Instance j) (word_of (cond b (without_entry before Instance n) (detached before goes n values)) Instance j) k
      by_cases (inl p) true g = clash (goes n) g (rw p at stay)
      by_cases (inl p) false g =
          rw p
          (same_then _ _ _ k (same_words _ _ k as_before)
          (detached_keeps goes n hn before long_before values (omega arith) k hk (rw (as_before 0, as_before (1 + k)) (rw p at none))))
      by_cases (inr p) true g =
          same_then _ _ _ k (earlier (omega arith)) (same_words _ _ k (λ i. (entry_rest before Instance n _).others Instance j i (λ e q. p (sym q))))
      by_cases (inr p) false g =
          let d : Detached goes n hn before (detached before goes n values) values = detaches goes n hn before values (omega arith) long_before in
          same_then _ _ _ k (earlier (omega arith)) (same_words _ _ k (λ i. d.rest.others Instance j i (λ e q. p (sym q))))

  pub swept_keeps : (n : ℕ) → n ≤ count_of Instance → (j : ℕ) → j < n → goes j ≡ false → (k : ℕ) → k < values → refers t goes j k ≡ false
      → Same (word_of t Instance j) (word_of (swept t goes n) Instance j) k
  unfolding swept
  swept_keeps zero hn j l stay k hk none = absurd (omega arith)
  swept_keeps (suc n) hn j l stay k hk none =
      swept_more (swept t goes n) n hn (sweeps goes t n (omega arith) long) j l stay k hk none
      (λ m. swept_keeps n (omega arith) j m stay k hk none) (goes n) refl
