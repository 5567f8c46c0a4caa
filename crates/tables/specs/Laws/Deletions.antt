-- Deletions: what does not hold one back, and which references become unset.
use Rattle.std.specs.Prelude.{◌≡◌, ◌⊎◌, Bool, true, Some, None, not, ◌&&◌}
use Rattle.std.proofs.Math.Path.{refl, sym, ap}
use Rattle.std.proofs.Common.{◌∙◌, ⊎_elim, inl, inr, eq-or-lt_of_le, le_of_suc-le-suc, arith}
use Rattle.std.proofs.Math.Bool.{false, cond, and-false}
use mathlib.Core.List.{List}
use Prim.Native.Nat.{ℕ, zero, suc, ◌+◌, ◌<◌}
use Rattle.std.proofs.Math.Decide.{ℕ_discrete}
use Rattle.words.specs.declared.layout.Kind.TheVariants.{Instance}
use Rattle.words.specs.Sets.{has}
use Rattle.words.specs.Fields.{type_in, values, without_flag}
use Rattle.words.specs.Entries.{with_word}
use Rattle.logic.specs.Laws.Bools.{and_ended}
use Rattle.logic.specs.Laws.Search.{none_from, any_only}
use Rattle.words.specs.Laws.Fields.{alike_without}
use Rattle.words.specs.Laws.Entries.{word_written, word_other}
use Rattle.dictionary.specs.Quick.References.{reference_of}
use Rattle.tables.specs.View.{is_live, header_at, type_at, model_at, value_at}
use Rattle.tables.specs.Edits.{without_value}
use Rattle.tables.specs.Deletions.{refers, holds_back, detached}
use Rattle.tables.specs.Quick.Pointers.{pointer_in}
use Rattle.tables.specs.Laws.Pointers.{Pointer, pointing_live, refers_other, the_pointer, no_pointer}

-- ---- what does not hold one back, and what is left to ask of what may

module _ (t : List ℕ) (gone : ℕ → Bool) (access i : ℕ) where
  pub bare_holds : pointer_in (header_at t i) ≡ None → holds_back t gone access i ≡ false
  bare_holds e = rw (none_from values (refers t gone i) (λ k l. no_pointer t gone i e k), and-false)

  pub free_holds : header_at t i ≡ 0 → holds_back t gone access i ≡ false
  free_holds e = rw e

  pub gone_holds : gone i ≡ true → holds_back t gone access i ≡ false
  gone_holds e = rw (e, and_ended (is_live t Instance i) false refl)

  pub open_holds : has access (model_at t i) ≡ true → holds_back t gone access i ≡ false
  open_holds e = rw (e, and_ended (is_live t Instance i && not (gone i)) false refl)

  pub holds_told : (p : ℕ) → pointer_in (header_at t i) ≡ Some p → gone i ≡ false → has access (model_at t i) ≡ false → holds_back t gone access i ≡ gone (value_at t i p)
  holds_told p n e q =
      let w : Pointer t gone i p = the_pointer t gone i p n in
      rw (pointing_live (header_at t i) p n, e, q)
      (any_only values (refers t gone i) p w.below (λ k d. refers_other t gone i k (λ r. d (r ∙ sym w.reference))) ∙ w.asks)

-- ---- what becomes unset

-- unsetting an attribute leaves the type, in a table of any length
type_kept : (t : List ℕ) (i k : ℕ) → k < values → type_at (without_value t i k) i ≡ type_at t i
type_kept t i k l =
    ⊎_elim (λ e. ap type_in e ∙ (alike_without (header_at t i) k l).types) (λ e. ap (λ (s : List ℕ). type_at s i) e ∙ ap type_in first)
    (word_written (with_word t Instance i (1 + k) 0) Instance i 0 (without_flag (header_at t i) k))
  where
    first : header_at (with_word t Instance i (1 + k) 0) i ≡ header_at t i
    first = word_other t Instance i (1 + k) 0 Instance i 0 (λ s. omega (arith, s.places))

module _ (t : List ℕ) (gone : ℕ → Bool) (i : ℕ) where
  pub unchanged : (n : ℕ) → ((k : ℕ) → k < n → refers t gone i k ≡ false) → detached t gone i n ≡ t
  unfolding detached
  unchanged zero h = refl
  unchanged (suc n) h =
      ap (λ (s : List ℕ). cond (refers s gone i n) (without_value s i n) s) (unchanged n (λ k l. h k (omega arith)))
      ∙ ap (λ (b : Bool). cond b (without_value t i n) t) (h n (omega arith))

  -- of an instance with no set reference nothing becomes unset
  pub bare_stays : pointer_in (header_at t i) ≡ None → detached t gone i values ≡ t
  bare_stays e = unchanged values (λ k l. no_pointer t gone i e k)

  module _ (k : ℕ) (w : Pointer t gone i k) where
    other : (j : ℕ) → (j ≡ k → ⊥) → refers t gone i j ≡ false
    other j n = refers_other t gone i j (λ e. n (e ∙ sym w.reference))

    -- nor of one whose reference leads to an instance that stays
    pub pointer_stays : gone (value_at t i k) ≡ false → detached t gone i values ≡ t
    pointer_stays e = unchanged values (λ j l. by_cases j (ℕ_discrete j k))
      where
        by_cases : (j : ℕ) → Dec (j ≡ k) → refers t gone i j ≡ false
        by_cases j (yes q) = ap (refers t gone i) q ∙ w.asks ∙ e
        by_cases j (no n) = other j n

    after : gone (value_at t i k) ≡ true → (n : ℕ) → k < n → detached t gone i n ≡ without_value t i k
    unfolding detached
    after e zero l = absurd (omega arith)
    after e (suc n) l = by_cases (eq-or-lt_of_le (le_of_suc-le-suc l)) (λ m. after e n m)
      where
        past : k < n → refers (without_value t i k) gone i n ≡ false
        past m = refers_other (without_value t i k) gone i n (λ q. omega (arith, q ∙ ap reference_of (type_kept t i k w.below) ∙ sym w.reference))

        by_cases : (k ≡ n) ⊎ (k < n) → (k < n → detached t gone i n ≡ without_value t i k) → detached t gone i (suc n) ≡ without_value t i k
        by_cases (inl q) before =
            ap (λ (s : List ℕ). cond (refers s gone i n) (without_value s i n) s) (unchanged n (λ j m. other j (λ d. omega arith)))
            ∙ ap (λ (j : ℕ). cond (refers t gone i j) (without_value t i j) t) (sym q)
            ∙ ap (λ (b : Bool). cond b (without_value t i k) t) (w.asks ∙ e)
        by_cases (inr m) before =
            ap (λ (s : List ℕ). cond (refers s gone i n) (without_value s i n) s) (before m)
            ∙ ap (λ (b : Bool). cond b (without_value (without_value t i k) i n) (without_value t i k)) (past m)

    -- that reference, and nothing else, becomes unset
    pub pointer_goes : gone (value_at t i k) ≡ true → detached t gone i values ≡ without_value t i k
    pointer_goes e = after e values w.below
