-- The one attribute of an instance that may refer, and instances that have none.
use Rattle.std.specs.Prelude.{◌≡◌, refl, Bool, true, false, Some, None, cond, not, ◌⊎◌, List, ℕ, zero, suc, ◌*◌, ◌^◌, ◌<◌, eqb}
use Rattle.std.proofs.Common.{sym, ap, ◌∙◌, inl, inr, zero-mul, arith, pow_pos, ltb-true, ne_eqb}
use Rattle.std.proofs.lemmas.Bool.{false≢true}
use Rattle.std.proofs.Math.Decide.{ℕ_discrete}
use Rattle.std.specs.Int.Bits.{bit_and, and_zero_r}
use Rattle.words.specs.Sets.{bit_of, has}
use Rattle.words.specs.Fields.{values, type_in, flagged, is_free}
use Rattle.logic.specs.Laws.Bools.{and_left, and_ended}
use Rattle.words.specs.Laws.Sets.{and_bit}
use Rattle.dictionary.specs.Dictionary.{is_reference, attribute_of, the_table}
use Rattle.dictionary.specs.Quick.References.{no_reference, reference_of}
use Rattle.dictionary.specs.Quick.Shapes.{flag_of, shape_of, mark_in}
use Rattle.dictionary.proofs.Laws.References.{reference_other, reference_is, reference_among}
use Rattle.dictionary.proofs.Laws.Shapes.{mark_of_shape}
use Rattle.tables.specs.View.{header_at, type_at, is_set, value_at}
use Rattle.tables.specs.Deletions.{refers}
use Rattle.tables.specs.Quick.Pointers.{pointer_in, second}

-- an instance with a set reference is live
pub pointing_live : (h k : ℕ) → pointer_in h ≡ Some k → is_free h ≡ false
unfolding reference_of the_table
pointing_live h k n = ne_eqb h 0 (λ e. none (sym (ap pointer_in e) ∙ n))
  where
    none : pointer_in 0 ≡ Some k → ⊥
    none e = cc

-- ---- the mark tells whether the reference is set, and which attribute it is

-- the machine's test of one bit
and_flag : (h m : ℕ) → eqb (bit_and h (2 ^ m)) 0 ≡ not (has h m)
and_flag h m = rw (and_bit h m) (by_cases (bit_of h m) (omega arith))
  where
    by_cases : (b : ℕ) → b < 2 → eqb (b * 2 ^ m) 0 ≡ not (eqb b 1)
    by_cases zero l = rw (zero-mul (2 ^ m))
    by_cases (suc zero) l = ne_eqb (1 * 2 ^ m) 0 (λ e. omega (arith, pow_pos m))
    by_cases (suc (suc b)) l = absurd (omega arith)

module _ (type h : ℕ) where
  pub mark_set : eqb (bit_and h (mark_in (shape_of type))) 0 ≡ not (flagged h (reference_of type))
  mark_set = rw (mark_of_shape type) (by_cases (reference_of type) (reference_among type))
    where
      by_cases : (k : ℕ) → (k ≡ 1) ⊎ ((k ≡ 2) ⊎ (k ≡ no_reference)) → eqb (bit_and h (0x1_0000 * flag_of k)) 0 ≡ not (flagged h k)
      by_cases k (inl e) = rw e (and_flag h 17)
      by_cases k (inr (inl e)) = rw e (and_flag h 18)
      by_cases k (inr (inr e)) = rw (e, and_zero_r h)

  pub mark_which : flagged h (reference_of type) ≡ true → cond (eqb (mark_in (shape_of type)) second) 1 2 ≡ reference_of type
  mark_which set = rw (mark_of_shape type) (by_cases (reference_of type) (reference_among type) set)
    where
      by_cases : (k : ℕ) → (k ≡ 1) ⊎ ((k ≡ 2) ⊎ (k ≡ no_reference)) → flagged h k ≡ true → cond (eqb (0x1_0000 * flag_of k) second) 1 2 ≡ k
      by_cases k (inl e) f = rw e
      by_cases k (inr (inl e)) f = rw e
      by_cases k (inr (inr e)) f = absurd (false≢true (rw e at f))

pub pointer_by_mark : (h : ℕ)
    → cond (eqb (bit_and h (mark_in (shape_of (type_in h)))) 0) None (Some (cond (eqb (mark_in (shape_of (type_in h))) second) 1 2)) ≡ pointer_in h
pointer_by_mark h = rw (mark_set (type_in h) h) (by_cases (flagged h (reference_of (type_in h))) refl)
  where
    by_cases : (b : Bool) → flagged h (reference_of (type_in h)) ≡ b
        → cond (not b) None (Some (cond (eqb (mark_in (shape_of (type_in h))) second) 1 2)) ≡ cond b (Some (reference_of (type_in h))) None
    by_cases true e = ap Some (mark_which (type_in h) h e)
    by_cases false e = refl

-- ---- what refers

-- attribute k is the reference of instance i, and is set: what it names decides
pub record Pointer (t : List ℕ) (gone : ℕ → Bool) (i k : ℕ) : Type 0 where
  pub below : k < values
  pub reference : k ≡ reference_of (type_at t i)
  pub asks : refers t gone i k ≡ gone (value_at t i k)

module _ (t : List ℕ) (gone : ℕ → Bool) (i : ℕ) where
  -- no other attribute refers
  pub refers_other : (k : ℕ) → (k ≡ reference_of (type_at t i) → ⊥) → refers t gone i k ≡ false
  refers_other k n = rw (reference_other (type_at t i) k n)

  pub unset_refers : (k : ℕ) → is_set t i k ≡ false → refers t gone i k ≡ false
  unset_refers k e = rw (e, and_ended (is_reference (attribute_of (type_at t i) k)) false refl)

  the_reference : (b : Bool) → flagged (header_at t i) (reference_of (type_at t i)) ≡ b → (k : ℕ) → cond b (Some (reference_of (type_at t i))) None ≡ Some k
      → Pointer t gone i k
  the_reference false e k n = cc
  the_reference true e k n =
      let below : reference_of (type_at t i) < values = ltb-true _ _ (and_left _ _ e) in
      let same : k ≡ reference_of (type_at t i) = cc in
      rw same record { below = below; reference = refl; asks = rw (reference_is (type_at t i) below, e) }

  pub the_pointer : (k : ℕ) → pointer_in (header_at t i) ≡ Some k → Pointer t gone i k
  the_pointer k n = the_reference (flagged (header_at t i) (reference_of (type_at t i))) refl k n

  pub no_pointer : pointer_in (header_at t i) ≡ None → (k : ℕ) → refers t gone i k ≡ false
  no_pointer none k = by_cases (flagged (header_at t i) (reference_of (type_at t i))) refl none (ℕ_discrete k (reference_of (type_at t i)))
    where
      by_cases : (b : Bool) → flagged (header_at t i) (reference_of (type_at t i)) ≡ b → cond b (Some (reference_of (type_at t i))) None ≡ None → Dec (k ≡ reference_of (type_at t i)) → refers t gone i k ≡ false
      by_cases b e past (no n) = refers_other k n
      by_cases false e past (yes q) = unset_refers k (ap (flagged (header_at t i)) q ∙ e)
      by_cases true e past (yes q) = cc
