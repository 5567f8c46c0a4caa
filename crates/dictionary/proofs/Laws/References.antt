-- The reference of a type: there is one at most.
use Rattle.std.specs.Prelude.{◌≡◌, refl, Bool, true, false, not, ◌||◌, ◌⊎◌, ℕ, ◌<◌, eqb, ltb, None}
use Rattle.std.proofs.Common.{sym, ◌∙◌, ap, ⊎_elim, arith, eqb-true, lt-ltb, ltb-true, ltb-false}
use Rattle.std.proofs.lemmas.Bool.{false≢true}
use Rattle.logic.specs.Search.{all_b}
use Rattle.logic.specs.Laws.Search.{all_at}
use Rattle.logic.specs.Laws.Bools.{decided}
use Rattle.logic.specs.Laws.Decides.{either, equal}
use Rattle.dictionary.specs.Dictionary.{is_type, is_reference, attribute_of, the_table}
use Rattle.dictionary.specs.Laws.Types.{of_type}
use Rattle.dictionary.proofs.Laws.Attributes.{attributes_few, attribute_lacking, no_type_attribute}
use Rattle.dictionary.specs.Quick.References.{no_reference, reference_of, mask_below, targets_of}

-- what is said of a number that is no type

pub no_type_reference : (t : ℕ) → is_type t ≡ false → reference_of t ≡ no_reference
unfolding reference_of
no_type_reference t i = rw (no_type_attribute t 0 i, no_type_attribute t 1 i, no_type_attribute t 2 i)

pub no_type_targets : (t : ℕ) → is_type t ≡ false → targets_of t ≡ 0
unfolding mask_below targets_of the_table
no_type_targets t i = rw (no_type_attribute t (reference_of t) i)

-- one computed test of every type: the attribute k is a reference only if it is the one
only_one : (t : ℕ) → is_type t ≡ true → all_b 3 (λ k. not (is_reference (attribute_of t k)) || eqb k (reference_of t)) ≡ true
unfolding all_b reference_of the_table
only_one t i = of_type (λ t. all_b 3 (λ k. not (is_reference (attribute_of t k)) || eqb k (reference_of t))) refl t i

reference_there : (t k : ℕ) → is_reference (attribute_of t k) ≡ true → attribute_of t k ≡ None → ⊥
reference_there t k e z = false≢true (sym (ap is_reference z) ∙ e)

-- no type has two references
pub reference_only : (t k : ℕ) → is_reference (attribute_of t k) ≡ true → k ≡ reference_of t
reference_only t k e =
    ⊎_elim (λ i. eqb-true k (reference_of t) (by_cases (is_reference (attribute_of t k)) (eqb k (reference_of t)) e (all_at 3 _ (only_one t i) k few)))
    (λ i. absurd (reference_there t k e (no_type_attribute t k i)))
    (decided (is_type t))
  where
    by_cases : (x y : Bool) → x ≡ true → (not x || y) ≡ true → y ≡ true
    by_cases true y p q = q
    by_cases false y p q = absurd (false≢true p)

    few : k < 3
    few =
        ⊎_elim (λ h. ltb-true k 3 h)
        (λ h. absurd (reference_there t k e (attribute_lacking t k (omega (arith, attributes_few t, ltb-false k 3 h)))))
        (decided (ltb k 3))

-- a type's other attributes are no references
pub reference_other : (t k : ℕ) → (k ≡ reference_of t → ⊥) → is_reference (attribute_of t k) ≡ false
reference_other t k n = ⊎_elim (λ e. absurd (n (reference_only t k e))) (λ e. e) (decided (is_reference (attribute_of t k)))

-- the one is a reference, unless there is none
pub reference_is : (t : ℕ) → reference_of t < no_reference → is_reference (attribute_of t (reference_of t)) ≡ true
unfolding all_b reference_of the_table
reference_is t h =
    ⊎_elim (λ i. by_cases (of_type (λ t. not (ltb (reference_of t) no_reference) || is_reference (attribute_of t (reference_of t))) refl t i))
    (λ i. absurd (above h (no_type_reference t i)))
    (decided (is_type t))
  where
    above : reference_of t < no_reference → reference_of t ≡ no_reference → ⊥
    above p q = omega arith

    by_cases : (not (ltb (reference_of t) no_reference) || is_reference (attribute_of t (reference_of t))) ≡ true → is_reference (attribute_of t (reference_of t)) ≡ true
    by_cases q = rw (lt-ltb (reference_of t) no_reference h) at q

-- a reference is the second attribute or the third
pub reference_among : (t : ℕ) → (reference_of t ≡ 1) ⊎ ((reference_of t ≡ 2) ⊎ (reference_of t ≡ no_reference))
unfolding all_b reference_of the_table
reference_among t = (either (eqb (reference_of t) 1) _ (equal (reference_of t) 1)
    (either (eqb (reference_of t) 2) _ (equal (reference_of t) 2) (equal (reference_of t) no_reference))).holds
    (⊎_elim (λ i. of_type (λ t. eqb (reference_of t) 1 || (eqb (reference_of t) 2 || eqb (reference_of t) no_reference)) refl t i)
    (λ i. rw (no_type_reference t i))
    (decided (is_type t)))
