-- What holds of a type's attributes. Each fact about the whole table is one computed test, which `of_type`, `of_attribute` or
-- `of_reference` carries to each type and attribute.
use Rattle.std.specs.Prelude.{◌≡◌, refl, Bool, true, false, List, [], ◌∷◌, ◌++◌, ℕ, zero, suc, ◌<◌, ◌≤◌, leb, eqb, ltb, length, Option, None, Some, slice_get}
use Rattle.std.proofs.Common.{sym, ◌∙◌, ap, ⊎_elim, not-suc-le-zero, le_of_suc-le-suc, arith, leb-true, leb-false, eqb-true, ltb-true, ltb-false}
use Rattle.std.proofs.lemmas.Bool.{false≢true}
use Rattle.std.proofs.lemmas.Option.{none-some, slice_get-get_or, slice_get_past, slice_get_within, get_or_from_slice_get}
use Rattle.dictionary.specs.declared.answers.Attribute.{Attribute}
use Rattle.dictionary.specs.declared.answers.Attribute.TheVariants.{Whole, Reference}
use Rattle.logic.specs.Search.{all_b, all_in}
use Rattle.logic.specs.Laws.Search.{within}
use Rattle.logic.specs.Laws.Bools.{decided}
use Rattle.dictionary.specs.Dictionary.{lacks, types, is_type, parent_of, schema_of, own_of, above, attributes_of, attribute_of, the_table}
use Rattle.dictionary.specs.Laws.Types.{no_type_parent, no_type_own, of_type, climb_step}

-- what is inherited stands first
pub attributes_step : (t : ℕ) → attributes_of t ≡ above [] attributes_of (parent_of t) ++ own_of t
unfolding attributes_of
attributes_step t = climb_step [] _ t

pub no_type_attributes : (t : ℕ) → is_type t ≡ false → attributes_of t ≡ []
no_type_attributes t i = attributes_step t ∙ rw (no_type_parent t i, no_type_own t i)

-- a computed test of every type's attributes, carried to each
of_attribute : (f : ℕ → Attribute → Bool) → all_b types (λ t. all_in (f t) (attributes_of t)) ≡ true
    → (t k : ℕ) (x : Attribute) → attribute_of t k ≡ Some x → f t x ≡ true
unfolding attribute_of
of_attribute f e t k x w =
    ⊎_elim
    (λ i. rw (get_or_from_slice_get (attributes_of t) k x x w) at
    (within (f t) (attributes_of t) x (of_type (λ t. all_in (f t) (attributes_of t)) e t i) k (slice_get_within (attributes_of t) k x w)))
    (λ i. absurd (none-some x (rw (no_type_attributes t i) at w)))
    (decided (is_type t))

-- what f says of the type that a reference leads to
abbrev pub refers : (ℕ → Bool) → Attribute → Bool
refers f Whole = true
refers f (Reference u) = f u

pub lacking : (x : Option Attribute) → lacks x ≡ true → x ≡ None
lacking None e = refl
lacking (Some x) e = absurd (false≢true e)

-- an attribute is lacking exactly if its number is not below the count
pub attribute_there : (t k : ℕ) → k < length (attributes_of t) → attribute_of t k ≡ None → ⊥
unfolding attribute_of
attribute_there t k h z = none-some _ (sym z ∙ slice_get-get_or (attributes_of t) k Whole h)

pub attribute_lacking : (t k : ℕ) → length (attributes_of t) ≤ k → attribute_of t k ≡ None
unfolding attribute_of
attribute_lacking t k h = slice_get_past (attributes_of t) k h

pub no_type_attribute : (t k : ℕ) → is_type t ≡ false → attribute_of t k ≡ None
no_type_attribute t k i =
    let e : length (attributes_of t) ≡ 0 = rw (no_type_attributes t i) in
    attribute_lacking t k (omega arith)

pub attribute_count : (t k : ℕ) → (attribute_of t k ≡ None → ⊥) → k < length (attributes_of t)
attribute_count t k n =
    ⊎_elim (λ e. ltb-true k (length (attributes_of t)) e)
    (λ e. absurd (n (attribute_lacking t k (ltb-false k (length (attributes_of t)) e))))
    (decided (ltb k (length (attributes_of t))))

pub attribute_lacks : (t k : ℕ) → lacks (attribute_of t k) ≡ leb (length (attributes_of t)) k
attribute_lacks t k =
    ⊎_elim (λ e. rw (attribute_lacking t k (leb-true (length (attributes_of t)) k e), e))
    (λ e. rw e (not_lacking (attribute_of t k) (attribute_there t k (leb-false (length (attributes_of t)) k e))))
    (decided (leb (length (attributes_of t)) k))
  where
    not_lacking : (x : Option Attribute) → (x ≡ None → ⊥) → lacks x ≡ false
    not_lacking None n = absurd (n refl)
    not_lacking (Some x) n = refl

-- four value words are enough
pub attributes_few : (t : ℕ) → length (attributes_of t) ≤ 3
unfolding all_b the_table
attributes_few t =
    ⊎_elim (λ i. leb-true (length (attributes_of t)) 3 (of_type (λ t. leb (length (attributes_of t)) 3) refl t i))
    (λ i. rw (no_type_attributes t i) (omega arith))
    (decided (is_type t))

-- what a reference leads to

of_reference : (f : ℕ → ℕ → Bool) → all_b types (λ t. all_in (refers (f t)) (attributes_of t)) ≡ true
    → (t k u : ℕ) → attribute_of t k ≡ Some (Reference u) → f t u ≡ true
of_reference f e t k u w = of_attribute (λ t. refers (f t)) e t k (Reference u) w

pub reference_type : (t k u : ℕ) → attribute_of t k ≡ Some (Reference u) → is_type u ≡ true
unfolding all_b all_in the_table
reference_type t k u w = of_reference (λ t u. is_type u) refl t k u w

pub reference_schema : (t k u : ℕ) → attribute_of t k ≡ Some (Reference u) → schema_of u ≡ schema_of t
unfolding all_b all_in the_table
reference_schema t k u w =
    eqb-true (schema_of u) (schema_of t) (of_reference (λ t u. eqb (schema_of u) (schema_of t)) refl t k u w)

get_front : (xs ys : List Attribute) (k : ℕ) → k < length xs → slice_get (xs ++ ys) k ≡ slice_get xs k
get_front [] ys k h = absurd (not-suc-le-zero h)
get_front (x ∷ xs) ys zero h = refl
get_front (x ∷ xs) ys (suc k) h = get_front xs ys k (le_of_suc-le-suc h)

-- a parent's attributes stand first
pub attribute_inherited : (t p k : ℕ) → parent_of t ≡ Some p → k < length (attributes_of p)
    → attribute_of t k ≡ attribute_of p k
unfolding attribute_of
attribute_inherited t p k w h =
    let e : attributes_of t ≡ attributes_of p ++ own_of t = rw w at (attributes_step t) in
    ap (λ (l : List Attribute). slice_get l k) e ∙ get_front (attributes_of p) (own_of t) k h
