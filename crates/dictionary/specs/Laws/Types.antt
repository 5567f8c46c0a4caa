-- What holds of types, their parents and their schemas, and the step from a type to its parent. Each fact about the
-- whole table is one computed test, which `of_type`, `of_parent` or `of_pair` carries to each type or pair.
use Rattle.std.specs.Prelude.{◌≡◌, refl, Bool, true, false, cond, not, [], ℕ, zero, suc, ◌<◌, ◌≤◌, ltb, leb, eqb, length, Option, None, Some}
use Rattle.std.proofs.Common.{sym, ◌∙◌, ap, ⊎_elim, le_refl, lt_of_lt_of_le, le_of_suc-le-suc, not-suc-le-zero, arith, ltb-true, ltb-false, leb-true, eqb-true}
use Rattle.std.proofs.Math.ListN.{get_or-eq_default}
use Rattle.std.proofs.lemmas.Bool.{not-true}
use Rattle.logic.specs.Search.{all_b}
use Rattle.logic.specs.Laws.Search.{all_at}
use Rattle.logic.specs.Laws.Bools.{decided}
use Rattle.dictionary.specs.Dictionary.{Row, dictionary, blank, types, row_of, is_type, parent_of, schema_of, own_of, bytes_of, padded, name_of, above, climbing, climb, the_table}

-- a number that is no type

no_type_row : (t : ℕ) → is_type t ≡ false → row_of t ≡ blank
unfolding is_type types row_of
no_type_row t e = get_or-eq_default dictionary blank (ltb-false t (length dictionary) e)

pub no_type_parent : (t : ℕ) → is_type t ≡ false → parent_of t ≡ None
unfolding parent_of
no_type_parent t e = ap (λ (r : Row). r.parent) (no_type_row t e)

pub no_type_schema : (t : ℕ) → is_type t ≡ false → schema_of t ≡ 0
unfolding schema_of
no_type_schema t e = ap (λ (r : Row). r.schema) (no_type_row t e)

pub no_type_own : (t : ℕ) → is_type t ≡ false → own_of t ≡ []
unfolding own_of
no_type_own t e = ap (λ (r : Row). r.own) (no_type_row t e)

pub no_type_name : (t : ℕ) → is_type t ≡ false → name_of t ≡ padded []
unfolding name_of bytes_of
no_type_name t e = ap (λ (r : Row). padded (bytes_of r.name)) (no_type_row t e)

-- a computed test carried to each type, and to each type with a parent

pub of_type : (f : ℕ → Bool) → all_b types f ≡ true → (t : ℕ) → is_type t ≡ true → f t ≡ true
unfolding is_type
of_type f e t i = all_at types f e t (ltb-true t types i)

of_parent : (f : ℕ → ℕ → Bool) → all_b types (λ t. above true (f t) (parent_of t)) ≡ true
    → (t p : ℕ) → parent_of t ≡ Some p → f t p ≡ true
of_parent f e t p w =
    ⊎_elim (λ i. rw w at (of_type (λ t. above true (f t) (parent_of t)) e t i))
    (λ i. let z : None ≡ Some p = sym (no_type_parent t i) ∙ w in cc)
    (decided (is_type t))

-- a computed test that two tests are alike, carried to each type with each number below a bound

abbrev pub alike : Bool → Bool → Bool
alike x y = cond x y (not y)

pub told : (x y : Bool) → alike x y ≡ true → x ≡ y
told true y e = sym e
told false y e = sym (not-true y e)

pub of_pair : (n : ℕ) (f g : ℕ → ℕ → Bool) → all_b types (λ t. all_b n (λ x. alike (f t x) (g t x))) ≡ true
    → (t x : ℕ) → is_type t ≡ true → x < n → f t x ≡ g t x
of_pair n f g e t x i l =
    told (f t x) (g t x)
    (all_at n (λ x. alike (f t x) (g t x)) (of_type (λ t. all_b n (λ x. alike (f t x) (g t x))) e t i) x l)

-- a parent's number is lower, and it is a type of the same schema

pub parent_lower : (t p : ℕ) → parent_of t ≡ Some p → p < t
unfolding all_b the_table
parent_lower t p w = ltb-true p t (of_parent (λ t p. ltb p t) refl t p w)

pub child_type : (t p : ℕ) → parent_of t ≡ Some p → is_type t ≡ true
unfolding all_b the_table
child_type t p w = of_parent (λ t p. is_type t) refl t p w

pub parent_type : (t p : ℕ) → parent_of t ≡ Some p → is_type p ≡ true
unfolding all_b the_table
parent_type t p w = of_parent (λ t p. is_type p) refl t p w

pub parent_schema : (t p : ℕ) → parent_of t ≡ Some p → schema_of t ≡ schema_of p
unfolding all_b the_table
parent_schema t p w =
    eqb-true (schema_of t) (schema_of p) (of_parent (λ t p. eqb (schema_of t) (schema_of p)) refl t p w)

-- a type is of a schema
pub type_schema : (t : ℕ) → is_type t ≡ true → (1 ≤ schema_of t) × (schema_of t ≤ 2)
unfolding all_b the_table
type_schema t i = (
  leb-true 1 (schema_of t) (of_type (λ t. leb 1 (schema_of t)) refl t i),
  leb-true (schema_of t) 2 (of_type (λ t. leb (schema_of t) 2) refl t i),
)

-- the step from a type to its parent: the bound on the steps is enough

above_same : {A : Type 0} (e : A) (g h : ℕ → A) (x : Option ℕ) → ((p : ℕ) → x ≡ Some p → g p ≡ h p)
    → above e g x ≡ above e h x
above_same e g h None q = refl
above_same e g h (Some p) q = q p refl

-- more steps than the type's number change nothing
enough : {A : Type 0} (e : A) (f : ℕ → A → A) (n m t : ℕ) → t < n → t < m → climbing e f n t ≡ climbing e f m t
unfolding climbing
enough e f zero m t h k = absurd (not-suc-le-zero h)
enough e f (suc n) zero t h k = absurd (not-suc-le-zero k)
enough e f (suc n) (suc m) t h k =
    ap (f t)
    (above_same e (climbing e f n) (climbing e f m) (parent_of t) λ p w.
    enough e f n m p (lt_of_lt_of_le (parent_lower t p w) (le_of_suc-le-suc h))
    (lt_of_lt_of_le (parent_lower t p w) (le_of_suc-le-suc k)))

pub climb_step : {A : Type 0} (e : A) (f : ℕ → A → A) (t : ℕ) → climb e f t ≡ f t (above e (climb e f) (parent_of t))
unfolding climb climbing
climb_step e f t =
    ap (f t)
    (above_same e (climbing e f t) (climb e f) (parent_of t) λ p w.
    enough e f t (suc p) p (parent_lower t p w) (le_refl (suc p)))

types_few : types < 255
unfolding types dictionary
types_few = omega arith

-- a type fits its field of a header
pub small_type : (t : ℕ) → is_type t ≡ true → t < 255
unfolding is_type
small_type t e = omega (arith, types_few, ltb-true t types e)
