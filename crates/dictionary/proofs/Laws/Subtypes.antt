-- What holds of subtypes: the test decides the relation, and each further law is shown of the relation, from the step to
-- the parent, and read off the test.
use Rattle.std.specs.Prelude.{◌≡◌, refl, Bool, true, false, ◌||◌, ◌⊎◌, ℕ, zero, suc, ◌<◌, ◌≤◌, eqb, length, Option, None, Some}
use Rattle.std.proofs.Common.{sym, subst, ◌∙◌, inl, inr, ⊎_elim, le_refl, arith, eq-eqb, ne_eqb, eqb-true}
use Rattle.std.proofs.Math.Bool.{or-true}
use Rattle.std.proofs.lemmas.Bool.{false≢true}
use Rattle.logic.specs.Laws.Bools.{fails}
use Rattle.dictionary.specs.Dictionary.{is_type, parent_of, schema_of, above, climbing, climb, attributes_of, attribute_of}
use Rattle.dictionary.specs.Subtype.{same_or, subtype, Subtype, same, by_parent}
use Rattle.dictionary.specs.Laws.Types.{no_type_parent, climb_step, parent_lower, child_type, parent_type, parent_schema}
use Rattle.dictionary.proofs.Laws.Attributes.{attribute_there, attribute_count, attribute_inherited}

pub subtype_step : (a b : ℕ) → subtype a b ≡ (eqb a b || above false (λ p. subtype p b) (parent_of a))
unfolding subtype
subtype_step a b = climb_step false (same_or b) a

pub subtype_up : (a b p : ℕ) → (a ≡ b → ⊥) → parent_of a ≡ Some p → subtype a b ≡ subtype p b
subtype_up a b p n w = rw (subtype_step a b, ne_eqb a b n, w)

pub subtype_root : (a b : ℕ) → (a ≡ b → ⊥) → parent_of a ≡ None → subtype a b ≡ false
subtype_root a b n w = rw (subtype_step a b, ne_eqb a b n, w)

-- the test holds of related types alone, and of all of them

either : (x y : Bool) → (x || y) ≡ true → (x ≡ true) ⊎ (y ≡ true)
either true y e = inl refl
either false y e = inr e

from_parent : (a b : ℕ) (f : ℕ → Bool) (x : Option ℕ) → parent_of a ≡ x → ((p : ℕ) → f p ≡ true → Subtype p b)
    → above false f x ≡ true → Subtype a b
from_parent a b f None w q e = absurd (false≢true e)
from_parent a b f (Some p) w q e = by_parent w (q p e)

climbed : (b n a : ℕ) → climbing false (same_or b) n a ≡ true → Subtype a b
unfolding climbing
climbed b zero a e = absurd (false≢true e)
climbed b (suc n) a e =
    ⊎_elim (λ s. subst (λ (x : ℕ). Subtype a x) (eqb-true a b s) same)
    (λ s. from_parent a b (climbing false (same_or b) n) (parent_of a) refl (climbed b n) s)
    (either (eqb a b) (above false (climbing false (same_or b) n) (parent_of a)) e)

pub subtype_related : (a b : ℕ) → subtype a b ≡ true → Subtype a b
unfolding subtype climb
subtype_related a b e = climbed b (suc a) a e

pub related_subtype : {a b : ℕ} → Subtype a b → subtype a b ≡ true
related_subtype (same {a}) = rw (subtype_step a a, eq-eqb a a refl)
related_subtype (by_parent {a} {p} {b} w s) = rw (subtype_step a b, w, related_subtype s, or-true (eqb a b))

pub subtype_same : (a : ℕ) → subtype a a ≡ true
subtype_same a = related_subtype same

pub subtype_parent : (t p : ℕ) → parent_of t ≡ Some p → subtype t p ≡ true
subtype_parent t p w = related_subtype (by_parent w same)

related_trans : {a b c : ℕ} → Subtype a b → Subtype b c → Subtype a c
related_trans same h = h
related_trans (by_parent w s) h = by_parent w (related_trans s h)

pub subtype_trans : (a b c : ℕ) → subtype a b ≡ true → subtype b c ≡ true → subtype a c ≡ true
subtype_trans a b c e d = related_subtype (related_trans (subtype_related a b e) (subtype_related b c d))

related_lower : {a b : ℕ} → Subtype a b → b ≤ a
related_lower (same {a}) = le_refl a
related_lower (by_parent {a} {p} {b} w s) = omega (arith, related_lower s, parent_lower a p w)

pub subtype_lower : (a b : ℕ) → subtype a b ≡ true → b ≤ a
subtype_lower a b e = related_lower (subtype_related a b e)

related_schema : {a b : ℕ} → Subtype a b → schema_of a ≡ schema_of b
related_schema same = refl
related_schema (by_parent {a} {p} {b} w s) = parent_schema a p w ∙ related_schema s

pub subtype_schema : (a b : ℕ) → subtype a b ≡ true → schema_of a ≡ schema_of b
subtype_schema a b e = related_schema (subtype_related a b e)

related_type : {a b : ℕ} → Subtype a b → is_type a ≡ is_type b
related_type same = refl
related_type (by_parent {a} {p} {b} w s) = child_type a p w ∙ sym (parent_type a p w) ∙ related_type s

pub subtype_type : (a b : ℕ) → subtype a b ≡ true → is_type a ≡ is_type b
subtype_type a b e = related_type (subtype_related a b e)

related_attribute : {a b : ℕ} → Subtype a b → (k : ℕ) → k < length (attributes_of b) → attribute_of a k ≡ attribute_of b k
related_attribute same k h = refl
related_attribute (by_parent {a} {p} {b} w s) k h =
    let e : attribute_of p k ≡ attribute_of b k = related_attribute s k h in
    attribute_inherited a p k w (attribute_count p k λ z. attribute_there b k h (sym e ∙ z)) ∙ e

-- a supertype's attributes stand first among a subtype's
pub subtype_attribute : (a b k : ℕ) → subtype a b ≡ true → (attribute_of b k ≡ None → ⊥)
    → attribute_of a k ≡ attribute_of b k
subtype_attribute a b k e n = related_attribute (subtype_related a b e) k (attribute_count b k n)

-- a number that is no type is below none but itself, and above none but itself

pub no_type_below : (a b : ℕ) → is_type a ≡ false → (a ≡ b → ⊥) → subtype a b ≡ false
no_type_below a b i n = subtype_root a b n (no_type_parent a i)

pub no_type_above : (a b : ℕ) → is_type b ≡ false → (a ≡ b → ⊥) → subtype a b ≡ false
no_type_above a b i n =
    fails (subtype a b) (λ e. false≢true (sym (no_type_below a b (subtype_type a b e ∙ i) n) ∙ e))
