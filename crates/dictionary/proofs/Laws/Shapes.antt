-- The parts of a shape are those that were packed, and what it says of a target and of a header.
use Rattle.std.specs.Prelude.{◌≡◌, refl, Bool, true, false, cond, ◌&&◌, ℕ, suc, ◌*◌, ◌/◌, ◌%◌, ◌^◌, ◌≤◌, ◌<◌, eqb, ltb, min, Some}
use Rattle.std.proofs.Common.{sym, ap, ◌∙◌, ⊎_elim, arith, pow_mono, le-ltb, lt-ltb, ltb-true, ltb-false}
use Rattle.std.proofs.lemmas.Bool.{false≢true}
use Rattle.std.specs.Int.Bits.{bit_and}
use Rattle.std.proofs.Math.ListN.{length}
use Rattle.std.proofs.Math.Pow.{pow_pos}
use Rattle.dictionary.specs.declared.answers.Attribute.TheVariants.{Reference}
use Rattle.logic.specs.Search.{all_b}
use Rattle.logic.specs.Laws.Bools.{decided}
use Rattle.logic.specs.Laws.Search.{all_at}
use Rattle.dictionary.specs.Dictionary.{types, is_type, is_reference, attributes_of, attribute_of, the_table}
use Rattle.dictionary.specs.Subtype.{subtype}
use Rattle.dictionary.specs.Quick.References.{no_reference, reference_of, mask_below, may_name, targets_of}
use Rattle.dictionary.specs.Quick.Shapes.{flag_of, packed_of, shape_of, attributes_in, mark_in}
use Rattle.dictionary.specs.Laws.Types.{alike, told, of_pair}
use Rattle.dictionary.proofs.Laws.Attributes.{no_type_attributes, no_type_attribute, attributes_few}
use Rattle.dictionary.proofs.Laws.References.{no_type_reference, no_type_targets}

pub no_type_shape : (t : ℕ) → is_type t ≡ false → shape_of t ≡ packed_of 0 no_reference 0
unfolding shape_of
no_type_shape t i = rw (no_type_attributes t i, no_type_reference t i, no_type_targets t i)

-- from the first number that is no type on, numbers are alike
pub capped_shape : (t : ℕ) → shape_of (min t 14) ≡ shape_of t
unfolding is_type the_table
capped_shape t =
    ⊎_elim (λ i. let e : min t 14 ≡ t = omega (arith, ltb-true t types i) in ap shape_of e)
    (λ i. no_type_shape (min t 14) (le-ltb (min t 14) types (omega (arith, ltb-false t types i))) ∙ sym (no_type_shape t i))
    (decided (is_type t))

pub flag_small : (k : ℕ) → flag_of k ≤ 8
flag_small k = by_cases (ltb k no_reference) refl
  where
    by_cases : (b : Bool) → ltb k no_reference ≡ b → cond b (2 ^ k) 0 ≤ 8
    by_cases true e =
        let below : k < 4 = ltb-true k no_reference e in
        pow_mono {j = 3} (omega arith)
    by_cases false e = omega arith

-- ---- the parts

module _ (t : ℕ) where
  pub attributes_of_shape : attributes_in (shape_of t) ≡ length (attributes_of t)
  unfolding shape_of
  attributes_of_shape = omega (arith, attributes_few t)

  pub mark_of_shape : mark_in (shape_of t) ≡ 0x1_0000 * flag_of (reference_of t)
  unfolding shape_of
  mark_of_shape =
      let few : length (attributes_of t) < no_reference = omega (arith, attributes_few t) in
      rw (lt-ltb (length (attributes_of t)) no_reference few) (omega (arith, pow_pos (length (attributes_of t))))

-- ---- what is computed for every type with every number below a bound

named_of_type : (t u : ℕ) → is_type t ≡ true → u < types → eqb (shape_of t / 2 ^ suc u % 2) 1 ≡ may_name (attribute_of t (reference_of t)) u
unfolding all_b reference_of mask_below targets_of shape_of subtype the_table
named_of_type t u i l = of_pair types (λ t u. eqb (shape_of t / 2 ^ suc u % 2) 1) (λ t u. may_name (attribute_of t (reference_of t)) u) refl t u i l

-- the reference may name a type exactly if the shape has its bit
pub target_of_shape : (t u target : ℕ) → attribute_of t (reference_of t) ≡ Some (Reference target) → is_type u ≡ true → eqb (shape_of t / 2 ^ suc u % 2) 1 ≡ subtype u target
unfolding is_type
target_of_shape t u target w e = rw w at (named_of_type t u typed (ltb-true u types e))
  where
    typed : is_type t ≡ true
    typed = ⊎_elim (λ i. i) (λ i. absurd (false≢true (ap is_reference (sym (no_type_attribute t (reference_of t) i) ∙ w)))) (decided (is_type t))

-- no type's bit is the lowest
pub shape_even : (t : ℕ) → shape_of t % 2 ≡ 0
unfolding shape_of
shape_even t = omega arith

-- of the six bits of a header from bit 14 on, the shape has the two that no model of the 64 has and the flags of no attribute
pub strays_of_shape : (t x : ℕ) → is_type t ≡ true → x < 64 → eqb (bit_and x (shape_of t / 0x4000)) 0 ≡ (eqb (x % 4) 0 && ltb x (4 * 2 ^ length (attributes_of t)))
unfolding all_b reference_of mask_below targets_of shape_of subtype the_table
strays_of_shape t x i l = of_pair 64 (λ t x. eqb (bit_and x (shape_of t / 0x4000)) 0) (λ t x. eqb (x % 4) 0 && ltb x (4 * 2 ^ length (attributes_of t))) refl t x i l

-- the same of any number, as a tag asks it
pub strays_of_tag : (t x : ℕ) → x < 64 → eqb (bit_and x (shape_of t / 0x4000 % 64)) 0 ≡ (eqb (x % 4) 0 && ltb x (4 * 2 ^ length (attributes_of t)))
unfolding all_b reference_of mask_below targets_of shape_of subtype the_table
strays_of_tag t x l = ⊎_elim of_a_type of_none (decided (is_type t))
  where
    of_a_type : is_type t ≡ true → eqb (bit_and x (shape_of t / 0x4000 % 64)) 0 ≡ (eqb (x % 4) 0 && ltb x (4 * 2 ^ length (attributes_of t)))
    of_a_type i = of_pair 64 (λ t x. eqb (bit_and x (shape_of t / 0x4000 % 64)) 0) (λ t x. eqb (x % 4) 0 && ltb x (4 * 2 ^ length (attributes_of t))) refl t x i l

    -- the blank shape has all six
    of_none : is_type t ≡ false → eqb (bit_and x (shape_of t / 0x4000 % 64)) 0 ≡ (eqb (x % 4) 0 && ltb x (4 * 2 ^ length (attributes_of t)))
    of_none i =
        rw (no_type_shape t i, no_type_attributes t i)
        (told _ _ (all_at 64 (λ x. alike (eqb (bit_and x 63) 0) (eqb (x % 4) 0 && ltb x 4)) refl x l))
