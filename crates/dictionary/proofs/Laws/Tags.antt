-- What the two words of a tag say of a target and of a header.
use Rattle.std.specs.Prelude.{◌≡◌, refl, true, false, ℕ, suc, ◌+◌, ◌*◌, ◌/◌, ◌%◌, ◌^◌, ◌≤◌, ◌<◌, eqb, length, Some}
use Rattle.std.proofs.Common.{sym, ◌∙◌, ⊎_elim, pow_mono, eq-eqb, eqb-true, ltb-true}
use Rattle.std.proofs.Math.Path.{ap}
use Rattle.std.proofs.lemmas.Bool.{false≢true}
use native.Mathlib.Omega.{arith}
use Rattle.std.specs.Int.Bits.{bit_and, and_block, and_mask, and_high}
use Rattle.dictionary.specs.declared.answers.Attribute.TheVariants.{Reference}
use Rattle.logic.specs.Search.{all_b}
use Rattle.logic.specs.Laws.Bools.{decided}
use Rattle.logic.specs.Laws.Decides.{Decides, both, less, equal, restated}
use Rattle.dictionary.specs.Dictionary.{types, is_type, is_reference, attributes_of, attribute_of, the_table}
use Rattle.dictionary.specs.Subtype.{subtype}
use Rattle.dictionary.specs.Quick.References.{reference_of, mask_below, may_name, targets_of}
use Rattle.dictionary.specs.Quick.Shapes.{flag_of, shape_of, mark_in}
use Rattle.dictionary.specs.Quick.Tags.{bars_of, names_of}
use Rattle.dictionary.specs.Laws.Types.{of_pair}
use Rattle.dictionary.proofs.Laws.Attributes.{no_type_attribute, attributes_few}
use Rattle.dictionary.proofs.Laws.Shapes.{mark_of_shape, no_type_shape, shape_even, strays_of_tag}

pub no_type_bars : (t u : ℕ) → is_type t ≡ false → is_type u ≡ false → bars_of t ≡ bars_of u
unfolding bars_of
no_type_bars t u i j = rw (no_type_shape t i, no_type_shape u j)

pub no_type_names : (t u : ℕ) → is_type t ≡ false → is_type u ≡ false → names_of t ≡ names_of u
unfolding names_of
no_type_names t u i j = rw (no_type_shape t i, no_type_shape u j)

-- ---- a target

named_of_type : (t u : ℕ) → is_type t ≡ true → u < types → eqb (names_of t / 2 ^ suc u % 2) 1 ≡ may_name (attribute_of t (reference_of t)) u
unfolding all_b reference_of mask_below targets_of shape_of names_of subtype the_table
named_of_type t u i l = of_pair types (λ t u. eqb (names_of t / 2 ^ suc u % 2) 1) (λ t u. may_name (attribute_of t (reference_of t)) u) refl t u i l

-- the reference may name a type exactly if there is its bit
pub target_of_names : (t u target : ℕ) → attribute_of t (reference_of t) ≡ Some (Reference target) → is_type u ≡ true → eqb (names_of t / 2 ^ suc u % 2) 1 ≡ subtype u target
unfolding is_type
target_of_names t u target w e = rw w at (named_of_type t u typed (ltb-true u types e))
  where
    typed : is_type t ≡ true
    typed = ⊎_elim (λ i. i) (λ i. absurd (false≢true (ap is_reference (sym (no_type_attribute t (reference_of t) i) ∙ w)))) (decided (is_type t))

-- no type's bit is the lowest
pub names_even : (t : ℕ) → names_of t % 2 ≡ 0
unfolding names_of
names_even t = even (shape_of t) (mark_in (shape_of t)) (flag_of (reference_of t)) (shape_even t) (mark_of_shape t)
  where
    even : (s m f : ℕ) → s % 2 ≡ 0 → m ≡ 0x1_0000 * f → (s % 0x1000 + m) % 2 ≡ 0
    even s m f e w = omega arith

-- ---- a header

module _ (h : ℕ) (fits : h < 2 ^ 64) where
  -- what is barred lies in three places
  barred_parts : (t : ℕ) → bit_and h (bars_of t) ≡ h / 0x10_0000 * 2 ^ 20 + (bit_and (h / 0x4000 % 64) (shape_of t / 0x4000 % 64) * 2 ^ 14 + h / 16 % 16 * 2 ^ 4)
  unfolding bars_of
  barred_parts t =
      let x = h / 0x4000 % 64 in
      let y = shape_of t / 0x4000 % 64 in
      let cut : h ≡ h / 0x10_0000 * 2 ^ 20 + (x * 2 ^ 14 + h % 0x4000) = omega arith in
      let bars : 0xffff_ffff_fff0_00f0 + y * 0x4000 ≡ 0xfff_ffff_ffff * 2 ^ 20 + (y * 2 ^ 14 + 0xf0) = omega arith in
      let above : h / 0x10_0000 % 2 ^ 44 ≡ h / 0x10_0000 = omega (arith, fits) in
      let below : h % 0x4000 / 2 ^ 4 % 2 ^ 4 ≡ h / 16 % 16 = omega arith in
      ap (λ (n : ℕ). bit_and n (0xffff_ffff_fff0_00f0 + y * 0x4000)) cut ∙ ap (bit_and (h / 0x10_0000 * 2 ^ 20 + (x * 2 ^ 14 + h % 0x4000))) bars
      ∙ and_block 20 (h / 0x10_0000) 0xfff_ffff_ffff (x * 2 ^ 14 + h % 0x4000) (y * 2 ^ 14 + 0xf0) (omega arith) (omega arith)
      ∙ rw (and_block 14 x y (h % 0x4000) 0xf0 (omega arith) (omega arith), and_mask (h / 0x10_0000) 44, and_high (h % 0x4000) 4 4, above, below)

  pub bars_test : (t : ℕ) → Decides (eqb (bit_and h (bars_of t)) 0) ((h / 16 % 16 ≡ 0) × ((h / 0x4000 % 4 ≡ 0) × (h < 0x1_0000 * 2 ^ length (attributes_of t))))
  bars_test t =
      let x = h / 0x4000 % 64 in
      let y = shape_of t / 0x4000 % 64 in
      let n = 2 ^ length (attributes_of t) in
      let few : n ≤ 8 = pow_mono {j = 3} (attributes_few t) in
      let strays : Decides (eqb (bit_and x y) 0) ((x % 4 ≡ 0) × (x < 4 * n)) = rw (strays_of_tag t x (omega arith)) (both _ _ (equal (x % 4) 0) (less x (4 * n))) in
      rw (barred_parts t)
      (restated (equal (h / 0x10_0000 * 2 ^ 20 + (bit_and x y * 2 ^ 14 + h / 16 % 16 * 2 ^ 4)) 0)
      (λ e. let w = strays.holds (eq-eqb (bit_and x y) 0 (omega (arith, e))) in (omega (arith, e), (sym (of_four (h / 0x4000)) ∙ w.0, below n (omega (arith, e)) w.1)))
      (λ w. let s : bit_and x y ≡ 0 = eqb-true (bit_and x y) 0 (strays.passes (of_four (h / 0x4000) ∙ w.1.0, above n few w.1.1)) in
      let top : h / 0x10_0000 ≡ 0 = omega (arith, w.1.1, few) in
      rw (s, top, w.0)))
    where
      of_four : (a : ℕ) → a % 64 % 4 ≡ a % 4
      of_four a = omega arith

      below : (n : ℕ) → h / 0x10_0000 ≡ 0 → h / 0x4000 % 64 < 4 * n → h < 0x1_0000 * n
      below n e l = omega (arith, e, l)

      above : (n : ℕ) → n ≤ 8 → h < 0x1_0000 * n → h / 0x4000 % 64 < 4 * n
      above n few l = omega (arith, few, l)
