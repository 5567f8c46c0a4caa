-- The values of an instance as the code asks for them are those of Sound.antt.
use Rattle.std.specs.Prelude.{◌≡◌, refl, Bool, true, false, cond, not, ◌&&◌, ◌||◌, List, ℕ, zero, suc, ◌+◌, ◌-◌, ◌*◌, ◌/◌, ◌%◌, ◌^◌, ◌≤◌, ◌<◌, ltb, length, get_or, Option, None, Some}
use Rattle.std.proofs.Common.{sym, ◌∙◌, true≢false, add-zero, lt_of_lt_of_le, div-add-mod', mod-lt, zero-mul, suc-mul, add-suc, pow-suc, arith, pow_mono, pow_pos, eq-eqb, ne_eqb, eqb-true, lt-ltb, le-ltb, ltb-true}
use Rattle.std.proofs.Math.Path.{ap}
use Rattle.std.proofs.Math.Bool.{and-true}
use Rattle.std.proofs.lemmas.Bool.{false≢true, eqb-false, not-true}
use Rattle.std.proofs.Math.Nat.{div-eq_of_lt}
use Rattle.std.proofs.Math.Decide.{dec_lt}
use Rattle.std.proofs.Math.Dec.{eqb}
use Rattle.std.specs.Int.Bits.{bit_and, bit_or, or_add_and}
use Rattle.std.proofs.lemmas.Nat.{or_shr, and_shr, and_le_l, and_le_r}
use Rattle.words.specs.declared.layout.Kind.TheVariants.{Model, Instance}
use Rattle.words.specs.Layout.{count_of, place_of}
use Rattle.logic.specs.Search.{all_b}
use Rattle.words.specs.Entries.{free_at}
use Rattle.words.specs.Sets.{bits, bit_of, has}
use Rattle.words.specs.Fields.{schema_in, type_in, model_in, flags_in, values, flagged}
use Rattle.logic.specs.Laws.Bools.{and_left, and_ended, or_right, fails}
use Rattle.logic.specs.Laws.Decides.{Decides, both, less, equal, at_most, denied, every, restated, same_test, itself, implied}
use Rattle.logic.specs.Laws.Search.{all_at, all_from, all_same, all_both, all_one}
use Rattle.words.specs.Laws.Fields.{Header, flag_of_flags}
use Rattle.words.specs.Laws.Entries.{entry_test}
use Rattle.dictionary.specs.declared.answers.Attribute.{Attribute}
use Rattle.dictionary.specs.declared.answers.Attribute.TheVariants.{Whole, Reference}
use Rattle.dictionary.specs.Dictionary.{types, is_type, schema_of, lacks, is_reference, attributes_of, attribute_of, the_table}
use Rattle.dictionary.proofs.Laws.Attributes.{attribute_lacks, attributes_few}
use Rattle.dictionary.specs.Quick.References.{reference_of}
use Rattle.dictionary.specs.Quick.Shapes.{shape_of, mark_in}
use Rattle.dictionary.proofs.Laws.References.{reference_other, reference_is}
use Rattle.dictionary.proofs.Laws.Shapes.{target_of_shape, shape_even, strays_of_shape}
use Rattle.dictionary.specs.Subtype.{subtype}
use Rattle.tables.specs.declared.live.Live.{Live}
use Rattle.tables.specs.View.{is_live, label_at, header_at, type_at, value_at}
use Rattle.tables.specs.Sound.{sound_value, sound_header, sound_instance, sound_instances}
use Rattle.tables.specs.Quick.Live.{live_in, model_fits}
use Rattle.tables.specs.Quick.Values.{no_value, strays_in, word_fits, unset_of, words_fit, target_fits, reference_fits, live_fits, instance_fits}
use Rattle.tables.specs.Quick.Pointers.{second}
use Rattle.tables.specs.Laws.Sound.{live_below_lem, sound_header_test}
use Rattle.tables.specs.Laws.Labels.{first_word}
use Rattle.tables.specs.Laws.Live.{model_by_sets}
use Rattle.tables.specs.Laws.Pointers.{mark_set, mark_which}

-- ---- one value: its flag, what the flag leaves, and what a reference asks for besides

-- of the attributes that a type has, only a reference asks for more than a value word
abbrev names_right : List ℕ → Option Attribute → ℕ → Bool
names_right t None v = true
names_right t (Some Whole) v = true
names_right t (Some (Reference target)) v = is_live t Instance v && subtype (type_at t v) target

unset_small : (v : ℕ) → (ltb v 0x1_0000_0000 && eqb v 0) ≡ (eqb v 0 && true)
unset_small v = by_cases (eqb v 0) refl
  where
    by_cases : (b : Bool) → eqb v 0 ≡ b → (ltb v 0x1_0000_0000 && b) ≡ (b && true)
    by_cases true e =
        let z : v ≡ 0 = eqb-true v 0 e in
        rw (lt-ltb v 0x1_0000_0000 (omega arith))
    by_cases false e = and_ended (ltb v 0x1_0000_0000) false refl

value_parts : (t : List ℕ) (a : Option Attribute) (set : Bool) (v : ℕ) → sound_value t a set v ≡ ((not set || not (lacks a)) && (word_fits set v && (not set || names_right t a v)))
value_parts t None true v = refl
value_parts t None false v = sym (and-true (eqb v 0))
value_parts t (Some Whole) true v = refl
value_parts t (Some Whole) false v = unset_small v
value_parts t (Some (Reference target)) true v = by_cases (is_live t Instance v) refl
  where
    by_cases : (b : Bool) → is_live t Instance v ≡ b → (b && subtype (type_at t v) target) ≡ (ltb v 0x1_0000_0000 && (b && subtype (type_at t v) target))
    by_cases true e = rw (lt-ltb v 0x1_0000_0000 (omega (arith, live_below_lem t Instance v e)))
    by_cases false e = sym (and_ended (ltb v 0x1_0000_0000) false refl)
value_parts t (Some (Reference target)) false v = sym (and-true (eqb v 0))

-- ---- the flags

-- the first flag that no attribute of the header's type has
abbrev limit_of : ℕ → ℕ
limit_of h = 2 ^ length (attributes_of (type_in h))

-- flags stand for attributes of the type alone: all is below the first flag that none of them has
abbrev flags_fit : ℕ → Bool
flags_fit h = ltb h (0x1_0000 * limit_of h)

low_only : (x n : ℕ) → x < 2 ^ n → (k : ℕ) → has x k ≡ true → k < n
low_only x n below k h = by_cases (dec_lt k n)
  where
    by_cases : Dec (k < n) → k < n
    by_cases (yes l) = l
    by_cases (no l) = absurd (false≢true (sym (ap (λ (y : ℕ). eqb (y % 2) 1) (div-eq_of_lt (lt_of_lt_of_le below (pow_mono (omega arith))))) ∙ h))

-- no highest bit, so the number is below it; and so down to n
top_gone : (x n : ℕ) → x < 2 ^ suc n → (bit_of x n ≡ 1 → ⊥) → x < 2 ^ n
top_gone x n h off = by_cases (x / 2 ^ n) (div-add-mod' x (2 ^ n)) off
  where
    by_cases : (q : ℕ) → q * 2 ^ n + x % 2 ^ n ≡ x → (q % 2 ≡ 1 → ⊥) → x < 2 ^ n
    by_cases zero e apart = omega (arith, zero-mul (2 ^ n), mod-lt x (pow_pos n))
    by_cases (suc zero) e apart = absurd (apart refl)
    by_cases (suc (suc q)) e apart = absurd (omega (arith, pow-suc 2 n, suc-mul (suc q) (2 ^ n), suc-mul q (2 ^ n)))

high_gone : (x n d : ℕ) → x < 2 ^ (n + d) → ((k : ℕ) → n ≤ k → k < n + d → bit_of x k ≡ 1 → ⊥) → x < 2 ^ n
high_gone x n zero h off = rw (add-zero n) at h
high_gone x n (suc d) h off = high_gone x n d (top_gone x (n + d) (rw (add-suc n d) at h) (off (n + d) (omega arith) (omega arith))) (λ k l m. off k l (omega arith))

none_high : (x n : ℕ) → x < 2 ^ values → n ≤ values → ((k : ℕ) → k < values → has x k ≡ true → k < n) → x < 2 ^ n
none_high x n small few w =
    let whole : n + (values - n) ≡ values = omega arith in
    high_gone x n (values - n) (rw whole small) (λ k l m e. let below : k < n = w k (omega arith) (eq-eqb (bit_of x k) 1 e) in omega arith)

has_attribute : (type k : ℕ) → Decides (not (lacks (attribute_of type k))) (k < length (attributes_of type))
has_attribute type k = rw (attribute_lacks type k) (restated (denied _ (at_most (length (attributes_of type)) k)) (λ n. omega arith) (λ l m. omega arith))

flags_parts : (h : ℕ) → Header h → flags_fit h ≡ all_b values (λ k. not (flagged h k) || not (lacks (attribute_of (type_in h) k)))
flags_parts h w =
    same_test _ _
    (restated (less h (0x1_0000 * limit_of h))
    (λ e k l f. low_only (flags_in h) (length (attributes_of (type_in h))) (omega arith) k (sym (flag_of_flags h k l) ∙ f))
    (λ all. let low : flags_in h < limit_of h =
    none_high (flags_in h) (length (attributes_of (type_in h))) (omega arith) (omega (arith, attributes_few (type_in h))) (λ k l f. all k l (flag_of_flags h k l ∙ f)) in
    omega arith))
    (every values _ (λ k. flagged h k ≡ true → k < length (attributes_of (type_in h))) (λ k. implied _ _ (itself (flagged h k)) (has_attribute (type_in h) k)))

-- a header whose flags fit has no fourth flag, nor anything above
flags_small : (h : ℕ) → flags_fit h ≡ true → h < 0x8_0000
flags_small h e =
    let few : limit_of h ≤ 8 = pow_mono {j = 3} (attributes_few (type_in h)) in
    omega (arith, ltb-true h (0x1_0000 * limit_of h) e)

module _ (t : List ℕ) (h : ℕ) (typed : h % 256 ≡ 0 → ⊥) (type : is_type (type_in h) ≡ true) where
  abbrev model_there : Bool
  model_there = ltb (model_in h) bits && model_fits (live_in t Model) (type_in h) h

  sound_by_sets : model_there ≡ true → flags_fit h ≡ true → sound_header t h ≡ true
  sound_by_sets m f =
      let there = (both (is_live t Model (model_in h)) _ (itself (is_live t Model (model_in h))) (equal (schema_in (label_at t Model (model_in h))) (schema_of (type_in h)))).holds
      (sym (model_by_sets t h type) ∙ m) in
      let small : h < 0x8_0000 = flags_small h f in
      (sound_header_test t h).passes record {
        header = record { small = omega arith; typed = omega arith; model = live_below_lem t Model (model_in h) there.0 };
        type = type;
        model = there.0;
        schema = there.1;
      }

  header_parts : (model_there && flags_fit h) ≡ (sound_header t h && all_b values (λ k. not (flagged h k) || not (lacks (attribute_of (type_in h) k))))
  header_parts = by_cases (sound_header t h) refl
    where
      none : (a b : Bool) → model_there ≡ a → flags_fit h ≡ b → sound_header t h ≡ false → (a && b) ≡ false
      none true true p q e = sym (sound_by_sets p q) ∙ e
      none true false p q e = refl
      none false b p q e = refl

      by_cases : (s : Bool) → sound_header t h ≡ s
          → (model_there && flags_fit h) ≡ (s && all_b values (λ k. not (flagged h k) || not (lacks (attribute_of (type_in h) k))))
      by_cases false e = none model_there (flags_fit h) refl refl e
      by_cases true e =
          let w = (sound_header_test t h).holds e in
          let fits : model_there ≡ true = model_by_sets t h type ∙ rw w.model (eq-eqb _ _ w.schema) in
          rw (fits) (flags_parts h w.header)

-- ---- the four value words, and the model beside them

pub or_zero : (a b : ℕ) → eqb (bit_or a b) 0 ≡ (eqb a 0 && eqb b 0)
or_zero a b =
    same_test _ _
    (restated (equal (bit_or a b) 0) (λ e. (omega (arith, or_add_and a b, and_le_r a b), omega (arith, or_add_and a b, and_le_l a b))) (λ w. omega (arith, or_add_and a b, w.0, w.1)))
    (both _ _ (equal a 0) (equal b 0))

gathered : {P Q : Type 0} (a b : ℕ) → Decides (eqb a 0) P → Decides (eqb b 0) Q → Decides (eqb (bit_or a b) 0) (P × Q)
gathered a b p q = rw (or_zero a b) (both _ _ p q)

-- of what is gathered of three words, nothing is above 32 bits
none_large : (v0 v1 v2 : ℕ) → Decides (eqb (bit_or (bit_or v0 v1) v2 / 0x1_0000_0000) 0) (((v0 < 0x1_0000_0000) × (v1 < 0x1_0000_0000)) × (v2 < 0x1_0000_0000))
none_large v0 v1 v2 =
    let high : ℕ → ℕ = λ v. v / 0x1_0000_0000 in
    rw (or_shr (bit_or v0 v1) v2 32, or_shr v0 v1 32) (gathered (bit_or (high v0) (high v1)) (high v2) (gathered (high v0) (high v1) (small v0) (small v1)) (small v2))
  where
    small : (v : ℕ) → Decides (eqb (v / 0x1_0000_0000) 0) (v < 0x1_0000_0000)
    small v = restated (equal (v / 0x1_0000_0000) 0) (λ e. omega arith) (λ l. omega arith)

word_test : (set : Bool) (v : ℕ) → Decides (word_fits set v) ((cond set 0 v ≡ 0) × (v < 0x1_0000_0000))
word_test true v = restated (less v 0x1_0000_0000) (λ l. (refl, l)) (λ w. w.1)
word_test false v = restated (equal v 0) (λ e. (e, omega arith)) (λ w. w.0)

-- what is gathered is nothing exactly if there is no stray and each word is as its flag asks
pub words_by_one : (strays h v0 v1 v2 v3 : ℕ)
    → eqb (bit_or (bit_or (bit_or (bit_or (bit_or (unset_of h 0 v0) (unset_of h 1 v1)) (unset_of h 2 v2)) v3) (bit_or (bit_or v0 v1) v2 / 0x1_0000_0000)) strays) 0 ≡ (eqb strays 0 &&
    word_fits (flagged h 0) v0 && word_fits (flagged h 1) v1 && word_fits (flagged h 2) v2 && eqb v3 0)
words_by_one strays h v0 v1 v2 v3 =
    let u0 = unset_of h 0 v0 in
    let u1 = unset_of h 1 v1 in
    let u2 = unset_of h 2 v2 in
    let left = bit_or (bit_or (bit_or u0 u1) u2) v3 in
    let above = bit_or (bit_or v0 v1) v2 / 0x1_0000_0000 in
    same_test _ _
    (restated (gathered (bit_or left above) strays (gathered left above (gathered (bit_or (bit_or u0 u1) u2) v3 (gathered (bit_or u0 u1) u2 (gathered u0 u1 (equal u0 0) (equal u1 0)) (equal u2 0))
    (equal v3 0)) (none_large v0 v1 v2)) (equal strays 0))
    (λ w. ((((w.1, (w.0.0.0.0.0, w.0.1.0.0)), (w.0.0.0.0.1, w.0.1.0.1)), (w.0.0.0.1, w.0.1.1)), w.0.0.1))
    (λ w. ((((((w.0.0.0.1.0, w.0.0.1.0), w.0.1.0), w.1), ((w.0.0.0.1.1, w.0.0.1.1), w.0.1.1)), w.0.0.0.0))))
    (both _ _ (both _ _ (both _ _ (both _ _ (equal strays 0) (word_test (flagged h 0) v0)) (word_test (flagged h 1) v1)) (word_test (flagged h 2) v2)) (equal v3 0))

-- no stray: the model is one of the 64, and the flags fit
strays_test : (h : ℕ) → is_type (type_in h) ≡ true → eqb (strays_in (shape_of (type_in h)) h) 0 ≡ (ltb (model_in h) bits && flags_fit h)
strays_test h type = by_cases (dec_lt h 0x10_0000)
  where
    fitting : Decides (ltb (model_in h) bits && flags_fit h) ((model_in h < bits) × (h < 0x1_0000 * limit_of h))
    fitting = both _ _ (less (model_in h) bits) (less h (0x1_0000 * limit_of h))

    low : h < 0x10_0000 → Decides (eqb (bit_and h (shape_of (type_in h)) / 0x4000) 0) ((h / 0x4000 % 4 ≡ 0) × (h / 0x4000 < 4 * limit_of h))
    low l =
        rw (and_shr h (shape_of (type_in h)) 14, strays_of_shape (type_in h) (h / 0x4000) type (omega arith))
        (both _ _ (equal (h / 0x4000 % 4) 0) (less (h / 0x4000) (4 * limit_of h)))

    by_cases : Dec (h < 0x10_0000) → eqb (strays_in (shape_of (type_in h)) h) 0 ≡ (ltb (model_in h) bits && flags_fit h)
    by_cases (yes l) =
        same_test _ _
        (restated (gathered (bit_and h (shape_of (type_in h)) / 0x4000) (h / 0x10_0000) (low l) (equal (h / 0x10_0000) 0))
        (λ w. (omega (arith, w.0.0), omega (arith, w.0.1)))
        (λ w. ((omega (arith, w.0), omega (arith, w.1)), omega arith)))
        fitting
    by_cases (no l) =
        let few : limit_of h ≤ 8 = pow_mono {j = 3} (attributes_few (type_in h)) in
        same_test _ _
        (restated (gathered (bit_and h (shape_of (type_in h)) / 0x4000) (h / 0x10_0000) (itself _) (equal (h / 0x10_0000) 0)) (λ w. absurd (omega (arith, w.1))) (λ w. absurd (omega (arith, w.1))))
        fitting

-- ---- the one reference

names_right_lem : (t : List ℕ) (a : Option Attribute) (v : ℕ) → is_reference a ≡ false → names_right t a v ≡ true
names_right_lem t None v e = refl
names_right_lem t (Some Whole) v e = refl
names_right_lem t (Some (Reference target)) v e = absurd (true≢false e)

-- a header of one of the types; every live instance has such a one: then a target is told by its type alone
abbrev Typed : ℕ → Type 0
Typed h = (h % 256 ≡ 0 → ⊥) × (is_type (type_in h) ≡ true)

abbrev AllTyped : List ℕ → Type 0
AllTyped t = (v : ℕ) → is_live t Instance v ≡ true → Typed (header_at t v)

-- its lowest bits are its type's bit in a shape
type_bit : (h : ℕ) → Typed h → h % bits ≡ suc (type_in h)
unfolding the_table
type_bit h typed =
    let below : type_in h < types = ltb-true (type_in h) types typed.1 in
    omega (arith, typed.0)

typed_test : (h : ℕ) → not (eqb (h % 256) 0 || not (is_type (type_in h))) ≡ true → Typed h
typed_test h e = by_cases (eqb (h % 256) 0) (is_type (type_in h)) refl refl e
  where
    by_cases : (a b : Bool) → eqb (h % 256) 0 ≡ a → is_type (type_in h) ≡ b → not (a || not b) ≡ true → Typed h
    by_cases true b p q e = absurd (false≢true e)
    by_cases false false p q e = absurd (false≢true e)
    by_cases false true p q e = (eqb-false (h % 256) 0 p, q)

module _ (t : List ℕ) (all_typed : AllTyped t) (type h : ℕ) (value : ℕ → ℕ) where
  abbrev asked : ℕ → Bool
  asked k = not (flagged h k) || names_right t (attribute_of type k) (value k)

  not_asked : (k : ℕ) → (k ≡ reference_of type → ⊥) → asked k ≡ true
  not_asked k apart = or_right (not (flagged h k)) _ (names_right_lem t (attribute_of type k) (value k) (reference_other type k apart))

  target_asked : (v : ℕ) (a : Option Attribute) → attribute_of type (reference_of type) ≡ a → is_reference a ≡ true → names_right t a v ≡ target_fits t (shape_of type) v
  target_asked v None w e = absurd (false≢true e)
  target_asked v (Some Whole) w e = absurd (false≢true e)
  target_asked v (Some (Reference target)) w e = by_cases (eqb (header_at t v) 0) refl
    where
      by_cases : (free : Bool) → eqb (header_at t v) 0 ≡ free → (not free && subtype (type_at t v) target) ≡ target_fits t (shape_of type) v
      by_cases false live =
          let typed = all_typed v (ap not live) in
          sym (target_of_shape type (type_at t v) target w typed.1) ∙ ap (has (shape_of type)) (sym (type_bit (header_at t v) typed))
          ∙ ap (λ (b : Bool). b && has (shape_of type) (header_at t v % bits)) (sym (lt-ltb v (count_of Instance) (live_below_lem t Instance v (ap not live))))
      by_cases true free =
          sym (and_ended (ltb v (count_of Instance)) (has (shape_of type) (header_at t v % bits))
          (ap (λ (h : ℕ). has (shape_of type) (h % bits)) (eqb-true (header_at t v) 0 free) ∙ ne_eqb (bit_of (shape_of type) 0) 1 (λ z. omega (arith, z, shape_even type))))

  reference_asked : all_b values asked ≡ (not (flagged h (reference_of type)) || target_fits t (shape_of type) (value (reference_of type)))
  reference_asked = by_cases (dec_lt (reference_of type) values)
    where
      by_cases : Dec (reference_of type < values) → all_b values asked ≡ (not (flagged h (reference_of type)) || target_fits t (shape_of type) (value (reference_of type)))
      by_cases (yes l) =
          all_one values asked (reference_of type) l not_asked ∙ ap (λ (b : Bool). not (flagged h (reference_of type)) || b)
          (target_asked (value (reference_of type)) (attribute_of type (reference_of type)) refl (reference_is type l))
      by_cases (no l) = rw (le-ltb (reference_of type) values (omega arith)) (all_from values asked (λ k m. not_asked k (λ e. omega arith)))

  -- the mark tells which word it is
  reference_parts : all_b values asked ≡ reference_fits t (shape_of type) h value
  reference_parts = reference_asked ∙ by_cases (flagged h (reference_of type)) refl
    where
      chosen : (b : Bool) → value (cond b 1 2) ≡ cond b (value 1) (value 2)
      chosen true = refl
      chosen false = refl

      by_cases : (b : Bool) → flagged h (reference_of type) ≡ b → (not b || target_fits t (shape_of type) (value (reference_of type))) ≡ reference_fits t (shape_of type) h value
      by_cases false e = rw (mark_set type h, e)
      by_cases true e =
          rw (mark_set type h, e) (ap (target_fits t (shape_of type)) (ap value (sym (mark_which type h e)) ∙ chosen (eqb (mark_in (shape_of type)) second)))

-- ---- an instance

grouped : (a b c d : Bool) → (a && b && c && d) ≡ (a && (b && (c && d)))
grouped true true c d = refl
grouped true false c d = refl
grouped false b c d = refl

-- the model's parts m and b, the flags' f, the words' w, and the fourth's z, which need not be 0 without the flags'
regrouped : (m b f w0 w1 w2 w3 z : Bool) → (f ≡ true → w3 ≡ z) → (m && (b && f && w0 && w1 && w2 && z)) ≡ (b && m && f && (w0 && w1 && w2 && w3))
regrouped m false f w0 w1 w2 w3 z h = and_ended m false refl
regrouped m true false w0 w1 w2 w3 z h = and_ended m false refl ∙ sym (rw (and_ended m false refl))
regrouped true true true w0 w1 w2 w3 z h = rw (h refl)
regrouped false true true w0 w1 w2 w3 z h = refl

no_fourth : (h : ℕ) → flags_fit h ≡ true → flagged h 3 ≡ false
no_fourth h e =
    let small : h < 0x8_0000 = flags_small h e in
    ne_eqb (h / 0x8_0000 % 2) 1 (λ z. omega arith)

module _ (t : List ℕ) (all_typed : AllTyped t) (h : ℕ) (value : ℕ → ℕ) where
  abbrev there : Bool
  there = model_fits (live_in t Model) (type_in h) h

  abbrev word_fits_lem : ℕ → Bool
  word_fits_lem k = word_fits (flagged h k) (value k)

  abbrev has_its : ℕ → Bool
  has_its k = not (flagged h k) || not (lacks (attribute_of (type_in h) k))

  at_once_parts : is_type (type_in h) ≡ true
      → (there && words_fit (shape_of (type_in h)) h value) ≡ (ltb (model_in h) bits && there && flags_fit h && all_b values word_fits_lem)
  unfolding all_b
  at_once_parts type =
      rw (strays_test h type) (regrouped there (ltb (model_in h) bits) (flags_fit h) (word_fits_lem 0) (word_fits_lem 1) (word_fits_lem 2) (word_fits_lem 3) (eqb (value 3) 0)
      (λ e. ap (λ (set : Bool). word_fits set (value 3)) (no_fourth h e)))

  values_parts : all_b values (λ k. sound_value t (attribute_of (type_in h) k) (flagged h k) (value k)) ≡ (all_b values has_its &&
      (all_b values word_fits_lem && reference_fits t (shape_of (type_in h)) h value))
  values_parts =
      rw (← reference_parts t all_typed (type_in h) h value, all_both values word_fits_lem (asked t all_typed (type_in h) h value), all_both values)
      (all_same values _ _ (λ k l. value_parts t (attribute_of (type_in h) k) (flagged h k) (value k)))

  live_by_parts : live_fits t (live_in t Model) h value ≡ (sound_header t h && all_b values (λ k. sound_value t (attribute_of (type_in h) k) (flagged h k) (value k)))
  live_by_parts = rw values_parts (by_cases (eqb (h % 256) 0) (is_type (type_in h)) refl refl _)
    where
      none : (a b : Bool) → eqb (h % 256) 0 ≡ a → is_type (type_in h) ≡ b → (a || not b) ≡ true → sound_header t h ≡ false
      none a b p q e = fails (sound_header t h) (λ s. let w = (sound_header_test t h).holds s in
          true≢false (sym e ∙ rw (← p, ← q, ne_eqb (h % 256) 0 (λ z. omega (arith, w.header.typed)), w.type)))

      by_cases : (a b : Bool) → eqb (h % 256) 0 ≡ a → is_type (type_in h) ≡ b → (r : Bool)
          → (not (a || not b) && there && words_fit (shape_of (type_in h)) h value && r) ≡ (sound_header t h && (all_b values has_its && (all_b values word_fits_lem && r)))
      by_cases true b p q r = rw (none true b p q refl)
      by_cases false false p q r = rw (none false false p q refl)
      by_cases false true p q r = rw (at_once_parts q) (rw (header_parts t h (eqb-false (h % 256) 0 p) q) (grouped (sound_header t h) _ _ r))

-- ---- all instances

module _ (t : List ℕ) where
  instance_by_parts : AllTyped t → (i : ℕ) → instance_fits t (live_in t Model) i ≡ sound_instance t i
  unfolding sound_instance
  instance_by_parts typed i = ap (cond (free_at t Instance i) (all_b values (λ k. eqb (value_at t i k) 0))) (live_by_parts t typed (header_at t i) (λ k. value_at t i k))

  typed_fits : all_b (count_of Instance) (instance_fits t (live_in t Model)) ≡ true → AllTyped t
  typed_fits e v live =
      typed_test (header_at t v)
      (and_left _ _ (and_left _ _ (and_left _ _ (rw (not-true (free_at t Instance v) live) at (all_at (count_of Instance) (instance_fits t (live_in t Model)) e v (live_below_lem t Instance v live))))))

  typed_sound : all_b (count_of Instance) (sound_instance t) ≡ true → AllTyped t
  unfolding sound_instance
  typed_sound e v live =
      let sound = rw (not-true (free_at t Instance v) live) at (all_at (count_of Instance) (sound_instance t) e v (live_below_lem t Instance v live)) in
      let header = (sound_header_test t (header_at t v)).holds (and_left (sound_header t (header_at t v)) _ sound) in
      ((λ z. omega (arith, header.header.typed)), header.type)

  -- all fit exactly if all are sound: either way each of them has one of the types
  pub instances_by_parts : (live : Live) → live ≡ live_in t Model → all_b (count_of Instance) (instance_fits t live) ≡ sound_instances t
  instances_by_parts live e = rw e (same_test _ _ (record { holds = λ f. sym (exact (typed_fits f)) ∙ f; passes = λ s. exact (typed_sound s) ∙ s }) (itself (sound_instances t)))
    where
      exact : AllTyped t → all_b (count_of Instance) (instance_fits t (live_in t Model)) ≡ sound_instances t
      exact typed = all_same (count_of Instance) (instance_fits t (live_in t Model)) (sound_instance t) (λ i l. instance_by_parts typed i)

-- the words of an instance, where they stand
module _ (t : List ℕ) (live : Live) (i : ℕ) (within : i < count_of Instance) where
  abbrev value_word : ℕ → ℕ
  value_word k = get_or t (place_of Instance i + (1 + k)) 0

  value_there : (k : ℕ) → k < values → value_at t i k ≡ value_word k
  value_there k l = rw ((entry_test Instance i (1 + k)).passes (within, omega arith))

  pub fits_there : (let h = get_or t (place_of Instance i) 0 in
      cond (eqb h 0) (no_value value_word) (live_fits t live h value_word) ≡ instance_fits t live i)
  unfolding all_b
  fits_there = rw (first_word t Instance i within, value_there 0 (omega arith), value_there 1 (omega arith), value_there 2 (omega arith), value_there 3 (omega arith))
