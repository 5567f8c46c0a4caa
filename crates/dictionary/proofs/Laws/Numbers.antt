-- Types and their numbers: a type's number is one of a type, no two types have one number, and so a number leaves one answer.
use Rattle.std.specs.Prelude.{◌≡◌, refl, true, [], ◌∷◌, ℕ, Result, Ok, Err, get_or}
use Rattle.std.proofs.Common.{sym, ◌∙◌, ap}
use Rattle.std.proofs.lemmas.Bool.{false≢true}
use Rattle.dictionary.specs.declared.types.Type as type
use Rattle.dictionary.specs.declared.types.Type.TheVariants.{Item, Part, Plate, Cavity, Assembly, Event, ShotCount, Repair, Reading, Wear}
use Rattle.dictionary.specs.declared.types.NoType.{NoType}
use Rattle.dictionary.specs.Dictionary.{is_type, the_table}
use Rattle.dictionary.specs.Types.{number_of, TypeAt}

abbrev with_number : ℕ → type.Type
with_number t = get_or (Item ∷ Part ∷ Plate ∷ Cavity ∷ Assembly ∷ Event ∷ ShotCount ∷ Repair ∷ Reading ∷ Wear ∷ []) t Item

number_lem : (ty : type.Type) → (is_type (number_of ty) ≡ true) × (with_number (number_of ty) ≡ ty)
unfolding the_table
number_lem Item = (refl, refl)
number_lem Part = (refl, refl)
number_lem Plate = (refl, refl)
number_lem Cavity = (refl, refl)
number_lem Assembly = (refl, refl)
number_lem Event = (refl, refl)
number_lem ShotCount = (refl, refl)
number_lem Repair = (refl, refl)
number_lem Reading = (refl, refl)
number_lem Wear = (refl, refl)

pub number_type : (ty : type.Type) → is_type (number_of ty) ≡ true
number_type ty = (number_lem ty).0

pub number_one : (x y : type.Type) → number_of x ≡ number_of y → x ≡ y
number_one x y e = sym (number_lem x).1 ∙ ap with_number e ∙ (number_lem y).1

pub type_at_one : (t : ℕ) (r s : Result type.Type NoType) → TypeAt t r → TypeAt t s → r ≡ s
type_at_one t (Ok x) (Ok y) p q = ap Ok (number_one x y (p ∙ sym q))
type_at_one t (Ok x) (Err e) p q = absurd (false≢true (sym q ∙ ap is_type (sym p) ∙ number_type x))
type_at_one t (Err e) (Ok y) p q = absurd (false≢true (sym p ∙ ap is_type (sym q) ∙ number_type y))
type_at_one t (Err e) (Err f) p q = refl
