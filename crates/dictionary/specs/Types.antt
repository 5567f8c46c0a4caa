-- The types by name, and their numbers.
use Rattle.std.specs.Prelude.{◌≡◌, false, ℕ, Result, MatchResult}
use Rattle.dictionary.specs.declared.types.Type as type
use Rattle.dictionary.specs.declared.types.Type.TheVariants.{Item, Part, Plate, Cavity, Assembly, Event, ShotCount, Repair, Reading, Wear}
use Rattle.dictionary.specs.declared.types.NoType.{NoType}
use Rattle.dictionary.specs.Dictionary.{is_type}

abbrev pub number_of : type.Type → ℕ
number_of Item = 0
number_of Part = 1
number_of Plate = 2
number_of Cavity = 3
number_of Assembly = 4
number_of Event = 5
number_of ShotCount = 6
number_of Repair = 7
number_of Reading = 8
number_of Wear = 9

-- the type with this number, or an error for a number that no type has
abbrev pub TypeAt : ℕ → Result type.Type NoType → Type 0
TypeAt t r = MatchResult r (λ ty. number_of ty ≡ t) (λ e. is_type t ≡ false)
