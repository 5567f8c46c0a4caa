-- The default of a `match` on a number: the number is none of the arms' keys.
use mathlib.Core.Path.{◌≡◌, refl}
use mathlib.Core.Bool.{Bool, true, false, ◌||◌}
use mathlib.Core.List.{List, [], ◌∷◌}
use Prim.Native.Nat.{ℕ, ◌<◌}
use lib.Dec.{eqb}
use borrow.Author.Tests.{ne_eqb, ltb-true}
use Rattle.dictionary.specs.Dictionary.{types, is_type, the_table}

-- what the default knows, of the keys from the last arm up to the first
abbrev pub NoneOf : List ℕ → ℕ → Type 0
NoneOf [] t = Unit {0}
NoneOf (k ∷ ks) t = NoneOf ks t × (t ≡ k → ⊥)

unfoldable pub among : List ℕ → ℕ → Bool
among [] t = false
among (k ∷ ks) t = eqb t k || among ks t

pub none_among : (ks : List ℕ) (t : ℕ) → NoneOf ks t → among ks t ≡ false
unfolding among
none_among [] t n = refl
none_among (k ∷ ks) t n = rw (ne_eqb t k n.1) (none_among ks t n.0)

-- a number that is a type indexes a table with a row or a bit for each
pub below_types : {t : ℕ} → is_type t ≡ true → t < 10
unfolding is_type the_table
below_types {t} e = ltb-true t types e
