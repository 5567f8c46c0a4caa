-- The dictionary of types. `dictionary` is the page's table, row by row; every other definition is derived from it.
use Rattle.std.specs.Prelude.{Bool, true, false, List, [], ◌∷◌, ◌++◌, ℕ, zero, suc, ◌-◌, ltb, length, get_or, replicate, Option, None, Some, slice_get}
use Prim.Native.Char.{code}
use Prim.Native.String.{String}
use Prim.Native.String as text
use Rattle.dictionary.specs.declared.answers.Attribute.{Attribute}
use Rattle.dictionary.specs.declared.answers.Attribute.TheVariants.{Whole, Reference}
use Rattle.dictionary.specs.declared.answers.Name.{Name}

pub record Row : Type 0 where
  pub name : String
  pub parent : Option ℕ
  pub schema : ℕ
  pub own : List Attribute

abbrev pub row : String → Option ℕ → ℕ → List Attribute → Row
row n p s o = record { name = n; parent = p; schema = s; own = o }

-- the page's letters for the two kinds of attribute
abbrev pub I : Attribute
I = Whole

abbrev pub R : ℕ → Attribute
R t = Reference t

-- name, parent, schema, own attributes
unfoldable pub dictionary : List Row
dictionary =
    row "item" None 1 (I ∷ [])  -- 0: I number
    ∷ row "part" (Some 0) 1 (I ∷ [])  -- 1: I mass
    ∷ row "plate" (Some 1) 1 (I ∷ [])  -- 2: I thickness
    ∷ row "cavity" (Some 1) 1 (R 2 ∷ [])  -- 3: R 2
    ∷ row "assembly" (Some 0) 1 (R 0 ∷ [])  -- 4: R 0
    ∷ row "event" None 1 (I ∷ [])  -- 5: I day
    ∷ row "shot_count" (Some 5) 1 (R 1 ∷ I ∷ [])  -- 6: R 1, I shots
    ∷ row "repair" (Some 5) 1 (R 1 ∷ [])  -- 7: R 1
    ∷ row "reading" None 2 (I ∷ [])  -- 8: I value
    ∷ row "wear" (Some 8) 2 (R 8 ∷ [])  -- 9: R 8
    ∷ []

-- what is said of a number that is no type
abbrev pub blank : Row
blank = row "" None 0 []

unfoldable pub row_of : ℕ → Row
row_of t = get_or dictionary t blank

-- how many types there are
unfoldable pub types : ℕ
types = length dictionary

unfoldable pub is_type : ℕ → Bool
is_type t = ltb t types

unfoldable pub parent_of : ℕ → Option ℕ
parent_of t = (row_of t).parent

unfoldable pub schema_of : ℕ → ℕ
schema_of t = (row_of t).schema

unfoldable pub own_of : ℕ → List Attribute
own_of t = (row_of t).own

-- the bytes of a text of plain letters
unfoldable pub bytes_of : String → List ℕ
bytes_of text.[] = []
bytes_of (text.◌∷◌ c s) = code c ∷ bytes_of s

abbrev pub name_in : ℕ → List ℕ → Name
name_in n b = record { len = n; bytes = b }

-- the places past a name's end, up to the ten that the longest takes, are 0
abbrev pub padded : List ℕ → Name
padded b = name_in (length b) (b ++ replicate (10 - length b) 0)

unfoldable pub name_of : ℕ → Name
name_of t = padded (bytes_of (row_of t).name)

-- what g says of the parent, or e where there is none
abbrev pub above : {A : Type 0} → A → (ℕ → A) → Option ℕ → A
above e g None = e
above e g (Some p) = g p

-- From a type up to its root: f makes the answer for a type from the type and the answer for its parent, e where there
-- is none. A parent's number is lower, so a type's number bounds the steps (`climb_step` in `Laws/Types.antt`).
unfoldable pub climbing : {A : Type 0} → A → (ℕ → A → A) → ℕ → ℕ → A
climbing e f zero t = e
climbing e f (suc n) t = f t (above e (climbing e f n) (parent_of t))

unfoldable pub climb : {A : Type 0} → A → (ℕ → A → A) → ℕ → A
climb e f t = climbing e f (suc t) t

-- what is inherited, and then its own
unfoldable pub attributes_of : ℕ → List Attribute
attributes_of t = climb [] (λ u inherited. inherited ++ own_of u) t

unfoldable pub attribute_of : ℕ → ℕ → Option Attribute
attribute_of t k = slice_get (attributes_of t) k

-- a type has no such attribute
abbrev pub lacks : Option Attribute → Bool
lacks None = true
lacks (Some x) = false

abbrev pub is_reference : Option Attribute → Bool
is_reference None = false
is_reference (Some Whole) = false
is_reference (Some (Reference t)) = true

-- an `unfolding` line that names this opens the table and all that is read off it
unfoldable pub the_table : Unit {0}
unfolding dictionary types row_of is_type parent_of schema_of own_of bytes_of name_of climbing climb attributes_of attribute_of
the_table = tt
