-- The record that a run of bytes begins with.
use Rattle.std.specs.Prelude.{ℕ, ◌+◌, ◌*◌, Bool, cond, ◌&&◌, List, Option, None, Some, eqb, leb, length, get_or}
use Rattle.state.specs.declared.state.Order.{Order}

-- CHIP, reader
abbrev pub size : ℕ
size = 16

-- the two bytes that a record begins with
abbrev pub marked : List ℕ → Bool
marked s = eqb (get_or s 0 0) 0x53 && eqb (get_or s 1 0) 0x44

-- numbers of two and of four bytes, the lowest first
abbrev pub short_at : List ℕ → ℕ → ℕ
short_at s at = get_or s at 0 + 256 * get_or s (at + 1) 0

abbrev pub long_at : List ℕ → ℕ → ℕ
long_at s at = short_at s at + 65536 * short_at s (at + 2)

-- the operation has two bytes, an argument four
abbrev pub fields_of : List ℕ → Order
fields_of s = record { op = short_at s 2; a = long_at s 4; b = long_at s 8; c = long_at s 12 }

-- bad if it is cut or its mark is wrong: there is none then
abbrev pub record_of : List ℕ → Option Order
record_of s = cond (leb size (length s) && marked s) (Some (fields_of s)) None
