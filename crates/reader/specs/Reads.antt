-- What the program writes, read by read, however the input is cut.
use Rattle.std.specs.Prelude.{ℕ, cond, List, [], ◌∷◌, ◌++◌, take, drop}
use Rattle.reader.specs.declared.blocks.Run.{Run}
use Rattle.reader.specs.Blocks.{Here, here, after_bytes, after_end, start}
use Rattle.reader.specs.Printed.{whole_in, whole_of}

-- where the program stands between two reads, and the bytes of a record that is not whole yet
pub record Between : Type 0 where
  pub stands : Here
  pub rest : List ℕ

-- those bytes are the first ones of the block
abbrev pub between : Run → ℕ → List ℕ → List ℕ → List ℕ → List ℕ → Between
between run held block out working kept = record { stands = here run out working kept; rest = take held block }

-- these bytes came: every record that is whole by now, and what is left of them
abbrev pub after_read : List ℕ → Between → Between
after_read came x =
    let bytes = x.rest ++ came in
    record { stands = after_bytes (whole_of bytes) x.stands; rest = drop (whole_in bytes) bytes }

-- the input is over: what is left, if anything, is a cut record
abbrev pub after_last : Between → Here
after_last x = after_end (after_bytes x.rest x.stands)

-- the text is out, and the next begins
abbrev pub silent : Here → Here
silent x = record { session = x.session; working = x.working; kept = x.kept; done = x.done; on = x.on; text = [] }

abbrev pub flushed : Between → Between
flushed x = record { stands = silent x.stands; rest = x.rest }

-- all the bytes of some reads, and what is written for them, each read's text behind it; a bad record ends it
unfoldable pub joined : List (List ℕ) → List ℕ
joined [] = []
joined (came ∷ later) = came ++ joined later

unfoldable pub writes : (Between → List ℕ) → List (List ℕ) → Between → List ℕ
writes last [] x = last x
writes last (came ∷ later) x =
    let y = after_read came x in
    y.stands.text ++ cond y.stands.on (writes last later (flushed y)) []

-- behind the reads: the input is over, or it goes on
abbrev pub at_end : Between → List ℕ
at_end x = (after_last x).text

abbrev pub not_yet : Between → List ℕ
not_yet x = []

-- the start
abbrev pub begun : Between
begun = record { stands = start; rest = [] }
