-- What the program prints, by the run of the calls that the records of its input are.
use Rattle.std.specs.Prelude.{ℕ, zero, suc, ◌+◌, ◌*◌, ◌/◌, ◌<◌, Option, None, Some, Bool, true, false, cond, List, [], ◌∷◌, ◌++◌, length, get_or, take, drop}
use Rattle.state.specs.declared.state.Order.{Order}
use Rattle.records.specs.Records.{size, record_of}
use Rattle.records.specs.Lines.{line_text, bad_text, end_text}
use Rattle.session.specs.Runs.{Call, call, Answered, fresh_chip, history}

-- the calls of an input, the latest first, and whether it came to "a proper end"
pub record Input : Type 0 where
  pub calls : List Call
  pub proper : Bool

abbrev pub call_of : Order → Call
call_of r = call r.op r.a r.b r.c

-- one record more, and then the rest, unless it is bad
abbrev pub with_record : Option Order → List Call → (List Call → Input) → Input
with_record (Some r) earlier rest = rest (call_of r ∷ earlier)
with_record None earlier rest = record { calls = earlier; proper = false }

-- at most k records of the bytes, behind those that came earlier
unfoldable pub input_in : ℕ → List ℕ → List Call → Input
input_in zero bytes earlier = record { calls = earlier; proper = true }
input_in (suc k) [] earlier = record { calls = earlier; proper = true }
input_in (suc k) (b ∷ bytes) earlier = with_record (record_of (b ∷ bytes)) earlier (input_in k (drop size (b ∷ bytes)))

-- all of them: there are no more records than bytes
abbrev pub input_of : List ℕ → Input
input_of bytes = input_in (length bytes) bytes []

-- a line for each record, counted from 1
unfoldable pub lines_of : List Answered → List ℕ
lines_of [] = []
lines_of (x ∷ earlier) = lines_of earlier ++ line_text (length earlier + 1) x.call.op x.refusal x.value x.place

-- the last line: the records done, or the count of the bad one
abbrev pub last_line : Bool → ℕ → List ℕ
last_line true n = end_text n
last_line false n = bad_text (n + 1)

abbrev pub printed_for : Input → List ℕ
printed_for input = lines_of (history fresh_chip input.calls) ++ last_line input.proper (length input.calls)

-- all that the program prints
abbrev pub printed : List ℕ → List ℕ
printed bytes = printed_for (input_of bytes)

-- ---- while the input goes on

-- how many of the bytes are whole records
abbrev pub whole_in : List ℕ → ℕ
whole_in bytes = size * (length bytes / size)

abbrev pub whole_of : List ℕ → List ℕ
whole_of bytes = take (whole_in bytes) bytes

-- a bad record has its line at once, an end has none yet
abbrev pub so_far_for : Input → List ℕ
so_far_for input = lines_of (history fresh_chip input.calls) ++ cond input.proper [] (last_line false (length input.calls))

-- what is printed once these bytes have come: a record that is not whole waits
abbrev pub printed_so_far : List ℕ → List ℕ
printed_so_far bytes = so_far_for (input_of (whole_of bytes))

-- what is read is bytes
abbrev pub Bytes : List ℕ → Type 0
Bytes s = (i : ℕ) → get_or s i 0 < 256
