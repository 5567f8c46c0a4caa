-- What a run of bytes does, record by record.
use Rattle.std.specs.Prelude.{ℕ, zero, suc, ◌+◌, ◌*◌, ◌≤◌, ◌<◌, Option, None, Some, Bool, true, false, cond, List, [], ◌∷◌, ◌++◌, length, take, drop}
use Rattle.state.specs.declared.state.Order.{Order}
use Rattle.records.specs.Records.{size, record_of}
use Rattle.records.specs.Lines.{line_text, bad_text, end_text}
use Rattle.state.specs.declared.state.Session.{Session}
use Rattle.session.specs.Step.{Outcome, core}
use Rattle.session.specs.Runs.{fresh_session, fresh_table}
use Rattle.reader.specs.declared.blocks.Run.{Run}

-- the records of a block, and the bytes that a line has room in
abbrev pub block_records : ℕ
block_records = 1024

abbrev pub line_room : ℕ
line_room = 64

-- the output has room for the line of each, and for two lines more
abbrev pub block_size : ℕ
block_size = block_records * size

abbrev pub out_size : ℕ
out_size = (block_records + 2) * line_room

-- where the program stands between two records: how many are done, whether it goes on, and the text that it has for printing
pub record Here : Type 0 where
  pub session : Session
  pub working : List ℕ
  pub kept : List ℕ
  pub done : ℕ
  pub on : Bool
  pub text : List ℕ

-- the text is what stands in the output before the next position
abbrev pub here : Run → List ℕ → List ℕ → List ℕ → Here
here run out working kept =
    record { session = run.session; working = working; kept = kept; done = run.done; on = run.on; text = take run.at out }

-- room for one line more, and a count that does not wrap
pub record Room (run : Run) (out : List ℕ) : Type 0 where
  pub fits : run.at + line_room ≤ length out
  pub counts : run.done + 1 < 0x1_0000_0000_0000_0000

-- one line later
pub record Moved (start run : Run) : Type 0 where
  pub short : run.at ≤ start.at + line_room
  pub one : run.done ≤ start.done + 1

-- a record was done: its line, counted from 1
abbrev pub after_call : ℕ → Outcome → Here → Here
after_call op o x =
    record {
      session = o.answer.session;
      working = o.working;
      kept = o.kept;
      done = x.done + 1;
      on = true;
      text = x.text ++ line_text (x.done + 1) op o.answer.refusal o.answer.value o.answer.place;
    }

abbrev pub after_record : Order → Here → Here
after_record r x = after_call r.op (core r.op r.a r.b r.c x.session x.working x.kept) x

-- the program stops behind a last line
abbrev pub stopped : List ℕ → Here → Here
stopped line x = record { session = x.session; working = x.working; kept = x.kept; done = x.done; on = false; text = x.text ++ line }

-- a bad record: its count is one more than the records done
abbrev pub after_bad : Here → Here
after_bad x = stopped (bad_text (x.done + 1)) x

abbrev pub after_found : Option Order → Here → Here
after_found (Some r) x = after_record r x
after_found None x = after_bad x

-- "a proper end": the input is over, and no record of it was bad
abbrev pub after_end : Here → Here
after_end x = cond x.on (stopped (end_text x.done) x) x

-- at most k records of the bytes, each from where it begins
unfoldable pub after_records : ℕ → List ℕ → Here → Here
after_records zero bytes x = x
after_records (suc k) [] x = x
after_records (suc k) (b ∷ bytes) x =
    let next = after_found (record_of (b ∷ bytes)) x in
    cond next.on (after_records k (drop size (b ∷ bytes)) next) next

-- all of them: there are no more records than bytes
abbrev pub after_bytes : List ℕ → Here → Here
after_bytes bytes x = after_records (length bytes) bytes x

-- the start
abbrev pub fresh_run : Run
fresh_run = record { session = fresh_session; done = 0; at = 0; on = true }

abbrev pub start : Here
start = here fresh_run [] fresh_table fresh_table
