-- Record after record by `core`, as the code goes, is the run of the input's calls, and the text is its lines.
use Rattle.std.specs.Prelude.{◌≡◌, Option, None, Some, Bool, cond, ◌&&◌, List, [], ◌∷◌, ◌++◌, ℕ, zero, suc, ◌+◌, ◌<◌, leb, ltb, length, get_or, take, drop}
use Rattle.std.proofs.Math.Path.{refl, ap}
use Rattle.std.proofs.Common.{sym, ◌∙◌, append-nil, mod-eq_of_lt, add-one, arith, length-take, get_or-take, get_or-drop, ltb-true, ltb-false}
use Rattle.std.proofs.Math.Bool.{true, false}
use Rattle.std.proofs.Math.ListN.{get_or-eq_default}
use Rattle.state.specs.declared.state.Order.{Order}
use Rattle.records.specs.Records.{size, marked, long_at, fields_of}
use Rattle.session.specs.Step.{core}
use Rattle.session.specs.Runs.{Call, Answered, Machine, Chip, fresh_chip, outcome_by, after_by, history_by, history}
use Rattle.promises.proofs.Fresh.{fresh_chip_lem}
use Rattle.promises.proofs.Reached.{core_alike, same_history}
use Rattle.reader.specs.Blocks.{Here, after_call, after_record, after_bad, after_found, after_records, after_bytes, after_end, start}
use Rattle.reader.specs.Printed.{Input, call_of, with_record, input_in, input_of, lines_of, last_line, printed, whole_in, whole_of, printed_so_far, Bytes}
use Rattle.reader.specs.Reads.{joined, writes, at_end, not_yet, begun}
use Rattle.reader.specs.Laws.Reads.{reads_end, reads_so_far}

-- bytes behind others, and a number of four of them
bytes_behind : (n : ℕ) (s : List ℕ) → Bytes s → Bytes (drop n s)
bytes_behind n s h i = rw get_or-drop (h (n + i))

bytes_before : (n : ℕ) (s : List ℕ) → Bytes s → Bytes (take n s)
bytes_before n s h i = by_cases (ltb i n) refl
  where
    by_cases : (b : Bool) → ltb i n ≡ b → get_or (take n s) i 0 < 256
    by_cases true e = rw (get_or-take n s i 0 (ltb-true i n e)) (h i)
    by_cases false e = omega (arith, get_or-eq_default (take n s) 0 {n = i} (omega (arith, length-take n s, ltb-false i n e)))

long_small : (s : List ℕ) (at : ℕ) → Bytes s → long_at s at < 0x1_0000_0000
long_small s at h = omega (arith, h at, h (at + 1), h (at + 2), h (at + 2 + 1))

history_length : (machine : Machine) (begun : Chip) (calls : List Call) → length (history_by machine begun calls) ≡ length calls
unfolding history_by
history_length machine begun [] = refl
history_length machine begun (q ∷ calls) = ap suc (history_length machine begun calls)

-- where the program stands after these calls
standing : List Call → Here
standing calls =
    let chip = after_by core fresh_chip calls in
    record {
      session = chip.session;
      working = chip.working;
      kept = chip.kept;
      done = length calls;
      on = true;
      text = lines_of (history_by core fresh_chip calls);
    }

one_call : (q : Call) (calls : List Call) → after_call q.op (outcome_by core (after_by core fresh_chip calls) q) (standing calls) ≡ standing (q ∷ calls)
unfolding standing after_by history_by lines_of
one_call q calls = rw (history_length core fresh_chip calls, add-one (length calls))

one_more : (r : Order) (calls : List Call) → r.c < 0x1_0000_0000 → after_record r (standing calls) ≡ standing (call_of r ∷ calls)
unfolding standing
one_more r calls h =
    let chip = after_by core fresh_chip calls in
    ap
    (λ (c : ℕ). after_call r.op (core r.op r.a r.b c chip.session chip.working chip.kept) (standing calls))
    (sym (mod-eq_of_lt h))
    ∙ one_call (call_of r) calls

-- and where it comes to with an input
came : Input → Here
came input = cond input.proper (standing input.calls) (after_bad (standing input.calls))

module _ (k : ℕ) (s : List ℕ) (calls : List Call) (h : Bytes s)
    (later : (earlier : List Call) → after_records k (drop size s) (standing earlier) ≡ came (input_in k (drop size s) earlier)) where
  record_run : (b : Bool) → (let f : Option Order = cond b (Some (fields_of s)) None in
      cond (after_found f (standing calls)).on (after_records k (drop size s) (after_found f (standing calls))) (after_found f (standing calls))
      ≡ came (with_record f calls (input_in k (drop size s))))
  unfolding came
  record_run true = ap (after_records k (drop size s)) (one_more (fields_of s) calls (long_small s 12 h)) ∙ later (call_of (fields_of s) ∷ calls)
  record_run false = refl

records_run : (k : ℕ) (bytes : List ℕ) (calls : List Call) → Bytes bytes → after_records k bytes (standing calls) ≡ came (input_in k bytes calls)
unfolding after_records input_in came
records_run zero bytes calls h = refl
records_run (suc k) [] calls h = refl
records_run (suc k) (b ∷ bytes) calls h =
    let s = b ∷ bytes in
    record_run k s calls h (λ earlier. records_run k (drop size s) earlier (bytes_behind size s h)) (leb size (length s) && marked s)

text_ended : (calls : List Call) (b : Bool)
    → (after_end (cond b (standing calls) (after_bad (standing calls)))).text ≡ lines_of (history_by core fresh_chip calls) ++ last_line b (length calls)
unfolding standing
text_ended calls true = refl
text_ended calls false = refl

text_so_far : (calls : List Call) (b : Bool)
    → (cond b (standing calls) (after_bad (standing calls))).text ≡ lines_of (history_by core fresh_chip calls) ++ cond b [] (last_line false (length calls))
unfolding standing
text_so_far calls true = sym (append-nil (lines_of (history_by core fresh_chip calls)))
text_so_far calls false = refl

-- what a run of bytes comes to, by the history that `call` gives
came_to : (bytes : List ℕ) → Bytes bytes → after_bytes bytes start ≡ came (input_of bytes)
unfolding standing after_by history_by lines_of
came_to bytes h = records_run (length bytes) bytes [] h

same_lines : (calls : List Call) (l : List ℕ) → lines_of (history_by core fresh_chip calls) ++ l ≡ lines_of (history fresh_chip calls) ++ l
same_lines calls l = ap (λ (past : List Answered). lines_of past ++ l) (same_history fresh_chip fresh_chip_lem core core_alike calls)

-- what the program has printed at the end of its input is what the definition says, however the reads cut it
pub prints : (reads : List (List ℕ)) → Bytes (joined reads) → writes at_end reads begun ≡ printed (joined reads)
unfolding came
prints reads h =
    let input = input_of (joined reads) in
    reads_end reads start refl refl
    ∙ ap (λ (x : Here). (after_end x).text) (came_to (joined reads) h)
    ∙ text_ended input.calls input.proper
    ∙ same_lines input.calls (last_line input.proper (length input.calls))

-- and before the end: every record that is whole has its line
pub prints_so_far : (reads : List (List ℕ)) → Bytes (joined reads) → writes not_yet reads begun ≡ printed_so_far (joined reads)
unfolding came
prints_so_far reads h =
    let bytes = whole_of (joined reads) in
    let input = input_of bytes in
    reads_so_far reads start refl refl
    ∙ ap (λ (x : Here). x.text) (came_to bytes (bytes_before (whole_in (joined reads)) (joined reads) h))
    ∙ text_so_far input.calls input.proper
    ∙ same_lines input.calls (cond input.proper [] (last_line false (length input.calls)))
