-- Record after record.
use Rattle.std.specs.Prelude.{◌≡◌, Option, None, Some, refl, Bool, true, false, cond, ◌&&◌, List, [], ◌∷◌, ◌++◌, ℕ, zero, suc, ◌+◌, ◌-◌, ◌≤◌, ◌<◌, leb, length, take, drop, min}
use Rattle.std.proofs.Common.{sym, ap, ◌∙◌, arith, append-nil, drop_at, length-append, length-drop, length-take, drop-drop, leb-true}
use Rattle.std.proofs.lemmas.Bool.{false≢true}
use Rattle.std.proofs.lemmas.List.{nil_from_length}
use Rattle.std.proofs.Math.Nat.{suc-sub-suc, sub-zero, zero-sub, sub-add-eq}
use Rattle.std.proofs.Math.Seq.{take-nil}
use Rattle.logic.specs.Laws.Bools.{and_left}
use Rattle.records.specs.Records.{size, marked, fields_of, record_of}
use Rattle.state.specs.declared.state.Order.{Order}
use Rattle.records.specs.Laws.Records.{record_alone}
use Rattle.records.specs.Lines.{written, after, line_text}
use Rattle.records.specs.Laws.Writing.{text_written, after_fits}
use Rattle.state.specs.declared.state.Answer.{Answer}
use Rattle.session.specs.Step.{Outcome, outcome, core}
use Rattle.reader.specs.declared.blocks.Run.{Run}
use Rattle.reader.specs.Blocks.{Here, here, after_call, after_record, stopped, after_found, after_records, after_bytes}

shorter : (b : ℕ) (bytes : List ℕ) (k : ℕ) → length (b ∷ bytes) ≤ suc k → length (drop size (b ∷ bytes)) ≤ k
shorter b bytes k h = omega (arith, length-drop size (b ∷ bytes))

-- more records than the bytes have change nothing
enough : (j k : ℕ) (bytes : List ℕ) (x : Here) → length bytes ≤ j → length bytes ≤ k → after_records j bytes x ≡ after_records k bytes x
unfolding after_records
enough zero zero bytes x h l = refl
enough zero (suc k) [] x h l = refl
enough zero (suc k) (b ∷ bytes) x h l = absurd (omega (arith, h))
enough (suc j) zero [] x h l = refl
enough (suc j) zero (b ∷ bytes) x h l = absurd (omega (arith, l))
enough (suc j) (suc k) [] x h l = refl
enough (suc j) (suc k) (b ∷ bytes) x h l =
    let next = after_found (record_of (b ∷ bytes)) x in
    ap (λ (y : Here). cond next.on y next) (enough j k (drop size (b ∷ bytes)) next (shorter b bytes j h) (shorter b bytes k l))

-- no bytes; the last record; one of several
pub bytes_none : (bytes : List ℕ) (x : Here) → length bytes ≡ 0 → after_bytes bytes x ≡ x
unfolding after_records
bytes_none [] x h = refl
bytes_none (b ∷ bytes) x h = absurd (omega (arith, h))

pub bytes_last : (bytes : List ℕ) (x : Here) → 0 < length bytes → (after_found (record_of bytes) x).on ≡ false → after_bytes bytes x ≡ after_found (record_of bytes) x
unfolding after_records
bytes_last [] x h e = absurd (omega (arith, h))
bytes_last (b ∷ bytes) x h e = rw e

pub bytes_more : (bytes : List ℕ) (x : Here) → 0 < length bytes → (after_found (record_of bytes) x).on ≡ true
    → after_bytes bytes x ≡ after_bytes (drop size bytes) (after_found (record_of bytes) x)
unfolding after_records
bytes_more [] x h e = absurd (omega (arith, h))
bytes_more (b ∷ bytes) x h e =
    let next = after_found (record_of (b ∷ bytes)) x in
    rw e (enough (length bytes) (length (drop size (b ∷ bytes))) (drop size (b ∷ bytes)) next (shorter b bytes (length bytes) (omega arith)) (omega arith))

-- the program goes on only behind a whole record
pub whole_record : (bytes : List ℕ) (x : Here) → (after_found (record_of bytes) x).on ≡ true → size ≤ length bytes
whole_record bytes x e = tell (leb size (length bytes) && marked bytes) refl e
  where
    tell : (b : Bool) → (leb size (length bytes) && marked bytes) ≡ b → (after_found (cond b (Some (fields_of bytes)) None) x).on ≡ true → size ≤ length bytes
    tell true h p = leb-true size (length bytes) (and_left (leb size (length bytes)) (marked bytes) h)
    tell false h p = absurd (false≢true p)

-- a part that starts later
pub drop_take : (m n : ℕ) (l : List ℕ) → drop m (take n l) ≡ take (n - m) (drop m l)
drop_take zero n l = rw (sub-zero n)
drop_take (suc m) zero l = rw (zero-sub (suc m))
drop_take (suc m) (suc n) [] = sym (take-nil (suc n - suc m))
drop_take (suc m) (suc n) (x ∷ l) = rw (suc-sub-suc n m) (drop_take m n l)

pub part_length : (from got : ℕ) (bytes : List ℕ) → got ≤ length bytes → length (take (got - from) (drop from bytes)) ≡ got - from
part_length from got bytes h = simp (length-take, length-drop) (omega arith)

pub next_part : (bytes : List ℕ) (from got : ℕ) → drop size (take (got - from) (drop from bytes)) ≡ take (got - (from + size)) (drop (from + size) bytes)
next_part bytes from got = drop_take size (got - from) (drop from bytes) ∙ rw (drop-drop size from bytes) (ap (λ (k : ℕ). take k (drop (from + size) bytes)) (sym (sub-add-eq got from size)))

-- the part of a block from one position to another
abbrev pub part_of : List ℕ → ℕ → ℕ → List ℕ
part_of block from got = take (got - from) (drop from block)

-- its first record leaves the program at y: it stops there, or it goes on behind that record
module _ (block : List ℕ) (from got : ℕ) (x y : Here) (some : from < got) (long : got ≤ length block)
    (e : y ≡ after_found (record_of (part_of block from got)) x) where
  there : 0 < length (part_of block from got)
  there = omega (arith, part_length from got block long)

  pub part_last : y.on ≡ false → y ≡ after_bytes (part_of block from got) x
  part_last off = e ∙ sym (bytes_last (part_of block from got) x there (rw e at off))

  pub part_whole : y.on ≡ true → from + size ≤ got
  part_whole on = omega (arith, part_length from got block long, whole_record (part_of block from got) x (rw e at on))

  pub part_more : y.on ≡ true → after_bytes (part_of block (from + size) got) y ≡ after_bytes (part_of block from got) x
  part_more on =
      ap (λ (l : List ℕ). after_bytes l y) (sym (next_part block from got))
      ∙ ap (after_bytes (drop size (part_of block from got))) e
      ∙ sym (bytes_more (part_of block from got) x there (rw e at on))

-- ---- the bytes cut into records, the last of which may be shorter

-- the first part leaves the program at y: it stops there, or it goes on behind that record
module _ (bytes part rest : List ℕ) (x y : Here) (split : bytes ≡ part ++ rest) (cut : length part ≡ min size (length bytes)) (some : 0 < length bytes)
    (e : y ≡ after_found (record_of part) x) where
  first : record_of part ≡ record_of bytes
  first = by_length (length rest) refl
    where
      by_length : (n : ℕ) → length rest ≡ n → record_of part ≡ record_of bytes
      by_length zero l = ap record_of (sym (append-nil part) ∙ ap (λ (t : List ℕ). part ++ t) (sym (nil_from_length rest l)) ∙ sym split)
      by_length (suc n) l = sym (record_alone part rest (omega (arith, ap length split, length-append part rest))) ∙ ap record_of (sym split)

  found : y ≡ after_found (record_of bytes) x
  found = e ∙ ap (λ (r : Option Order). after_found r x) first

  pub chunk_last : y.on ≡ false → y ≡ after_bytes bytes x
  chunk_last off = found ∙ sym (bytes_last bytes x some (rw found at off))

  pub chunk_whole : y.on ≡ true → length bytes ≡ size + length rest
  chunk_whole on = omega (arith, whole_record bytes x (rw found at on), ap length split, length-append part rest)

  pub chunk_more : y.on ≡ true → after_bytes rest y ≡ after_bytes bytes x
  chunk_more on =
      ap (λ (l : List ℕ). after_bytes l y) (sym (drop_at part rest size (omega (arith, chunk_whole on, ap length split, length-append part rest))) ∙ ap (drop size) (sym split))
      ∙ ap (after_bytes (drop size bytes)) found
      ∙ sym (bytes_more bytes x some (rw found at on))

-- ---- one line more

module _ (start : Run) (out after_out : List ℕ) (next : ℕ) (text : List ℕ) (room : start.at + 64 ≤ length out) (short : length text ≤ 64)
    (e : after_out ≡ written out start.at text) (p : next ≡ after out start.at text) where
  fits : start.at + length text ≤ length out
  fits = omega arith

  pub text_more : take next after_out ≡ take start.at out ++ text
  text_more = rw (e, p) (text_written out start.at text fits)

  pub at_most : next ≤ start.at + 64
  at_most = rw p (omega (arith, after_fits out start.at text fits))

-- both at once, as the contract of a line has it
pub text_stands : (start : Run) (out after_out : List ℕ) (next : ℕ) (text : List ℕ) → start.at + 64 ≤ length out → length text ≤ 64
    → (after_out ≡ written out start.at text) × (next ≡ after out start.at text) → (take next after_out ≡ take start.at out ++ text) × (next ≤ start.at + 64)
text_stands start out after_out next text room short w =
    (text_more start out after_out next text room short w.0 w.1, at_most start out after_out next text room short w.0 w.1)

-- the run behind a call
abbrev pub called : Run → Answer → ℕ → Run
called start answer next = record { session = answer.session; done = start.done + 1; at = next; on = true }

-- the run behind a last line
abbrev pub halted : Run → ℕ → Run
halted start next = record { session = start.session; done = start.done; at = next; on = false }

pub call_stands : (start : Run) (rec : Order) (out w k after_out w' k' : List ℕ) (answer : Answer) (next : ℕ)
    → outcome answer w' k' ≡ core rec.op rec.a rec.b rec.c start.session w k
    → take next after_out ≡ take start.at out ++ line_text (start.done + 1) rec.op answer.refusal answer.value answer.place
    → here (called start answer next) after_out w' k' ≡ after_record rec (here start out w k)
call_stands start rec out w k after_out w' k' answer next e t =
    ap (λ (s : List ℕ). record { session = answer.session; working = w'; kept = k'; done = start.done + 1; on = true; text = s }) t
    ∙ ap (λ (o : Outcome). after_call rec.op o (here start out w k)) e

pub halt_stands : (start : Run) (out w k after_out line : List ℕ) (next : ℕ) → take next after_out ≡ take start.at out ++ line
    → here (halted start next) after_out w k ≡ stopped line (here start out w k)
halt_stands start out w k after_out line next t =
    ap (λ (s : List ℕ). record { session = start.session; working = w; kept = k; done = start.done; on = false; text = s }) t
