-- Read by read is the same as all the bytes at once, however they were cut.
use Rattle.std.specs.Prelude.{◌≡◌, Bool, true, false, cond, ℕ, ◌+◌, ◌-◌, ◌*◌, ◌/◌, ◌%◌, ◌≤◌, ◌<◌, length, get_or, set, take}
use Rattle.std.proofs.Math.Path.{refl, sym, ap}
use Rattle.std.proofs.Common.{◌∙◌, add-one, arith, length-append, length-drop, take-append-drop, length-take-le, take-add, take-take, get_or-drop}
use Rattle.std.proofs.lemmas.Bool.{false≢true}
use mathlib.Core.List.{List, [], ◌∷◌, ◌++◌, append_assoc, append-nil}
use Rattle.std.proofs.Math.ListN.{drop}
use Rattle.std.proofs.Math.Seq.{take-append-add, paste, paste-suc}
use Rattle.std.proofs.lemmas.List.Edits.{take-paste, drop-paste}
use Rattle.records.specs.Records.{size}
use Rattle.reader.specs.Blocks.{Here, after_bytes, after_end}
use Rattle.reader.specs.Printed.{whole_in, whole_of}
use Rattle.reader.specs.Reads.{Between, after_read, after_last, silent, flushed, joined, writes, at_end, not_yet}
use Rattle.reader.specs.Laws.Blocks.{bytes_none, drop_take}
use Rattle.reader.specs.Laws.Whole.{said, text_joins}

-- the whole records of some bytes, and what is left of them
whole_length : (bytes : List ℕ) → length (whole_of bytes) ≡ size * (length bytes / size)
whole_length bytes = length-take-le (whole_in bytes) bytes (omega arith)

left_length : (bytes : List ℕ) → length (drop (whole_in bytes) bytes) < size
left_length bytes = omega (arith, length-drop (whole_in bytes) bytes)

none_whole : (rest : List ℕ) (x : Here) → length rest < size → after_bytes (whole_of rest) x ≡ x
none_whole rest x h = bytes_none (whole_of rest) x (omega (arith, whole_length rest))

-- whole records in front stay whole
whole_behind : (m : ℕ) (s t : List ℕ) → length s ≡ size * m → whole_of (s ++ t) ≡ s ++ whole_of t
whole_behind m s t h =
    let n : whole_in (s ++ t) ≡ length s + whole_in t = omega (arith, length-append s t) in
    ap (λ (k : ℕ). take k (s ++ t)) n ∙ take-append-add s t (whole_in t)

parted : (rest came later : List ℕ) → whole_of (rest ++ came) ++ (drop (whole_in (rest ++ came)) (rest ++ came) ++ later) ≡ rest ++ (came ++ later)
parted rest came later =
    let bytes = rest ++ came in
    sym (append_assoc (whole_of bytes) (drop (whole_in bytes) bytes) later)
    ∙ ap (λ (l : List ℕ). l ++ later) (take-append-drop (whole_in bytes) bytes)
    ∙ append_assoc rest came later

-- a reading of all the bytes at once that whole records in front can be parted from
module _ (last : Between → List ℕ) (whole : List ℕ → Here → List ℕ)
    (joins : (m : ℕ) (s t : List ℕ) (x : Here) → length s ≡ size * m → x.on ≡ true
    → whole (s ++ t) x ≡ (after_bytes s x).text ++ cond (after_bytes s x).on (whole t (silent (after_bytes s x))) [])
    (ends : (rest : List ℕ) (x : Here) → length rest < size → x.text ≡ [] → last (record { stands = x; rest = rest }) ≡ whole rest x) where
  goes_on : (later : List (List ℕ)) (y : Here) (rest : List ℕ) (b : Bool) → y.on ≡ b
      → (y.on ≡ true → writes last later (record { stands = silent y; rest = rest }) ≡ whole (rest ++ joined later) (silent y))
      → cond b (writes last later (record { stands = silent y; rest = rest })) [] ≡ cond b (whole (rest ++ joined later) (silent y)) []
  goes_on later y rest true e same = same e
  goes_on later y rest false e same = refl

  pub reads_join : (reads : List (List ℕ)) (x : Here) (rest : List ℕ) → x.on ≡ true → x.text ≡ [] → length rest < size
      → writes last reads (record { stands = x; rest = rest }) ≡ whole (rest ++ joined reads) x
  unfolding joined writes
  reads_join [] x rest on none h = ends rest x h none ∙ ap (λ (l : List ℕ). whole l x) (sym (append-nil rest))
  reads_join (came ∷ later) x rest on none h =
      let bytes = rest ++ came in
      let y = after_bytes (whole_of bytes) x in
      let left = drop (whole_in bytes) bytes in
      ap (λ (l : List ℕ). y.text ++ l) (goes_on later y left y.on refl (λ e. reads_join later (silent y) left e refl (left_length bytes)))
      ∙ sym (joins (length bytes / size) (whole_of bytes) (left ++ joined later) x (whole_length bytes) on)
      ∙ ap (λ (l : List ℕ). whole l x) (parted rest came (joined later))

-- at the end of the input
end_said : (p : List ℕ) (x : Here) → after_end (said p x) ≡ said p (after_end x)
end_said p x = by_cases x.on refl
  where
    by_cases : (b : Bool) → x.on ≡ b → after_end (said p x) ≡ said p (after_end x)
    by_cases true e = rw (e, append_assoc)
    by_cases false e = rw e

pub reads_end : (reads : List (List ℕ)) (x : Here) → x.on ≡ true → x.text ≡ []
    → writes at_end reads (record { stands = x; rest = [] }) ≡ (after_end (after_bytes (joined reads) x)).text
reads_end reads x on none =
    reads_join at_end (λ bytes y. (after_end (after_bytes bytes y)).text) (text_joins after_end end_said (λ y e. rw e)) (λ rest y h e. refl) reads x [] on none (omega arith)

-- and before it
pub reads_so_far : (reads : List (List ℕ)) (x : Here) → x.on ≡ true → x.text ≡ []
    → writes not_yet reads (record { stands = x; rest = [] }) ≡ (after_bytes (whole_of (joined reads)) x).text
reads_so_far reads x on none =
    reads_join not_yet (λ bytes y. (after_bytes (whole_of bytes) y).text)
    (λ m s t y h e. ap (λ (l : List ℕ). (after_bytes l y).text) (whole_behind m s t h) ∙ text_joins (λ z. z) (λ p z. refl) (λ z e. refl) m s (whole_of t) y h e)
    (λ rest y h e. sym (ap (λ (z : Here). z.text) (none_whole rest y h) ∙ e))
    reads x [] on none (omega arith)

-- ---- as the code goes

-- one byte more is moved to the front
pub carried_more : (b₀ b : List ℕ) (from i : ℕ) → from + i < length b₀ → b ≡ paste b₀ 0 (drop from b₀) i
    → set b i (get_or b (from + i) 0) ≡ paste b₀ 0 (drop from b₀) (i + 1)
carried_more b₀ b from i h e =
    let s = drop from b₀ in
    let room : i < length s = omega (arith, length-drop from b₀) in
    let none : 0 + i ≡ i = omega arith in
    let turned : from + i ≡ i + from = omega arith in
    let behind : drop i b ≡ drop i b₀ =
    ap (λ (k : ℕ). drop k b) (sym none) ∙ ap (drop (0 + i)) e ∙ drop-paste b₀ 0 s i (omega arith) (omega arith) ∙ ap (λ (k : ℕ). drop k b₀) none in
    let byte : get_or b (from + i) 0 ≡ get_or s i 0 =
    ap (λ (k : ℕ). get_or b k 0) turned
    ∙ sym (get_or-drop i b from 0)
    ∙ ap (λ (l : List ℕ). get_or l from 0) behind
    ∙ get_or-drop i b₀ from 0
    ∙ ap (λ (k : ℕ). get_or b₀ k 0) (sym turned)
    ∙ sym (get_or-drop from b₀ i 0) in
    ap (set b i) byte
    ∙ ap (λ (k : ℕ). set b k (get_or s i 0)) (sym none)
    ∙ ap (λ (l : List ℕ). set l (0 + i) (get_or s i 0)) e
    ∙ paste-suc b₀ 0 s i 0 (omega arith) room
    ∙ ap (paste b₀ 0 s) (sym (add-one i))

pub carried : (b₀ b : List ℕ) (from n : ℕ) → from + n ≤ length b₀ → b ≡ paste b₀ 0 (drop from b₀) n → take n b ≡ take n (drop from b₀)
carried b₀ b from n h e =
    let none : 0 + n ≡ n = omega arith in
    ap (λ (k : ℕ). take k b) (sym none) ∙ ap (take (0 + n)) e ∙ take-paste b₀ 0 (drop from b₀) n (omega arith) (omega (arith, length-drop from b₀))

-- the records that are whole were run, and what is left was moved to the front
pub read_stands : (b b' : List ℕ) (held got whole left : ℕ) (x y : Here) → held + got ≤ length b → left ≡ (held + got) % size → whole ≡ held + got - left
    → y ≡ after_bytes (take whole b) x → take left b' ≡ take left (drop whole b)
    → ◌≡◌ {A = Between} (record { stands = y; rest = take left b' }) (after_read (take got (drop held b)) (record { stands = x; rest = take held b }))
read_stands b b' held got whole left x y h l w e c =
    let have = held + got in
    let bytes = take have b in
    let n : whole ≡ whole_in bytes = omega (arith, length-take-le have b h) in
    let front : take whole b ≡ whole_of bytes = sym (take-take whole have b (omega arith)) ∙ ap (λ (k : ℕ). take k bytes) n in
    let r : left ≡ have - whole = omega arith in
    let behind : take left b' ≡ drop (whole_in bytes) bytes =
    c ∙ ap (λ (k : ℕ). take k (drop whole b)) r ∙ sym (drop_take whole have b) ∙ ap (λ (k : ℕ). drop k bytes) n in
    ap (λ (z : Here). record { stands = z; rest = take left b' }) (e ∙ ap (λ (s : List ℕ). after_bytes s x) front)
    ∙ ap (λ (s : List ℕ). record { stands = after_bytes (whole_of bytes) x; rest = s }) behind
    ∙ ap (λ (s : List ℕ). record { stands = after_bytes (whole_of s) x; rest = drop (whole_in s) s }) (take-add held got b)

-- the text is out, so the program goes on behind the read, and not behind the end
pub turn_stands : (came : List ℕ) (x x' y : Between) (h : Here) → h ≡ silent y.stands → y ≡ after_read came x' → x' ≡ x
    → ◌≡◌ {A = Between} (record { stands = h; rest = y.rest }) (flushed (after_read came x))
turn_stands came x x' y h out e same =
    ap (λ (z : Here). record { stands = z; rest = y.rest }) out ∙ ap flushed (e ∙ ap (after_read came) same)

end_stops : (x : Here) (b : Bool) → x.on ≡ b → (after_end x).on ≡ false
end_stops x true e = rw e
end_stops x false e = rw e

pub turn_stops : (x : Between) (y h : Here) → h ≡ silent y → y ≡ after_last x → h.on ≡ true → ⊥
turn_stops x y h out e on =
    let z = after_bytes x.rest x.stands in
    false≢true (sym (ap (λ (w : Here). w.on) out ∙ ap (λ (w : Here). w.on) e ∙ end_stops z z.on refl) ∙ on)
