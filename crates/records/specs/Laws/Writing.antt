-- Texts written one after the other, and the digits of a number written from the last to the first.
use Rattle.std.specs.Prelude.{◌≡◌, refl, Bool, true, false, ℕ, suc, ◌+◌, ◌-◌, ◌/◌, ◌%◌, ◌^◌, ◌≤◌, ◌<◌, leb, length, take, drop, set}
use Rattle.std.proofs.Math.Path.{sym, ap}
use Rattle.std.proofs.Common.{◌∙◌, add-one, add-zero, add-suc, add_assoc, suc-add, arith, le-leb, leb-true, leb-false, length-append, length-take, length-drop, take-append-drop, take-suc, drop-cons, length-take-le, drop_at, drop-drop, take-take, get_or-take}
use mathlib.Core.List.{List, [], ◌∷◌, ◌++◌, append_assoc, append-nil}
use Rattle.std.proofs.lemmas.Bool.{lt-leb}
use Rattle.std.proofs.Math.ListN.{get_or}
use Rattle.std.proofs.Math.Seq.{append_snoc, take_at, get_or_at}
use Rattle.std.proofs.lemmas.List.{set_at, drop-set}
use Rattle.std.proofs.lemmas.List.Edits.{sets-eq}
use borrow.Rule.Slice.PartMut.{put_mid}
use Rattle.records.specs.Lines.{digit, decimal, ended, blank, line_feed, over, written, after, line_text, last_text}
use Rattle.records.specs.Laws.Decimal.{digits, length_digits, width_of, decimal_digits, length_decimal, width_at_most, width_short, width_shorter}

pub over_nothing : (out : List ℕ) (at : ℕ) → over out at [] ≡ out
over_nothing out at = rw (add-zero at, append-nil (take at out)) (take-append-drop at out)

-- the test of the room behind a position, with no sum that could wrap
pub fits_behind : (room at size : ℕ) → at ≤ room → leb size (room - at) ≡ leb (at + size) room
fits_behind room at size h = tell (leb size (room - at)) refl
  where
    tell : (b : Bool) → leb size (room - at) ≡ b → b ≡ leb (at + size) room
    tell true e = sym (le-leb (at + size) room (omega (arith, leb-true size (room - at) e)))
    tell false e = sym (lt-leb (at + size) room (omega (arith, leb-false size (room - at) e)))

module _ (out : List ℕ) (at : ℕ) where
  module _ (s : List ℕ) (h : at + length s ≤ length out) where
    length_front : length (take at out ++ s) ≡ at + length s
    length_front = simp (length-append, length-take) (omega arith)

    pub length_over : length (over out at s) ≡ length out
    length_over = simp (length-append, length-take, length-drop) (omega arith)

    -- up to the end of the text, and behind it
    pub over_front : take (at + length s) (over out at s) ≡ take at out ++ s
    over_front = take_at (take at out ++ s) _ (at + length s) length_front

    pub over_behind : (n : ℕ) → drop (at + length s + n) (over out at s) ≡ drop (at + length s + n) out
    over_behind n =
        sym (drop-drop n (at + length s) (over out at s))
        ∙ ap (drop n) (drop_at (take at out ++ s) _ (at + length s) length_front)
        ∙ drop-drop n (at + length s) out

    -- a second text right behind the first
    pub over_over : (t : List ℕ) → over (over out at s) (at + length s) t ≡ over out at (s ++ t)
    over_over t =
        rw (over_front, over_behind (length t), length-append s t, append_assoc (take at out) s t)
        (ap (λ (k : ℕ). take at out ++ (s ++ t) ++ drop k out) (add_assoc at (length s) (length t)))

  -- a byte in front of the text
  pub over_before : (b : ℕ) (t : List ℕ) → at < length out → set (over out (suc at) t) at b ≡ over out at (b ∷ t)
  over_before b t h =
      rw (take-suc out at 0 h, append_snoc (take at out) (get_or out at 0) t, append_assoc (take at out) (get_or out at 0 ∷ t))
      (set_at (take at out) (get_or out at 0) (t ++ drop (suc at + length t) out) b at (length-take-le at out (omega arith))
      ∙ ap (λ (k : ℕ). take at out ++ (b ∷ (t ++ drop k out))) (suc-add at (length t) ∙ sym (add-suc at (length t)))
      ∙ sym (append_assoc (take at out) (b ∷ t) (drop (at + suc (length t)) out)))

  pub over_one : (b : ℕ) → at < length out → set out at b ≡ over out at (b ∷ [])
  over_one b h = ap (λ (l : List ℕ). set l at b) (sym (over_nothing out (suc at))) ∙ over_before b [] h

-- ---- text by text

-- `out` with the text at `at` is `after`, and `next` is the position behind it
pub record Wrote (out : List ℕ) (at : ℕ) (text after : List ℕ) (next : ℕ) : Type 0 where
  pub stands : after ≡ over out at text
  pub past : next ≡ at + length text

pub one_byte : (out : List ℕ) (at b : ℕ) → at < length out → Wrote out at (b ∷ []) (set out at b) (at + 1)
one_byte out at b h = record { stands = over_one out at b h; past = refl }

pub and_then : (out : List ℕ) (at : ℕ) (s t : List ℕ) {mid end : List ℕ} {p q : ℕ} → at + length s ≤ length out
    → Wrote out at s mid p → Wrote mid p t end q → Wrote out at (s ++ t) end q
and_then out at s t h f g = record {
  stands = g.stands ∙ rw (f.stands, f.past) (over_over out at s h t);
  past = g.past ∙ rw (f.past, length-append s t) (add_assoc at (length s) (length t));
}

pub four_bytes : (out : List ℕ) (at x y z w : ℕ) → at + 4 ≤ length out
    → Wrote out at (x ∷ y ∷ z ∷ w ∷ []) (set (set (set (set out at x) (at + 1) y) (at + 2) z) (at + 3) w) (at + 4)
four_bytes out at x y z w h = record { stands = simp (add-one, two_more, three_more) (sets-eq (x ∷ y ∷ z ∷ w ∷ []) out at h); past = refl }
  where
    two_more : (n : ℕ) → n + 2 ≡ suc (suc n)
    two_more n = omega arith

    three_more : (n : ℕ) → n + 3 ≡ suc (suc (suc n))
    three_more n = omega arith

-- what a whole text comes to, and one that does not fit
pub whole : (out : List ℕ) (at : ℕ) (text : List ℕ) {end : List ℕ} {q : ℕ} → at + length text ≤ length out → Wrote out at text end q
    → (end ≡ written out at text) × (q ≡ after out at text)
whole out at text h w = (w.stands ∙ rw (le-leb (at + length text) (length out) h), w.past ∙ rw (le-leb (at + length text) (length out) h))

pub no_room : (out : List ℕ) (at : ℕ) (text : List ℕ) → length out < at + length text
    → (out ≡ written out at text) × (at ≡ after out at text)
no_room out at text h = (rw (lt-leb (at + length text) (length out) h), rw (lt-leb (at + length text) (length out) h))

-- a text that fits, behind what stood before it
pub text_written : (out : List ℕ) (at : ℕ) (text : List ℕ) → at + length text ≤ length out
    → take (after out at text) (written out at text) ≡ take at out ++ text
text_written out at text h = rw (le-leb (at + length text) (length out) h) (over_front out at text h)

pub after_fits : (out : List ℕ) (at : ℕ) (text : List ℕ) → at + length text ≤ length out → after out at text ≡ at + length text
after_fits out at text h = rw (le-leb (at + length text) (length out) h)

-- ---- a number, from its last digit to its first: the digits from i on stand, and the first i are those of `rest`

module _ (k n i j rest : ℕ) (s : i ≡ suc j) (h : j < k) (e : take i (digits k n) ≡ digits i rest) where
  within : j < length (digits k n)
  within = omega (arith, length_digits k n)

  pub digits_before : take j (digits k n) ≡ digits j (rest / 10)
  unfolding digits
  digits_before =
      sym (take-take j (suc j) (digits k n) (omega arith))
      ∙ ap (take j) (rw s at e)
      ∙ take_at (digits j (rest / 10)) _ j (length_digits j (rest / 10))

  digit_at : get_or (digits k n) j 0 ≡ digit (rest % 10)
  unfolding digits
  digit_at =
      sym (get_or-take (suc j) (digits k n) j 0 (omega arith))
      ∙ ap (λ (l : List ℕ). get_or l j 0) (rw s at e)
      ∙ get_or_at (digits j (rest / 10)) (digit (rest % 10)) [] 0 j (length_digits j (rest / 10))

  pub digit_more : (out : List ℕ) (at : ℕ) → at + k ≤ length out
      → set (over out (at + i) (drop i (digits k n))) (at + j) (digit (rest % 10)) ≡ over out (at + j) (drop j (digits k n))
  digit_more out at l =
      rw (drop-cons (digits k n) j 0 within, digit_at, s, add-suc at j)
      (over_before out (at + j) (digit (rest % 10)) (drop (suc j) (digits k n)) (omega arith))

  -- the same where the number is all that there is
  pub digit_back : (out : List ℕ) → length out ≡ k → drop i out ≡ drop i (digits k n) → drop j (set out j (digit (rest % 10))) ≡ drop j (digits k n)
  digit_back out l same =
      rw (drop-set out j (digit (rest % 10)) (omega arith), drop-cons (digits k n) j 0 within, digit_at, add-one j, sym s)
      (ap (λ (t : List ℕ). digit (rest % 10) ∷ t) same)

-- ---- fields and lines

-- a part of a buffer that a text was put into, from one position to another
pub put_over : (out : List ℕ) (at end : ℕ) (text : List ℕ) → end ≡ at + length text → put_mid at (end - at) out text ≡ over out at text
put_over out at end text h =
    let n : end - at ≡ length text = omega arith in
    rw (n, drop-drop (length text) at out) (sym (append_assoc (take at out) text (drop (at + length text) out)))

pub length_part : (out : List ℕ) (at k : ℕ) → at + k ≤ length out → length (take (at + k - at) (drop at out)) ≡ k
length_part out at k h = simp (length-take, length-drop) (omega arith)

-- a text, and a byte behind it
pub byte_behind : (out : List ℕ) (at : ℕ) (text : List ℕ) (stop : ℕ) {mid : List ℕ} → at + length text < length out → mid ≡ over out at text
    → Wrote out at (text ++ (stop ∷ [])) (set mid (at + length text) stop) (at + length text + 1)
byte_behind out at text stop {mid} h m =
    let same : length mid ≡ length out = ap length m ∙ length_over out at text (omega arith) in
    and_then out at text (stop ∷ []) (omega arith) (record { stands = m; past = refl }) (one_byte mid (at + length text) stop (omega arith))

-- the digits, and a byte behind them
pub number_ended : (out : List ℕ) (at k n stop : ℕ) {mid : List ℕ} → k ≡ width_of n → at + k < length out → mid ≡ over out at (digits k n)
    → Wrote out at (ended n stop) (set mid (at + k) stop) (at + k + 1)
number_ended out at k n stop {mid} e h m =
    let text : digits k n ≡ decimal n = ap (λ (j : ℕ). digits j n) e ∙ sym (decimal_digits n) in
    let l : length (decimal n) ≡ k = length_decimal n ∙ sym e in
    rw l at (byte_behind out at (decimal n) stop (omega arith) (m ∙ ap (over out at) text))

length_ended : (n stop : ℕ) → length (ended n stop) ≡ width_of n + 1
length_ended n stop = length-append (decimal n) (stop ∷ []) ∙ omega (arith, length_decimal n)

pub length_line : (n op refusal value place : ℕ)
    → length (line_text n op refusal value place) ≡ width_of n + width_of op + width_of refusal + width_of value + width_of place + 5
length_line n op refusal value place =
    simp length-append (omega (arith, length_decimal n, length_decimal op, length_decimal refusal, length_decimal value, length_decimal place))

pub length_last : (word : List ℕ) (n : ℕ) → length word ≡ 3 → length (last_text word n) ≡ width_of n + 5
length_last word n h = simp length-append (omega (arith, length_decimal n))

-- the five fields of a line
module _ (out : List ℕ) (at n op refusal value place : ℕ)
    (h : at + (width_of n + width_of op + width_of refusal + width_of value + width_of place + 5) ≤ length out) where
  pub line_written : {a b c d e : List ℕ} {p q r s t : ℕ} → Wrote out at (ended n blank) a p → Wrote a p (ended op blank) b q
      → Wrote b q (ended refusal blank) c r → Wrote c r (ended value blank) d s → Wrote d s (ended place line_feed) e t
      → (e ≡ written out at (line_text n op refusal value place)) × (t ≡ after out at (line_text n op refusal value place))
  line_written f g i j k =
      let one = length_ended n blank in
      let two = length-append (ended n blank) (ended op blank) in
      let three = length-append (ended n blank ++ ended op blank) (ended refusal blank) in
      let four = length-append (ended n blank ++ ended op blank ++ ended refusal blank) (ended value blank) in
      let second = length_ended op blank in
      let third = length_ended refusal blank in
      let fourth = length_ended value blank in
      whole out at (line_text n op refusal value place) (omega (arith, length_line n op refusal value place))
      (and_then out at (ended n blank ++ ended op blank ++ ended refusal blank ++ ended value blank) (ended place line_feed) (omega arith)
      (and_then out at (ended n blank ++ ended op blank ++ ended refusal blank) (ended value blank) (omega arith)
      (and_then out at (ended n blank ++ ended op blank) (ended refusal blank) (omega arith)
      (and_then out at (ended n blank) (ended op blank) (omega arith) f g) i) j) k)

-- the word and the number of a last line
pub last_written : (out : List ℕ) (at : ℕ) (word : List ℕ) (n : ℕ) {a b : List ℕ} {p q : ℕ} → length word ≡ 3 → at + (width_of n + 5) ≤ length out
    → Wrote out at (word ++ (blank ∷ [])) a p → Wrote a p (ended n line_feed) b q
    → (b ≡ written out at (last_text word n)) × (q ≡ after out at (last_text word n))
last_written out at word n l h f g =
    whole out at (last_text word n) (omega (arith, length_last word n l))
    (and_then out at (word ++ (blank ∷ [])) (ended n line_feed) (omega (arith, length-append word (blank ∷ []))) f g)

-- ---- how long the lines are

-- refusal and place have two bytes each
pub short_line : (n op refusal value place : ℕ) → op < 2 ^ 32 → refusal < 2 ^ 16 → value < 2 ^ 32 → place < 2 ^ 16
    → length (line_text n op refusal value place) ≤ 64
short_line n op refusal value place f g h i =
    omega
    (arith, length_line n op refusal value place, width_at_most 20 n, width_short op f, width_shorter refusal g, width_short value h, width_shorter place i)

pub short_last : (word : List ℕ) (n : ℕ) → length word ≡ 3 → length (last_text word n) ≤ 64
short_last word n l = omega (arith, length_last word n l, width_at_most 20 n)
