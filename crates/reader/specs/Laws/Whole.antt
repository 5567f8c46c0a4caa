-- Part by part is the same as the whole input at once.
use Rattle.std.specs.Prelude.{◌≡◌, Bool, true, false, Option, None, Some, length}
use Rattle.std.proofs.Math.Path.{refl, ap}
use Rattle.std.proofs.Common.{sym, ◌∙◌, arith, length-append, length-drop}
use Rattle.std.proofs.Math.Bool.{cond}
use mathlib.Core.List.{List, [], ◌∷◌, ◌++◌, append_assoc, append-nil}
use Prim.Native.Nat.{ℕ, zero, suc, ◌*◌, ◌≤◌, ◌<◌}
use Rattle.std.proofs.Math.ListN.{drop}
use Rattle.std.proofs.lemmas.List.{drop-append-le}
use Rattle.state.specs.declared.state.Order.{Order}
use Rattle.records.specs.Records.{size, record_of}
use Rattle.records.specs.Laws.Records.{record_alone}
use Rattle.reader.specs.Blocks.{Here, after_found, after_records, after_bytes}
use Rattle.reader.specs.Reads.{silent}
use Rattle.reader.specs.Laws.Blocks.{bytes_last, bytes_more}

-- ---- whole records, and what comes behind them

-- more bytes, if the program goes on
abbrev pub after_more : List ℕ → Here → Here
after_more bytes x = cond x.on (after_bytes bytes x) x

module _ (s t : List ℕ) (x : Here) (h : size ≤ length s) where
  same : after_found (record_of (s ++ t)) x ≡ after_found (record_of s) x
  same = ap (λ (f : Option Order). after_found f x) (record_alone s t h)

  one_more : (b : Bool) → (after_found (record_of s) x).on ≡ b
      → ((y : Here) → y.on ≡ true → after_bytes (drop size s ++ t) y ≡ after_more t (after_bytes (drop size s) y))
      → after_bytes (s ++ t) x ≡ after_more t (after_bytes s x)
  one_more false e later =
      let l : 0 < length (s ++ t) = omega (arith, length-append s t) in
      bytes_last (s ++ t) x l (ap (λ (y : Here). y.on) same ∙ e) ∙ same ∙ rw (bytes_last s x (omega arith) e, e)
  one_more true e later =
      let l : 0 < length (s ++ t) = omega (arith, length-append s t) in
      bytes_more (s ++ t) x l (ap (λ (y : Here). y.on) same ∙ e)
      ∙ rw (same, drop-append-le size s t h) (later (after_found (record_of s) x) e)
      ∙ ap (after_more t) (sym (bytes_more s x (omega arith) e))

-- a whole number of records, and then more bytes
pub blocks_join : (m : ℕ) (s t : List ℕ) (x : Here) → length s ≡ size * m → x.on ≡ true → after_bytes (s ++ t) x ≡ after_more t (after_bytes s x)
unfolding after_records
blocks_join zero [] t x h e = rw e
blocks_join zero (b ∷ s) t x h e = absurd (omega (arith, h))
blocks_join (suc m) s t x h e =
    one_more s t x (omega arith) (after_found (record_of s) x).on refl
    (λ y on. blocks_join m (drop size s) t y (omega (arith, length-drop size s)) on)

-- ---- the text of one part behind that of the parts before

abbrev pub said : List ℕ → Here → Here
said p x = record { session = x.session; working = x.working; kept = x.kept; done = x.done; on = x.on; text = p ++ x.text }

module _ (p : List ℕ) where
  found_said : (f : Option Order) (x : Here) → after_found f (said p x) ≡ said p (after_found f x)
  found_said (Some r) x = rw append_assoc
  found_said None x = rw append_assoc

  either_said : (b : Bool) (y z : Here) → cond b (said p y) (said p z) ≡ said p (cond b y z)
  either_said true y z = refl
  either_said false y z = refl

  records_said : (k : ℕ) (bytes : List ℕ) (x : Here) → after_records k bytes (said p x) ≡ said p (after_records k bytes x)
  unfolding after_records
  records_said zero bytes x = refl
  records_said (suc k) [] x = refl
  records_said (suc k) (b ∷ bytes) x =
      let next = after_found (record_of (b ∷ bytes)) x in
      let rest = drop size (b ∷ bytes) in
      ap (λ (y : Here). cond y.on (after_records k rest y) y) (found_said (record_of (b ∷ bytes)) x)
      ∙ ap (λ (y : Here). cond next.on y (said p next)) (records_said k rest next)
      ∙ either_said next.on (after_records k rest next) next

  -- the text that stands already plays no part
  pub bytes_said : (bytes : List ℕ) (x : Here) → after_bytes bytes (said p x) ≡ said p (after_bytes bytes x)
  bytes_said bytes x = records_said (length bytes) bytes x

text_apart : (x : Here) → x ≡ said x.text (silent x)
text_apart x = rw (append-nil x.text)

more_said : (p t : List ℕ) (x : Here) → after_more t (said p x) ≡ said p (after_more t x)
more_said p t x = ap (λ (y : Here). cond x.on y (said p x)) (bytes_said p t x) ∙ either_said p x.on (after_bytes t x) x

-- what comes last plays no part in what was said before, and nothing comes once the program has stopped
module _ (last : Here → Here) (apart : (p : List ℕ) (x : Here) → last (said p x) ≡ said p (last x)) (still : (x : Here) → x.on ≡ false → last x ≡ x) where
  goes_on : (t : List ℕ) (y : Here) (b : Bool) → y.on ≡ b → (last (cond b (after_bytes t (silent y)) (silent y))).text ≡ cond b (last (after_bytes t (silent y))).text []
  goes_on t y true e = refl
  goes_on t y false e = ap (λ (z : Here). z.text) (still (silent y) e)

  -- what whole records print, and then what the bytes behind them print, is what both print at once
  pub text_joins : (m : ℕ) (s t : List ℕ) (x : Here) → length s ≡ size * m → x.on ≡ true
      → (last (after_bytes (s ++ t) x)).text ≡ (after_bytes s x).text ++ cond (after_bytes s x).on (last (after_bytes t (silent (after_bytes s x)))).text []
  text_joins m s t x h e =
      let y = after_bytes s x in
      ap (λ (z : Here). (last z).text) (blocks_join m s t x h e ∙ ap (after_more t) (text_apart y) ∙ more_said y.text t (silent y))
      ∙ ap (λ (z : Here). z.text) (apart y.text (after_more t (silent y)))
      ∙ ap (λ (l : List ℕ). y.text ++ l) (goes_on t y y.on refl)
