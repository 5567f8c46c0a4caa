-- The set of those that go: what is in it after a number is added, and that it is the one that the definitions name.
use Rattle.std.specs.Prelude.{◌≡◌, refl, Bool, true, false, Option, Some, None, is_none, not, ◌&&◌, ◌||◌, ◌⊎◌, List, ℕ, ◌+◌, ◌-◌, ◌%◌, ◌≤◌, ◌<◌, eqb}
use Rattle.std.proofs.Common.{sym, ap, ◌∙◌, inl, inr, arith, lt-ltb, le-ltb, eq-eqb, ne_eqb, eqb-true}
use Rattle.std.proofs.Math.Path.{fun_ext}
use Rattle.std.proofs.Math.Bool.{or-false}
use Rattle.std.proofs.Math.Decide.{dec_lt, ℕ_discrete}
use Rattle.std.proofs.lemmas.Bool.{false≢true, eqb-false, not-true}
use Rattle.words.specs.declared.layout.Kind.TheVariants.{Model, Instance}
use Rattle.words.specs.Layout.{count_of}
use Rattle.words.specs.Copies.{is_long}
use Rattle.words.specs.Sets.{bits, none, has, insert}
use Rattle.words.specs.Fields.{values}
use Rattle.logic.specs.Laws.Bools.{and_left, and_right, and_ended, clash}
use Rattle.words.specs.Laws.Sets.{has_insert, has_none, set_member, or_lacks}
use Rattle.dictionary.specs.Dictionary.{is_reference, attribute_of}
use Rattle.dictionary.specs.Quick.References.{no_reference, reference_of}
use Rattle.dictionary.proofs.Laws.References.{reference_among}
use Rattle.tables.specs.View.{type_at, is_set, value_at}
use Rattle.tables.specs.declared.going.Going.{Going}
use Rattle.tables.specs.Deletions.{goes_with, refers, swept_at, swept}
use Rattle.tables.specs.Quick.Going.{is_the, is_near, goes, may_go, may_refer, may_change, is_passed, nothing, with_number, one_going, half_of, gathered}
use Rattle.tables.specs.Laws.Pointers.{refers_other, unset_refers}
use Rattle.tables.specs.Laws.Deletions.{unchanged}

-- where a number stands
data Zone (j : ℕ) : Type 0 where
  in_low : j < bits → Zone j
  in_high : bits ≤ j → j < count_of Instance → Zone j
  past : count_of Instance ≤ j → Zone j

zone : (j : ℕ) → Zone j
zone j = tell (dec_lt j bits) (dec_lt j (count_of Instance))
  where
    tell : Dec (j < bits) → Dec (j < count_of Instance) → Zone j
    tell (yes h) w = in_low h
    tell (no h) (yes w) = in_high (omega arith) w
    tell (no h) (no w) = past (omega arith)

module _ (g : Going) (j : ℕ) where
  goes_low : j < bits → goes g j ≡ has g.low j
  goes_low h = rw (lt-ltb j bits h)

  goes_high : bits ≤ j → j < count_of Instance → goes g j ≡ has g.high (j - bits)
  goes_high h l = rw (le-ltb j bits h, lt-ltb j (count_of Instance) l)

  goes_past : count_of Instance ≤ j → goes g j ≡ is_the g.beyond j
  goes_past h =
      let above : bits ≤ j = omega arith in
      rw (le-ltb j bits above, le-ltb j (count_of Instance) h)

pub goes_nothing : (n : ℕ) → goes nothing n ≡ false
goes_nothing n = at (zone n)
  where
    at : Zone n → goes nothing n ≡ false
    at (in_low h) = goes_low nothing n h ∙ has_none n
    at (in_high h l) = goes_high nothing n h l ∙ has_none (n - bits)
    at (past h) = goes_past nothing n h

apart : (n j : ℕ) (b c : Bool) → (n ≡ j → ⊥) → b ≡ c → b ≡ (eqb n j || c)
apart n j b c h e = rw (ne_eqb n j h) e

moved : (n j : ℕ) → bits ≤ n → bits ≤ j → eqb (n - bits) (j - bits) ≡ eqb n j
moved n j hn hj = tell (eqb n j) refl
  where
    tell : (b : Bool) → eqb n j ≡ b → eqb (n - bits) (j - bits) ≡ b
    tell true p = eq-eqb (n - bits) (j - bits) (ap (λ (x : ℕ). x - bits) (eqb-true n j p))
    tell false p = ne_eqb (n - bits) (j - bits) (λ e. eqb-false n j p (omega arith))

-- a number below 128 is added
module _ (g : Going) (j n : ℕ) where
  with_low : j < bits → with_number g j ≡ record { low = insert g.low j; high = g.high; beyond = g.beyond }
  with_low h = rw (lt-ltb j bits h)

  with_high : bits ≤ j → j < count_of Instance → with_number g j ≡ record { low = g.low; high = insert g.high (j - bits); beyond = g.beyond }
  with_high h l = rw (le-ltb j bits h, lt-ltb j (count_of Instance) l)

  in_goes : (w : Going) → with_number g j ≡ w → goes w n ≡ (eqb n j || goes g n) → goes (with_number g j) n ≡ (eqb n j || goes g n)
  in_goes w e p = ap (λ (x : Going). goes x n) e ∙ p

  added_low : j < bits → Zone n → goes (record { low = insert g.low j; high = g.high; beyond = g.beyond }) n ≡ (eqb n j || goes g n)
  added_low h (in_low l) = goes_low _ n l ∙ has_insert g.low j n h ∙ ap (λ (b : Bool). eqb n j || b) (sym (goes_low g n l))
  added_low h (in_high l m) = apart n j _ _ (λ e. omega arith) (goes_high _ n l m ∙ sym (goes_high g n l m))
  added_low h (past l) = apart n j _ _ (λ e. omega arith) (goes_past _ n l ∙ sym (goes_past g n l))

  added_high : bits ≤ j → j < count_of Instance → Zone n → goes (record { low = g.low; high = insert g.high (j - bits); beyond = g.beyond }) n ≡ (eqb n j || goes g n)
  added_high h k (in_low l) = apart n j _ _ (λ e. omega arith) (goes_low _ n l ∙ sym (goes_low g n l))
  added_high h k (in_high l m) = goes_high _ n l m ∙ has_insert g.high (j - bits) (n - bits) (omega arith) ∙ rw (moved n j l h, goes_high g n l m)
  added_high h k (past l) = apart n j _ _ (λ e. omega arith) (goes_past _ n l ∙ sym (goes_past g n l))

  pub goes_with_lem : j < count_of Instance → goes (with_number g j) n ≡ (eqb n j || goes g n)
  goes_with_lem h = at (zone j)
    where
      at : Zone j → goes (with_number g j) n ≡ (eqb n j || goes g n)
      at (in_low l) = in_goes _ (with_low l) (added_low l (zone n))
      at (in_high l m) = in_goes _ (with_high l m) (added_high l m (zone n))
      at (past l) = absurd (omega arith)

-- **An instance that is deleted goes, and no other does**, whatever its number.
pub goes_one : (t : List ℕ) (i : ℕ) → goes (one_going i) ≡ goes_with t Instance i
goes_one t i = fun_ext (λ n. at n (zone i) (zone n))
  where
    alone : (b : Bool) (n : ℕ) → b ≡ false → (eqb n i || b) ≡ goes_with t Instance i n
    alone b n e = rw e (or-false (eqb n i))

    alone_past : Going
    alone_past = record { low = none; high = none; beyond = Some i }

    beyond_it : (n : ℕ) → count_of Instance ≤ i → goes (one_going i) n ≡ goes alone_past n
    beyond_it n h =
        let above : bits ≤ i = omega arith in
        rw (le-ltb i bits above, le-ltb i (count_of Instance) h)

    at : (n : ℕ) → Zone i → Zone n → goes (one_going i) n ≡ goes_with t Instance i n
    at n (in_low h) w = goes_with_lem nothing i n (omega arith) ∙ alone (goes nothing n) n (goes_nothing n)
    at n (in_high h l) w = goes_with_lem nothing i n l ∙ alone (goes nothing n) n (goes_nothing n)
    at n (past h) (in_low l) = beyond_it n h ∙ goes_low alone_past n l ∙ has_none n ∙ sym (ne_eqb n i (λ e. omega arith))
    at n (past h) (in_high l m) = beyond_it n h ∙ goes_high alone_past n l m ∙ has_none (n - bits) ∙ sym (ne_eqb n i (λ e. omega arith))
    at n (past h) (past l) = beyond_it n h ∙ goes_past alone_past n l

-- **The instances of a model that is deleted go, and no others do.**
pub goes_those : (t : List ℕ) (m : ℕ) → goes (gathered t m) ≡ goes_with t Model m
goes_those t m = fun_ext (λ j. at j (zone j))
  where
    -- instance j is number k of its half
    member : (from k j : ℕ) → k < bits → from + k ≡ j → has (half_of t m from) k ≡ goes_with t Model m j
    member from k j h e = set_member (λ i. goes_with t Model m (from + i)) bits k (omega arith) h ∙ ap (goes_with t Model m) e

    at : (j : ℕ) → Zone j → goes (gathered t m) j ≡ goes_with t Model m j
    at j (in_low h) = goes_low (gathered t m) j h ∙ member 0 j j h (omega arith)
    at j (in_high h l) = goes_high (gathered t m) j h l ∙ member bits (j - bits) j (omega arith) (omega arith)
    at j (past h) = goes_past (gathered t m) j h ∙ sym (rw (le-ltb j (count_of Instance) h))

-- so the sweep by the set is the sweep of the definition
module _ (t : List ℕ) where
  pub swept_one : (i : ℕ) → swept t (goes (one_going i)) (count_of Instance) ≡ swept t (goes_with t Instance i) (count_of Instance)
  swept_one i = ap (λ (f : ℕ → Bool). swept t f (count_of Instance)) (goes_one t i)

  pub swept_those : (m : ℕ) → swept t (goes (gathered t m)) (count_of Instance) ≡ swept t (goes_with t Model m) (count_of Instance)
  swept_those m = ap (λ (f : ℕ → Bool). swept t f (count_of Instance)) (goes_those t m)

-- ---- what the sweep passes by

neither : (a b : Bool) → (a || b) ≡ false → (a ≡ false) × (b ≡ false)
neither false b h = (refl, h)
neither true b h = clash true refl h

module _ (t : List ℕ) (g : Going) (near : g.beyond ≡ None) where
  -- the low bits of a number tell the truth where they say no
  may_not : (j : ℕ) → may_go g j ≡ false → goes g j ≡ false
  may_not j h = at (zone j) (or_lacks g.low g.high (j % bits) h)
    where
      at : Zone j → (has g.low (j % bits) ≡ false) × (has g.high (j % bits) ≡ false) → goes g j ≡ false
      at (in_low l) w =
          let same : j % bits ≡ j = omega arith in
          goes_low g j l ∙ (rw same at w.0)
      at (in_high l m) w =
          let same : j % bits ≡ j - bits = omega arith in
          goes_high g j l m ∙ (rw same at w.1)
      at (past l) w = goes_past g j l ∙ ap (λ (b : Option ℕ). is_the b j) near

  may_not_refer : (i k : ℕ) → may_refer t g i k ≡ false → refers t (goes g) i k ≡ false
  may_not_refer i k h = by_cases (may_go g (value_at t i k)) refl h
    where
      by_cases : (b : Bool) → may_go g (value_at t i k) ≡ b → (b && is_set t i k) ≡ false → refers t (goes g) i k ≡ false
      by_cases true e unset = unset_refers t (goes g) i k unset
      by_cases false e h = and_ended (is_reference (attribute_of (type_at t i) k) && is_set t i k) (goes g (value_at t i k)) (may_not (value_at t i k) e)

  -- only what stands second or third is a reference
  may_not_any : (i : ℕ) → may_refer t g i 1 ≡ false → may_refer t g i 2 ≡ false → (k : ℕ) → refers t (goes g) i k ≡ false
  may_not_any i first second k = by_cases (ℕ_discrete k (reference_of (type_at t i))) (reference_among (type_at t i))
    where
      by_cases : Dec (k ≡ reference_of (type_at t i)) → (reference_of (type_at t i) ≡ 1) ⊎ ((reference_of (type_at t i) ≡ 2) ⊎ (reference_of (type_at t i) ≡ no_reference)) → refers t (goes g) i k ≡ false
      by_cases (no n) w = refers_other t (goes g) i k n
      by_cases (yes q) (inl e) = ap (refers t (goes g) i) (q ∙ e) ∙ may_not_refer i 1 first
      by_cases (yes q) (inr (inl e)) = ap (refers t (goes g) i) (q ∙ e) ∙ may_not_refer i 2 second
      by_cases (yes q) (inr (inr e)) = ap (refers t (goes g) i) (q ∙ e) ∙ unset_refers t (goes g) i no_reference refl

nothing_there : (b : Option ℕ) → is_none b ≡ true → b ≡ None
nothing_there None e = refl
nothing_there (Some n) e = absurd (false≢true e)

-- **An instance that is passed by stays as it is.**
pub passed_stays : (t : List ℕ) (g : Going) (i : ℕ) → is_passed t g i ≡ true → swept_at t (goes g) i ≡ t
passed_stays t g i h =
    let near : g.beyond ≡ None = nothing_there g.beyond (and_right (is_long t) (is_near g) (and_left (is_long t && is_near g) (not (may_change t g i)) h)) in
    let still : may_change t g i ≡ false = not-true (may_change t g i) (and_right (is_long t && is_near g) (not (may_change t g i)) h) in
    let both = neither (may_go g i || may_refer t g i 1) (may_refer t g i 2) still in
    let one = neither (may_go g i) (may_refer t g i 1) both.0 in
    rw (may_not t g near i one.0) (unchanged t (goes g) i values (λ k l. may_not_any t g near i one.1 both.1 k))
