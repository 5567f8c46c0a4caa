-- Sets in one word: what is in a set after a change, its members, and that a set is known by its members.
use Rattle.std.specs.Prelude.{◌≡◌, refl, Bool, true, false, cond, not, ◌&&◌, ◌||◌, eqb, length}
use Rattle.std.proofs.Common.{sym, ap, ◌∙◌, pow-suc, mul_assoc, div-one, zero-mul, one-mul, mod-eq_of_lt, lt_of_lt_of_le, add-zero, add-suc, suc-add, eq-or-lt_of_le, le_of_suc-le-suc, add-one, one-add, arith, lit<, pow-add, pow_mono, shr-shr, eq-eqb, ne_eqb, eqb-true, lt-ltb}
use Rattle.std.proofs.Math.Logic.{⊎_elim}
use mathlib.Core.List.{List, ◌∷◌, Memᴰ}
use Prim.Native.Nat.{ℕ, zero, suc, ◌+◌, ◌-◌, ◌*◌, ◌/◌, ◌%◌, ◌^◌, ◌≤◌, ◌<◌, max}
use Rattle.std.proofs.Math.Nat.{zero-div, div-eq_of_lt, le-max_left, le-max_right, max-le}
use Rattle.std.proofs.Math.Dec.{eqb-suc-zero, eqb-zero-suc, eqb-suc-suc}
use Rattle.std.proofs.Math.Pow.{pow-lt}
use Rattle.std.specs.Int.Bits.{bit_and, bit_or, or_add_and, or_step}
use Rattle.std.proofs.lemmas.Nat.Bits.{and_high}
use Rattle.std.proofs.lemmas.Nat.{or_shr, ones-le}
use Rattle.std.specs.Int.Count.{ones, ones_step, ones-ones}
use Rattle.std.proofs.lemmas.Bool.{eqb-false}
use Rattle.logic.specs.Search.{kept_from}
use Rattle.words.specs.Sets.{bits, none, bit_of, has, insert, remove, set_of, members, size_of}
use Rattle.logic.specs.Laws.Search.{kept_passes, passes_kept}

-- ---- the bits of a number, from the lowest up

double : (x m : ℕ) → x * 2 ^ suc m ≡ x * 2 ^ m * 2
double x m = rw (pow-suc 2 m) (sym (mul_assoc x (2 ^ m) 2))

pub bit_step : (s m : ℕ) → bit_of s (suc m) ≡ bit_of (s / 2) m
bit_step s m = ap (λ (q : ℕ). q % 2) (ap (λ (e : ℕ). s / 2 ^ e) (sym (one-add m)) ∙ sym (shr-shr s 1 m))

bit_small : (s m : ℕ) → bit_of s m < 2
bit_small s m = omega arith

-- a bit that is set is part of the number
bit_part : (s m : ℕ) → bit_of s m * 2 ^ m ≤ s
bit_part s zero = omega arith
bit_part s (suc m) = rw (bit_step, double) (omega (arith, bit_part (s / 2) m))

-- adding an absent bit, and taking a bit away, moves that bit alone
insert_bit : (s m n : ℕ) → bit_of (s + (1 - bit_of s m) * 2 ^ m) n ≡ cond (eqb n m) 1 (bit_of s n)
insert_bit s zero zero = omega arith
insert_bit s zero (suc n) =
    let halved : (s + (1 - bit_of s 0) * 1) / 2 ≡ s / 2 = omega arith in
    rw (eqb-suc-zero) (bit_step (s + (1 - bit_of s 0) * 1) n ∙ ap (λ (q : ℕ). bit_of q n) halved ∙ sym (bit_step s n))
insert_bit s (suc m) zero = rw (eqb-zero-suc, double) (omega arith)
insert_bit s (suc m) (suc n) =
    let b = 1 - bit_of (s / 2) m in
    let halved : (s + b * 2 ^ m * 2) / 2 ≡ s / 2 + b * 2 ^ m = omega arith in
    rw (eqb-suc-suc, bit_step s m, double) (bit_step (s + b * 2 ^ m * 2) n ∙ ap (λ (q : ℕ). bit_of q n) halved ∙ insert_bit (s / 2) m n ∙ ap (λ (q : ℕ). cond (eqb n m) 1 q) (sym (bit_step s n)))

remove_bit : (s m n : ℕ) → bit_of (remove s m) n ≡ cond (eqb n m) 0 (bit_of s n)
remove_bit s zero zero = omega arith
remove_bit s zero (suc n) =
    let halved : (s - bit_of s 0 * 1) / 2 ≡ s / 2 = omega arith in
    rw (eqb-suc-zero) (bit_step (s - bit_of s 0 * 1) n ∙ ap (λ (q : ℕ). bit_of q n) halved ∙ sym (bit_step s n))
remove_bit s (suc m) zero = rw (eqb-zero-suc, bit_step, double) (omega (arith, bit_part (s / 2) m))
remove_bit s (suc m) (suc n) =
    let b = bit_of (s / 2) m in
    let halved : (s - b * 2 ^ m * 2) / 2 ≡ s / 2 - b * 2 ^ m = omega arith in
    rw (eqb-suc-suc, bit_step s m, double) (bit_step (s - b * 2 ^ m * 2) n ∙ ap (λ (q : ℕ). bit_of q n) halved ∙ remove_bit (s / 2) m n ∙ ap (λ (q : ℕ). cond (eqb n m) 0 q) (sym (bit_step s n)))

-- ---- membership after a change

test_one : (b : Bool) (x : ℕ) → eqb (cond b 1 x) 1 ≡ (b || eqb x 1)
test_one true x = refl
test_one false x = refl

test_zero : (b : Bool) (x : ℕ) → eqb (cond b 0 x) 1 ≡ (not b && eqb x 1)
test_zero true x = refl
test_zero false x = refl

pub has_insert : (s m n : ℕ) → m < bits → has (insert s m) n ≡ (eqb n m || has s n)
has_insert s m n h = rw (lt-ltb m bits h) (ap (λ (x : ℕ). eqb x 1) (insert_bit s m n) ∙ test_one (eqb n m) (bit_of s n))

pub has_remove : (s m n : ℕ) → has (remove s m) n ≡ (not (eqb n m) && has s n)
has_remove s m n = ap (λ (x : ℕ). eqb x 1) (remove_bit s m n) ∙ test_zero (eqb n m) (bit_of s n)

pub has_none : (n : ℕ) → has none n ≡ false
has_none n = rw (zero-div)

-- no bit stands above a word
pub has_past : (s m : ℕ) → s < 2 ^ bits → bits ≤ m → has s m ≡ false
has_past s m h l = ap (λ (x : ℕ). eqb (x % 2) 1) (div-eq_of_lt (lt_of_lt_of_le h (pow_mono l)))

pub remove_past : (s m : ℕ) → s < 2 ^ bits → bits ≤ m → remove s m ≡ s
remove_past s m h l =
    let gone : s / 2 ^ m ≡ 0 = div-eq_of_lt (lt_of_lt_of_le h (pow_mono l)) in
    rw (gone) (omega (arith, zero-mul (2 ^ m)))

-- ---- the numbers that pass a test

has_own : (b : Bool) (s n : ℕ) → n < bits → has s n ≡ false → has (cond b (insert s n) s) n ≡ b
has_own true s n l h = has_insert s n n l ∙ rw (eq-eqb n n refl)
has_own false s n l h = h

has_other : (b : Bool) (s n m : ℕ) → n < bits → (m ≡ n → ⊥) → has (cond b (insert s n) s) m ≡ has s m
has_other true s n m l apart = has_insert s n m l ∙ rw (ne_eqb m n apart)
has_other false s n m l apart = refl

module _ (f : ℕ → Bool) where
  pub set_later : (n m : ℕ) → n ≤ bits → n ≤ m → has (set_of n f) m ≡ false
  unfolding set_of
  set_later zero m h l = has_none m
  set_later (suc n) m h l = has_other (f n) (set_of n f) n m (omega arith) (λ e. omega arith) ∙ set_later n m (omega arith) (omega arith)

  pub set_member : (n m : ℕ) → n ≤ bits → m < n → has (set_of n f) m ≡ f m
  unfolding set_of
  set_member zero m h l = absurd (omega arith)
  set_member (suc n) m h l =
      ⊎_elim (λ e. rw e (has_own (f n) (set_of n f) n (omega arith) (set_later n n (omega arith) (omega arith))))
      (λ k. has_other (f n) (set_of n f) n m (omega arith) (λ e. omega arith) ∙ set_member n m (omega arith) k)
      (eq-or-lt_of_le (le_of_suc-le-suc l))

-- ---- a set is known by its members

same_below : (k s t : ℕ) → s < 2 ^ k → t < 2 ^ k → ((n : ℕ) → n < k → bit_of s n ≡ bit_of t n) → s ≡ t
same_below zero s t hs ht h = omega arith
same_below (suc k) s t hs ht h =
    let small : 2 ^ suc k ≡ 2 ^ k * 2 = pow-suc 2 k in
    let lowest : bit_of s 0 ≡ bit_of t 0 = h 0 (omega arith) in
    let rest : s / 2 ≡ t / 2 = same_below k (s / 2) (t / 2) (omega arith) (omega arith) (λ n l. sym (bit_step s n) ∙ h (suc n) (omega arith) ∙ bit_step t n) in
    omega arith

test_same : (x y : ℕ) → x < 2 → y < 2 → eqb x 1 ≡ eqb y 1 → x ≡ y
test_same x y hx hy e = tell (eqb y 1) refl e
  where
    tell : (b : Bool) → eqb y 1 ≡ b → eqb x 1 ≡ b → x ≡ y
    tell true q p = eqb-true x 1 p ∙ sym (eqb-true y 1 q)
    tell false q p =
        let a : x ≡ 1 → ⊥ = eqb-false x 1 p in
        let b : y ≡ 1 → ⊥ = eqb-false y 1 q in
        omega arith

pub same_members : (s t : ℕ) → s < 2 ^ bits → t < 2 ^ bits → ((m : ℕ) → m < bits → has s m ≡ has t m) → s ≡ t
same_members s t hs ht h = same_below bits s t hs ht (λ n l. test_same (bit_of s n) (bit_of t n) (bit_small s n) (bit_small t n) (h n l))

-- the empty set is the one with no member
pub none_is_empty : (s : ℕ) → s < 2 ^ bits → ((m : ℕ) → m < bits → has s m ≡ false) → s ≡ none
none_is_empty s hs h = same_members s none hs (lit< tt) (λ m l. h m l ∙ sym (has_none m))

-- ---- the list of members

pub member_has : (s m : ℕ) → Memᴰ m (members s) → has s m ≡ true
unfolding members
member_has s m h = (kept_passes (has s) bits 0 m h).passes

pub has_member : (s m : ℕ) → m < bits → has s m ≡ true → Memᴰ m (members s)
unfolding members
has_member s m l h = passes_kept (has s) bits 0 m (omega arith) (omega arith) h

one_kept : (x i : ℕ) (l : List ℕ) → x < 2 → length (cond (eqb x 1) (i ∷ l) l) ≡ x + length l
one_kept x i l h = tell (eqb x 1) refl
  where
    tell : (b : Bool) → eqb x 1 ≡ b → length (cond b (i ∷ l) l) ≡ x + length l
    tell true p =
        let e : x ≡ 1 = eqb-true x 1 p in
        omega arith
    tell false p =
        let e : x ≡ 1 → ⊥ = eqb-false x 1 p in
        omega arith

counted : (s k i : ℕ) → s < 2 ^ (i + k) → ones (s / 2 ^ i) ≡ length (kept_from (has s) k i)
unfolding kept_from ones
counted s zero i h = ap ones (div-eq_of_lt (rw (add-zero i) at h))
counted s (suc k) i h =
    let rest : ones (s / 2 ^ suc i) ≡ length (kept_from (has s) k (suc i)) = counted s k (suc i) (rw (add-suc, ← suc-add) at h) in
    let halved : s / 2 ^ i / 2 ≡ s / 2 ^ suc i = shr-shr s i 1 ∙ ap (λ (e : ℕ). s / 2 ^ e) (add-one i) in
    ones_step (s / 2 ^ i) ∙ ap (λ (x : ℕ). bit_of s i + x) (ap ones halved ∙ rest) ∙ sym (one_kept (bit_of s i) i (kept_from (has s) k (suc i)) (bit_small s i))

-- the machine's count of ones is the number of members
pub size_is_ones : (s : ℕ) → s < 2 ^ bits → ones s ≡ size_of s
unfolding members
size_is_ones s h = ap ones (sym (div-one s)) ∙ counted s bits 0 h

pub size_of_none : size_of none ≡ 0
unfolding ones
size_of_none = sym (size_is_ones 0 (lit< tt))

pub size_of_all : size_of (2 ^ bits - 1) ≡ bits
size_of_all = sym (size_is_ones (2 ^ bits - 1) (lit< tt)) ∙ ones-ones bits

pub size_at_most : (s : ℕ) → s < 2 ^ bits → size_of s ≤ bits
size_at_most s h = rw (← size_is_ones s h) (ones-le bits s h)

-- ---- what the operators of the machine give

pub and_bit : (s m : ℕ) → bit_and s (2 ^ m) ≡ bit_of s m * 2 ^ m
and_bit s m =
    let one : 2 ^ (1 + m) - 2 ^ m ≡ 2 ^ m = rw (pow-add) (omega arith) in
    ap (bit_and s) (sym one) ∙ and_high s 1 m

pub or_bit : (s m : ℕ) → bit_or s (2 ^ m) ≡ s + (1 - bit_of s m) * 2 ^ m
or_bit s m = whole (bit_of s m) (2 ^ m) (bit_small s m) (ap (λ (x : ℕ). bit_or s (2 ^ m) + x) (sym (and_bit s m)) ∙ or_add_and s (2 ^ m))
  where
    whole : (b p : ℕ) → b < 2 → bit_or s (2 ^ m) + b * p ≡ s + p → bit_or s (2 ^ m) ≡ s + (1 - b) * p
    whole zero p h e = omega (arith, zero-mul p)
    whole (suc zero) p h e = omega (arith, zero-mul p)
    whole (suc (suc b)) p h e = absurd (omega arith)

-- what is not in two sets together is in neither
pub or_lacks : (s t m : ℕ) → has (bit_or s t) m ≡ false → (has s m ≡ false) × (has t m ≡ false)
or_lacks s t m h = tell (s / 2 ^ m) (t / 2 ^ m) (rw (or_shr s t m) at h)
  where
    tell : (x y : ℕ) → eqb (bit_or x y % 2) 1 ≡ false → (eqb (x % 2) 1 ≡ false) × (eqb (y % 2) 1 ≡ false)
    tell x y h =
        let apart : bit_or x y % 2 ≡ 1 → ⊥ = eqb-false (bit_or x y % 2) 1 h in
        let small : max (x % 2) (y % 2) ≤ 1 = max-le (omega arith) (omega arith) in
        (ne_eqb (x % 2) 1 (λ e. apart (omega (arith, or_step x y, le-max_left (x % 2) (y % 2)))), ne_eqb (y % 2) 1 (λ e. apart (omega (arith, or_step x y, le-max_right (x % 2) (y % 2)))))

-- one bit of a word is a word
pub one_shifted : (m : ℕ) → m < bits → 1 * 2 ^ m % 2 ^ bits ≡ 2 ^ m
one_shifted m h = ap (λ (x : ℕ). x % 2 ^ bits) (one-mul (2 ^ m)) ∙ mod-eq_of_lt (pow-lt h)
