-- Decimal text: how many digits it has, and the digits one by one.
use Rattle.std.specs.Prelude.{◌≡◌, refl, Bool, true, false, cond, List, [], ◌∷◌, ◌++◌, ℕ, zero, suc, ◌+◌, ◌-◌, ◌*◌, ◌/◌, ◌%◌, ◌^◌, ◌≤◌, ◌<◌, ltb, length, get_or}
use Rattle.std.proofs.Common.{ap, ◌∙◌, add-one, arith, pow-suc, div-lt_iff_lt-mul, length-append}
use borrow.Author.Tests.{lt-ltb, le-ltb, ltb-true, ltb-false}
use Rattle.records.specs.Lines.{digit, decimal_in, decimal}

-- how many digits decimal_in k n has
unfoldable pub width_in : ℕ → ℕ → ℕ
width_in zero n = 0
width_in (suc k) n = cond (ltb n 10) 0 (width_in k (n / 10)) + 1

abbrev pub width_of : ℕ → ℕ
width_of n = width_in 20 n

-- the last k digits of n
unfoldable pub digits : ℕ → ℕ → List ℕ
digits zero n = []
digits (suc k) n = digits k (n / 10) ++ (digit (n % 10) ∷ [])

pub length_digits : (k n : ℕ) → length (digits k n) ≡ k
unfolding digits
length_digits zero n = refl
length_digits (suc k) n = length-append (digits k (n / 10)) _ ∙ omega (arith, length_digits k (n / 10))

tell : (k n : ℕ) (b : Bool) → decimal_in k (n / 10) ≡ digits (width_in k (n / 10)) (n / 10)
    → cond b [] (decimal_in k (n / 10)) ++ (digit (n % 10) ∷ []) ≡ digits (cond b 0 (width_in k (n / 10)) + 1) n
unfolding digits
tell k n true e = refl
tell k n false e = rw (add-one (width_in k (n / 10)), e)

decimal_in_digits : (k n : ℕ) → decimal_in k n ≡ digits (width_in k n) n
unfolding decimal_in width_in digits
decimal_in_digits zero n = refl
decimal_in_digits (suc k) n = tell k n (ltb n 10) (decimal_in_digits k (n / 10))

-- decimal text is the last digits of the number, as many as its width
pub decimal_digits : (n : ℕ) → decimal n ≡ digits (width_of n) n
decimal_digits n = decimal_in_digits 20 n

pub length_decimal : (n : ℕ) → length (decimal n) ≡ width_of n
length_decimal n = ap length (decimal_digits n) ∙ length_digits (width_of n) n

-- ---- the search for the width

tens : (k n : ℕ) → n < 10 ^ suc k → n / 10 < 10 ^ k
tens k n h = (div-lt_iff_lt-mul {k = 10} (omega arith)).1 (rw (pow-suc 10 k) at h)

one_less : (k before : ℕ) → before < k → k - before ≡ suc (k - (before + 1))
one_less k before h = omega arith

left_over : (k n : ℕ) → n / 10 < 10 ^ k → 10 ≤ n → 0 < k
left_over zero n h b = omega arith
left_over (suc k) n h b = omega arith

module _ (before rest : ℕ) (h : before < 20) where
  pub tens_below : rest < 10 ^ (20 - before) → rest / 10 < 10 ^ (20 - (before + 1))
  tens_below b = tens (20 - (before + 1)) rest (rw (one_less 20 before h) at b)

  pub still_below : rest < 10 ^ (20 - before) → 10 ≤ rest → before + 1 < 20
  still_below b l = omega (arith, left_over (20 - (before + 1)) rest (tens_below b) l)

  pub width_more : 10 ≤ rest → width_in (20 - before) rest ≡ 1 + width_in (20 - (before + 1)) (rest / 10)
  unfolding width_in
  width_more b = rw (one_less 20 before h, le-ltb rest 10 b) (omega arith)

  pub width_last : rest < 10 → width_in (20 - before) rest ≡ 1
  unfolding width_in
  width_last b = rw (one_less 20 before h, lt-ltb rest 10 b)

-- ---- the width by the power of ten below

some_power : (k : ℕ) → 0 < 10 ^ k
some_power zero = omega arith
some_power (suc k) = omega (arith, pow-suc 10 k, some_power k)

ten_or_more : (k n : ℕ) → 10 ^ suc k ≤ n → (10 ≤ n) × (10 ^ k ≤ n / 10)
ten_or_more k n h =
    let e = pow-suc 10 k in
    let p = some_power k in
    (omega arith, omega arith)

pub width_by_power : (j k n : ℕ) → k < j → 10 ^ k ≤ n → n < 10 ^ suc k → width_in j n ≡ suc k
unfolding width_in
width_by_power zero k n h l u = absurd (omega arith)
width_by_power (suc j) zero n h l u = rw (lt-ltb n 10 (omega arith)) refl
width_by_power (suc j) (suc k) n h l u =
    let (more, low) = ten_or_more k n l in
    rw (le-ltb n 10 more, width_by_power j k (n / 10) (omega arith) low (tens (suc k) n u)) (add-one (suc k))

-- ---- what a reader of the text can count on

pub width_at_most : (k n : ℕ) → width_in k n ≤ k
unfolding width_in
width_at_most zero n = omega arith
width_at_most (suc k) n = at_most k n (ltb n 10) (width_at_most k (n / 10))
  where
    at_most : (k n : ℕ) (b : Bool) → width_in k (n / 10) ≤ k → cond b 0 (width_in k (n / 10)) + 1 ≤ suc k
    at_most k n true h = omega arith
    at_most k n false h = omega arith

below_both : (k j n : ℕ) (b : Bool) → ltb n 10 ≡ b → (10 ≤ n → width_in k (n / 10) ≤ j) → cond b 0 (width_in k (n / 10)) + 1 ≤ suc j
below_both k j n true e h = omega arith
below_both k j n false e h = omega (arith, h (ltb-false n 10 e))

pub width_below : (k j n : ℕ) → n < 10 ^ suc j → width_in k n ≤ suc j
unfolding width_in
width_below zero j n h = omega arith
width_below (suc k) zero n h = below_both k zero n (ltb n 10) refl (λ l. omega (arith, tens zero n h))
width_below (suc k) (suc j) n h = below_both k (suc j) n (ltb n 10) refl (λ l. width_below k j (n / 10) (tens (suc j) n h))

-- a u32 has at most ten digits
pub width_short : (n : ℕ) → n < 2 ^ 32 → width_of n ≤ 10
width_short n h = width_below 20 9 n (omega arith)

-- a u16 at most five
pub width_shorter : (n : ℕ) → n < 2 ^ 16 → width_of n ≤ 5
width_shorter n h = width_below 20 4 n (omega arith)

-- at most twenty bytes
pub short_number : (n : ℕ) → length (decimal n) ≤ 20
short_number n = omega (arith, length_decimal n, width_at_most 20 n)

-- the number that a text says
unfoldable pub value_from : ℕ → List ℕ → ℕ
value_from v [] = v
value_from v (d ∷ ds) = value_from (v * 10 + (d - 48)) ds

pub value_more : (v : ℕ) (s : List ℕ) (d : ℕ) → value_from v (s ++ (d ∷ [])) ≡ value_from v s * 10 + (d - 48)
unfolding value_from
value_more v [] d = refl
value_more v (x ∷ s) d = value_more (v * 10 + (x - 48)) s d

value_both : (k n : ℕ) (b : Bool) → ltb n 10 ≡ b → value_from 0 (decimal_in k (n / 10)) ≡ n / 10
    → value_from 0 (cond b [] (decimal_in k (n / 10)) ++ (digit (n % 10) ∷ [])) ≡ n
unfolding value_from
value_both k n true e h = omega (arith, ltb-true n 10 e)
value_both k n false e h = value_more 0 (decimal_in k (n / 10)) (digit (n % 10)) ∙ omega arith

value_in_lem : (k n : ℕ) → n < 10 ^ k → value_from 0 (decimal_in k n) ≡ n
unfolding decimal_in value_from
value_in_lem zero n h = omega arith
value_in_lem (suc k) n h = value_both k n (ltb n 10) refl (value_in_lem k (n / 10) (tens k n h))

-- the text says the number
pub value_of_decimal : (n : ℕ) → n < 10 ^ 20 → value_from 0 (decimal n) ≡ n
value_of_decimal = value_in_lem 20

first_stays : (s t : List ℕ) → 48 < get_or s 0 0 → 48 < get_or (s ++ t) 0 0
first_stays [] t h = omega arith
first_stays (x ∷ s) t h = h

first_both : (k n : ℕ) (b : Bool) → ltb n 10 ≡ b → 0 < n → (0 < n / 10 → 48 < get_or (decimal_in k (n / 10)) 0 0)
    → 48 < get_or (cond b [] (decimal_in k (n / 10)) ++ (digit (n % 10) ∷ [])) 0 0
first_both k n true e p h = omega (arith, ltb-true n 10 e)
first_both k n false e p h = first_stays (decimal_in k (n / 10)) _ (h (omega (arith, ltb-false n 10 e)))

first_in : (k n : ℕ) → n < 10 ^ k → 0 < n → 48 < get_or (decimal_in k n) 0 0
unfolding decimal_in
first_in zero n h p = omega arith
first_in (suc k) n h p = first_both k n (ltb n 10) refl p (λ q. first_in k (n / 10) (tens k n h) q)

-- no leading zero: the first character of a number above 0 is not `0`, and 0 has that one alone
pub no_leading_zero : (n : ℕ) → n < 10 ^ 20 → 0 < n → 48 < get_or (decimal n) 0 0
no_leading_zero = first_in 20

pub zero_alone : decimal 0 ≡ 48 ∷ []
unfolding decimal_in
zero_alone = refl
