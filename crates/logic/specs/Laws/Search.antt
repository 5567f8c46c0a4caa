-- The searches, for any test: what a loop needs to go on or to stop, and what a caller learns from the result.
use Rattle.std.specs.Prelude.{◌≡◌, refl, Bool, true, false, cond, ◌&&◌, ◌||◌, ◌⊎◌, ℕ, zero, suc, ◌+◌, ◌-◌, ◌≤◌, ◌<◌, length, get_or}
use Rattle.std.proofs.Common.{sym, ap, ◌∙◌, true≢false, ⊎_elim, inl, inr, not-suc-le-zero, eq-or-lt_of_le, le_of_suc-le-suc, add-one, arith}
use Rattle.std.proofs.lemmas.Bool.{false≢true}
use mathlib.Core.List.Memᴰ
use mathlib.Core.List.{List, [], ◌∷◌, Memᴰ}
use Rattle.std.proofs.Math.Decide.{dec_le, ℕ_discrete}
use Rattle.logic.specs.Search.{all_b, any_b, first_from, kept_from, all_in}
use Rattle.logic.specs.Laws.Bools.{and_left, and_right, and_both, or_right, or_none}

-- ---- every number below n passes

pub all_more : (f : ℕ → Bool) (i : ℕ) → all_b i f ≡ true → f i ≡ true → all_b (i + 1) f ≡ true
unfolding all_b
all_more f i h p = rw (add-one) (and_both (all_b i f) (f i) h p)

pub all_at : (n : ℕ) (f : ℕ → Bool) → all_b n f ≡ true → (i : ℕ) → i < n → f i ≡ true
unfolding all_b
all_at zero f h i l = absurd (not-suc-le-zero l)
all_at (suc n) f h i l = ⊎_elim (λ e. rw e (and_right (all_b n f) (f n) h)) (λ m. all_at n f (and_left (all_b n f) (f n) h) i m) (eq-or-lt_of_le (le_of_suc-le-suc l))

pub all_from : (n : ℕ) (f : ℕ → Bool) → ((i : ℕ) → i < n → f i ≡ true) → all_b n f ≡ true
unfolding all_b
all_from zero f h = refl
all_from (suc n) f h = and_both (all_b n f) (f n) (all_from n f (λ i l. h i (omega arith))) (h n (omega arith))

all_not : (n : ℕ) (f : ℕ → Bool) (b : Bool) → all_b n f ≡ b → (i : ℕ) → i < n → f i ≡ false → b ≡ false
all_not n f true h i l p = sym (all_at n f h i l) ∙ p
all_not n f false h i l p = refl

pub all_stop : (n : ℕ) (f : ℕ → Bool) (i : ℕ) → i < n → f i ≡ false → all_b n f ≡ false
all_stop n f i l p = all_not n f (all_b n f) refl i l p

-- ---- some number below n passes

pub none_more : (f : ℕ → Bool) (i : ℕ) → any_b i f ≡ false → f i ≡ false → any_b (i + 1) f ≡ false
unfolding any_b
none_more f i h p = rw (add-one) (or_none (any_b i f) (f i) h p)

pub any_stop : (n : ℕ) (f : ℕ → Bool) (i : ℕ) → i < n → f i ≡ true → any_b n f ≡ true
unfolding any_b
any_stop zero f i l p = absurd (not-suc-le-zero l)
any_stop (suc n) f i l p = ⊎_elim (λ e. or_right (any_b n f) (f n) (ap f (sym e) ∙ p)) (λ m. rw (any_stop n f i m p)) (eq-or-lt_of_le (le_of_suc-le-suc l))

pub none_from : (n : ℕ) (f : ℕ → Bool) → ((i : ℕ) → i < n → f i ≡ false) → any_b n f ≡ false
unfolding any_b
none_from zero f h = refl
none_from (suc n) f h = or_none (any_b n f) (f n) (none_from n f (λ i l. h i (omega arith))) (h n (omega arith))

-- where no other number passes, one decides
pub any_only : (n : ℕ) (f : ℕ → Bool) (k : ℕ) → k < n → ((i : ℕ) → (i ≡ k → ⊥) → f i ≡ false) → any_b n f ≡ f k
any_only n f k l others = tell (f k) refl
  where
    at : (i : ℕ) → f k ≡ false → Dec (i ≡ k) → f i ≡ false
    at i p (yes e) = ap f e ∙ p
    at i p (no d) = others i d

    tell : (b : Bool) → f k ≡ b → any_b n f ≡ b
    tell true p = any_stop n f k l p
    tell false p = none_from n f (λ i m. at i p (ℕ_discrete i k))

-- where some number passes, which one
pub record Passing (n : ℕ) (f : ℕ → Bool) : Type 0 where
  pub number : ℕ
  pub below : number < n
  pub passes : f number ≡ true

one_more : (n : ℕ) (f : ℕ → Bool) → Passing n f → Passing (suc n) f
one_more n f w = record { number = w.number; below = omega arith; passes = w.passes }

pub any_at : (n : ℕ) (f : ℕ → Bool) → any_b n f ≡ true → Passing n f
unfolding any_b
any_at zero f h = absurd (false≢true h)
any_at (suc n) f h = here (any_b n f) (f n) (any_at n f) refl h
  where
    here : (a b : Bool) → (a ≡ true → Passing n f) → f n ≡ b → (a || b) ≡ true → Passing (suc n) f
    here true b w e q = one_more n f (w refl)
    here false true w e q = record { number = n; below = omega arith; passes = e }
    here false false w e q = absurd (false≢true q)

pub none_at : (n : ℕ) (f : ℕ → Bool) → any_b n f ≡ false → (i : ℕ) → i < n → f i ≡ false
none_at n f h i l = tell (f i) refl
  where
    tell : (b : Bool) → f i ≡ b → f i ≡ false
    tell true p = absurd (true≢false (sym (any_stop n f i l p) ∙ h))
    tell false p = p

-- ---- the lowest from i on

pub first_none : (f : ℕ → Bool) (n i : ℕ) → n ≤ i → first_from f (n - i) i ≡ i
unfolding first_from
first_none f n i h =
    let e : n - i ≡ 0 = omega arith in
    rw e

pub first_hit : (f : ℕ → Bool) (n i : ℕ) → i < n → f i ≡ true → first_from f (n - i) i ≡ i
unfolding first_from
first_hit f n i h p =
    let e : n - i ≡ suc (n - i - 1) = omega arith in
    rw (e, p)

pub first_miss : (f : ℕ → Bool) (n i : ℕ) → i < n → f i ≡ false → first_from f (n - i) i ≡ first_from f (n - (i + 1)) (i + 1)
unfolding first_from
first_miss f n i h p =
    let e : n - i ≡ suc (n - (i + 1)) = omega arith in
    rw (e, p, add-one)

-- what the lowest one is: not before i, not past the end, passing if it is not the end, and nothing before it passes
pub record First (f : ℕ → Bool) (k i r : ℕ) : Type 0 where
  pub from : i ≤ r
  pub within : r ≤ i + k
  pub found : r < i + k → f r ≡ true
  pub before : (j : ℕ) → i ≤ j → j < r → f j ≡ false

pub first : (f : ℕ → Bool) (k i : ℕ) → First f k i (first_from f k i)
unfolding first_from
first f zero i = record { from = omega arith; within = omega arith; found = λ l. absurd (omega arith); before = λ j l m. absurd (omega arith) }
first f (suc k) i = at (f i) refl (first f k (suc i))
  where
    at : (b : Bool) → f i ≡ b → First f k (suc i) (first_from f k (suc i)) → First f (suc k) i (cond b i (first_from f k (suc i)))
    at true p w = record { from = omega arith; within = omega arith; found = λ l. p; before = λ j l m. absurd (omega arith) }
    at false p w = record { from = omega arith; within = omega arith; found = λ l. w.found (omega arith); before = λ j l m. ⊎_elim (λ e. rw (← e) p) (λ n. w.before j n m) (eq-or-lt_of_le l) }

-- a number that passes is not passed over, the last of the range included
pub not_passed_over : (f : ℕ → Bool) (k i j : ℕ) → i ≤ j → j < i + k → f j ≡ true → first_from f k i ≤ j
not_passed_over f k i j l m p = tell (dec_le (first_from f k i) j)
  where
    tell : Dec (first_from f k i ≤ j) → first_from f k i ≤ j
    tell (yes h) = h
    tell (no h) = absurd (true≢false (sym p ∙ (first f k i).before j l (omega arith)))

-- ---- those from i on that pass

-- a number in the list of those kept: in range, and passing
pub record Kept (f : ℕ → Bool) (k i j : ℕ) : Type 0 where
  pub from : i ≤ j
  pub below : j < i + k
  pub passes : f j ≡ true

kept_later : (f : ℕ → Bool) (k i j : ℕ) → Kept f k (suc i) j → Kept f (suc k) i j
kept_later f k i j w = record { from = omega arith; below = omega arith; passes = w.passes }

pub kept_passes : (f : ℕ → Bool) (k i j : ℕ) → Memᴰ j (kept_from f k i) → Kept f k i j
unfolding kept_from
kept_passes f zero i j h = absurd (Memᴰ.not-nil h)
kept_passes f (suc k) i j h = at (f i) refl (kept_passes f k (suc i) j) h
  where
    at : (b : Bool) → f i ≡ b → (Memᴰ j (kept_from f k (suc i)) → Kept f k (suc i) j) → Memᴰ j (cond b (i ∷ kept_from f k (suc i)) (kept_from f k (suc i))) → Kept f (suc k) i j
    at true p w m = ⊎_elim (λ e. record { from = omega arith; below = omega arith; passes = rw e p }) (λ l. kept_later f k i j (w l)) (Memᴰ.cases_cons m)
    at false p w m = kept_later f k i j (w m)

pub passes_kept : (f : ℕ → Bool) (k i j : ℕ) → i ≤ j → j < i + k → f j ≡ true → Memᴰ j (kept_from f k i)
unfolding kept_from
passes_kept f zero i j l m p = absurd (omega arith)
passes_kept f (suc k) i j l m p = at (f i) refl (eq-or-lt_of_le l) (λ n. passes_kept f k (suc i) j n (omega arith) p)
  where
    at : (b : Bool) → f i ≡ b → (i ≡ j) ⊎ (i < j) → (i < j → Memᴰ j (kept_from f k (suc i))) → Memᴰ j (cond b (i ∷ kept_from f k (suc i)) (kept_from f k (suc i)))
    at true q (inl e) w = Memᴰ.head (sym e)
    at true q (inr n) w = Memᴰ.tail (w n)
    at false q (inl e) w = absurd (false≢true (sym q ∙ ap f e ∙ p))
    at false q (inr n) w = w n

-- ---- a loop that has come to the end

pub all_done : (f : ℕ → Bool) (n i : ℕ) → i ≤ n → n ≤ i → all_b i f ≡ true → all_b n f ≡ true
all_done f n i l m h =
    let e : n ≡ i = omega arith in
    ap (λ (k : ℕ). all_b k f) e ∙ h

pub none_done : (f : ℕ → Bool) (n i : ℕ) → i ≤ n → n ≤ i → any_b i f ≡ false → any_b n f ≡ false
none_done f n i l m h =
    let e : n ≡ i = omega arith in
    ap (λ (k : ℕ). any_b k f) e ∙ h

-- ---- tests compared

pub all_same : (n : ℕ) (f g : ℕ → Bool) → ((i : ℕ) → i < n → f i ≡ g i) → all_b n f ≡ all_b n g
unfolding all_b
all_same zero f g h = refl
all_same (suc n) f g h = rw (all_same n f g (λ i l. h i (omega arith)), h n (omega arith))

pub all_both : (n : ℕ) (f g : ℕ → Bool) → (all_b n f && all_b n g) ≡ all_b n (λ i. f i && g i)
unfolding all_b
all_both zero f g = refl
all_both (suc n) f g = rw (← all_both n f g) (by_cases (all_b n f) (f n) (all_b n g) (g n))
  where
    by_cases : (a b c d : Bool) → (a && b && (c && d)) ≡ (a && c && (b && d))
    by_cases true true c d = refl
    by_cases true false true d = refl
    by_cases true false false d = refl
    by_cases false b c d = refl

-- where all but one pass, that one decides
pub all_one : (n : ℕ) (f : ℕ → Bool) (r : ℕ) → r < n → ((k : ℕ) → (k ≡ r → ⊥) → f k ≡ true) → all_b n f ≡ f r
all_one n f r l others = by_cases (f r) refl
  where
    by_cases : (b : Bool) → f r ≡ b → all_b n f ≡ b
    by_cases false e = all_stop n f r l e
    by_cases true e = all_from n f (λ k m. passing k (ℕ_discrete k r))
      where
        passing : (k : ℕ) → Dec (k ≡ r) → f k ≡ true
        passing k (yes same) = ap f same ∙ e
        passing k (no apart) = others k apart

-- ---- the elements of a list

pub within : {A : Type 0} (f : A → Bool) (xs : List A) (d : A) → all_in f xs ≡ true
    → (k : ℕ) → k < length xs → f (get_or xs k d) ≡ true
unfolding all_in
within f [] d e k h = absurd (not-suc-le-zero h)
within f (x ∷ xs) d e zero h = and_left (f x) (all_in f xs) e
within f (x ∷ xs) d e (suc k) h = within f xs d (and_right (f x) (all_in f xs) e) k (le_of_suc-le-suc h)
