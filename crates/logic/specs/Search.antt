-- Searches over numbers and over the elements of a list, for any test.
use Rattle.std.specs.Prelude.{ℕ, zero, suc, Bool, true, false, cond, ◌&&◌, ◌||◌, List, [], ◌∷◌}

-- every number below n passes
unfoldable pub all_b : ℕ → (ℕ → Bool) → Bool
all_b zero f = true
all_b (suc n) f = all_b n f && f n

-- some number below n passes
unfoldable pub any_b : ℕ → (ℕ → Bool) → Bool
any_b zero f = false
any_b (suc n) f = any_b n f || f n

-- the lowest that passes of the k numbers from i on; i + k if none does
unfoldable pub first_from : (ℕ → Bool) → ℕ → ℕ → ℕ
first_from f zero i = i
first_from f (suc k) i =
    let later = first_from f k (suc i) in
    cond (f i) i later

-- those that pass of the k numbers from i on, the lowest first
unfoldable pub kept_from : (ℕ → Bool) → ℕ → ℕ → List ℕ
kept_from f zero i = []
kept_from f (suc k) i =
    let later = kept_from f k (suc i) in
    cond (f i) (i ∷ later) later

-- every element of a list passes
unfoldable pub all_in : {A : Type 0} → (A → Bool) → List A → Bool
all_in f [] = true
all_in f (x ∷ xs) = f x && all_in f xs
