-- What a chain over numbers or words computes, in the words of the definitions.
use Rattle.std.proofs.Common.{◌≡◌, refl, ap, ◌∙◌, Bool, ◌&&◌, List, [], ◌∷◌, ℕ, zero, suc, ◌+◌, ◌<◌, ◌≤◌, length, take, get_or, zero-add, arith, eqb}
use Rattle.std.proofs.Math.Bool.{and-true}
use Rattle.std.specs.List.{list_all, range_with_len, fold}
use Rattle.std.specs.Int.Bits.{bit_or}
use Rattle.std.proofs.lemmas.List.Folds.{list_all-append}
use Rattle.std.proofs.lemmas.List.Sums.{fold_push}
use Rattle.words.proofs.Chains.{one_further}
use Rattle.std.proofs.Math.Seq.{take-suc}
use Rattle.logic.specs.Search.{all_b}
use Rattle.tables.specs.Laws.Values.{or_zero}

-- ---- a test of the numbers below n

pub all_counted : (f : ℕ → Bool) (n : ℕ) → list_all f (range_with_len 0 n) ≡ all_b n f
unfolding all_b
all_counted f zero = refl
all_counted f (suc n) =
    ap (list_all f) (one_further 0 n)
    ∙ list_all-append f (range_with_len 0 n) ((0 + n) ∷ [])
    ∙ rw (all_counted f n, zero-add) (ap (λ (b : Bool). all_b n f && b) (and-true (f n)))

-- ---- the first n words gathered in one

pub zeros_gathered : (t : List ℕ) (n : ℕ) → n ≤ length t → eqb (fold bit_or 0 (take n t)) 0 ≡ all_b n (λ i. eqb (get_or t i 0) 0)
unfolding all_b
zeros_gathered t zero h = refl
zeros_gathered t (suc n) h =
    let inside : n < length t = omega arith in
    rw (take-suc t n 0 inside, fold_push, or_zero, zeros_gathered t n (omega arith))
