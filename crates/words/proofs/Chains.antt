-- What a chain over numbers or words computes, in the words of the definitions.
use Rattle.std.proofs.Common.{◌≡◌, refl, sym, ap, ◌∙◌, Bool, true, false, ◌||◌, List, [], ◌∷◌, ◌++◌, ℕ, zero, suc, ◌+◌, ◌<◌, ◌≤◌, length, take, add-zero, zero-add, arith, eqb}
use Rattle.std.proofs.Math.Bool.{or-false}
use Rattle.std.specs.List.{list_any, range_with_len, fold, zip}
use Rattle.std.specs.Int.Bits.{bit_or, bit_xor}
use Rattle.std.proofs.lemmas.List.Folds.{list_any-append}
use Rattle.std.proofs.lemmas.List.Sums.{fold_push}
use Rattle.std.proofs.lemmas.Slice.Zip.{length-zip, get_or-zip}
use Rattle.std.proofs.Math.Seq.{take-suc}
use Rattle.logic.specs.Search.{all_b, any_b}
use Rattle.logic.specs.Laws.Search.{any_at, any_stop}
use Rattle.words.specs.declared.layout.Kind.{Kind}
use Rattle.words.specs.Layout.{count_of}
use Rattle.words.specs.Entries.{word_of}
use Rattle.words.specs.Copies.{same_at}
use Rattle.words.specs.Quick.Present.{Present}
use Rattle.words.specs.Laws.Copies.{no_difference}
use Rattle.words.specs.Laws.Present.{none_present}

pub one_further : (a n : ℕ) → range_with_len a (suc n) ≡ range_with_len a n ++ ((a + n) ∷ [])
one_further a zero = rw (add-zero) refl
one_further a (suc n) = ap (λ (l : List ℕ). a ∷ l) (one_further (a + 1) n ∙ ap (λ (x : ℕ). range_with_len (a + 1) n ++ (x ∷ [])) (omega arith))

-- `any` over the numbers below n
pub any_counted : (f : ℕ → Bool) (n : ℕ) → list_any f (range_with_len 0 n) ≡ any_b n f
unfolding any_b
any_counted f zero = refl
any_counted f (suc n) =
    ap (list_any f) (one_further 0 n)
    ∙ list_any-append f (range_with_len 0 n) ((0 + n) ∷ [])
    ∙ rw (any_counted f n, zero-add) (ap (λ (b : Bool). any_b n f || b) (or-false (f n)))

-- a test that no word 0 passes is passed by one of the entries that are present, or by none
pub any_present : (t : List ℕ) (kind : Kind) (n : ℕ) (f : ℕ → Bool) → Present t kind n → ((j : ℕ) → word_of t kind j 0 ≡ 0 → f j ≡ false) → any_b n f ≡ any_b (count_of kind) f
any_present t kind n f here free = tell (any_b n f) refl
  where
    tell : (b : Bool) → any_b n f ≡ b → b ≡ any_b (count_of kind) f
    tell true e =
        let one = any_at n f e in
        sym (any_stop (count_of kind) f one.number (omega (arith, here.within)) one.passes)
    tell false e = sym (none_present t kind n n f here (omega arith) free e)

abbrev pub gathered : ℕ → ℕ × ℕ → ℕ
gathered d w = bit_or d (bit_xor w.0 w.1)

zip_take : (n : ℕ) (a b : List ℕ) → zip (take n a) (take n b) ≡ take n (zip a b)
zip_take zero a b = refl
zip_take (suc n) [] b = refl
zip_take (suc n) (x ∷ a) [] = refl
zip_take (suc n) (x ∷ a) (y ∷ b) = ap (λ (l : List (ℕ × ℕ)). (x, y) ∷ l) (zip_take n a b)

-- what words side by side differ in, gathered, is 0 where the tables agree in them
some_gathered : (a b : List ℕ) (n : ℕ) → n ≤ length a → n ≤ length b → eqb (fold gathered 0 (take n (zip a b))) 0 ≡ all_b n (same_at a b)
unfolding all_b
some_gathered a b zero ha hb = refl
some_gathered a b (suc n) ha hb =
    let inside : n < length (zip a b) = omega (arith, length-zip a b) in
    rw (take-suc (zip a b) n (0, 0) inside, fold_push, get_or-zip a b n (0, 0) (omega arith) (omega arith), no_difference, some_gathered a b n (omega arith) (omega arith))

pub none_gathered : (a b : List ℕ) (n : ℕ) → n ≤ length a → n ≤ length b → eqb (fold gathered 0 (zip (take n a) (take n b))) 0 ≡ all_b n (same_at a b)
none_gathered a b n ha hb = rw (zip_take n a b) (some_gathered a b n ha hb)
