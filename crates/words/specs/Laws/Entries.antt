-- Entries and cursors: what is read after a write, and what a write leaves alone.
use Rattle.std.specs.Prelude.{◌≡◌, ◌⊎◌, Bool, cond, eqb, length, get_or, set, drop}
use Rattle.std.proofs.Math.Path.{refl}
use Rattle.std.proofs.Common.{sym, ◌∙◌, inl, inr, eq-or-lt_of_le, le_of_suc-le-suc, le_refl, arith, length-set, get_or-set_same, get_or-set_other, drop-set-lt}
use Rattle.std.proofs.Math.Bool.{true, false}
use mathlib.Core.List.{List}
use Prim.Native.Nat.{ℕ, zero, suc, ◌+◌, ◌≤◌, ◌<◌}
use Rattle.std.proofs.Math.Decide.{dec_lt}
use Rattle.std.proofs.Math.Dec.{ltb}
use Rattle.std.proofs.Math.Seq.{set_out}
use borrow.Author.Tests.{eqb-true, ltb-true}
use Rattle.words.specs.declared.layout.Kind.{Kind}
use Rattle.words.specs.Layout.{words, stride_of, count_of, place_of, cursor_of}
use Rattle.words.specs.Entries.{in_entry, word_of, with_word, cursor_in, with_cursor, one_past, first_then_zeros, filled, with_words, with_entry}
use Rattle.logic.specs.Laws.Decides.{Decides, both, less}
use Rattle.words.specs.Laws.Layout.{stride_positive, count_positive, in_use, cursor_in_use, no_entry, one_cursor, Same, one_owner}

module _ (kind : Kind) (i k : ℕ) where
  pub entry_test : Decides (in_entry kind i k) ((i < count_of kind) × (k < stride_of kind))
  entry_test = both _ _ (less i (count_of kind)) (less k (stride_of kind))

  pub entry_in_use : in_entry kind i k ≡ true → place_of kind i + k < words
  entry_in_use e =
      let here = entry_test.holds e in
      in_use kind i k here.0 here.1

-- ---- one word written

module _ (t : List ℕ) (kind : Kind) (i k w : ℕ) where
  pub length_word : length (with_word t kind i k w) ≡ length t
  length_word = by_cases (in_entry kind i k)
    where
      by_cases : (b : Bool) → length (cond b (set t (place_of kind i + k) w) t) ≡ length t
      by_cases true = length-set t (place_of kind i + k) w
      by_cases false = refl

  pub word_same : i < count_of kind → k < stride_of kind → words ≤ length t → word_of (with_word t kind i k w) kind i k ≡ w
  word_same hi hk long =
      let inside = in_use kind i k hi hk in
      rw ((entry_test kind i k).passes (hi, hk)) (get_or-set_same t (place_of kind i + k) w 0 (omega arith))

  -- in a table of any length: the word is written, or nothing changes
  pub word_written : (word_of (with_word t kind i k w) kind i k ≡ w) ⊎ (with_word t kind i k w ≡ t)
  word_written = by_cases (in_entry kind i k)
    where
      placed : Dec (place_of kind i + k < length t) → (get_or (set t (place_of kind i + k) w) (place_of kind i + k) 0 ≡ w) ⊎ (set t (place_of kind i + k) w ≡ t)
      placed (yes l) = inl (get_or-set_same t (place_of kind i + k) w 0 l)
      placed (no l) = inr (set_out t (place_of kind i + k) w (omega arith))

      by_cases : (b : Bool) → (cond b (get_or (cond b (set t (place_of kind i + k) w) t) (place_of kind i + k) 0) 0 ≡ w) ⊎ (cond b (set t (place_of kind i + k) w) t ≡ t)
      by_cases true = placed (dec_lt (place_of kind i + k) (length t))
      by_cases false = inr refl

  pub word_other : (kind' : Kind) (i' k' : ℕ) → (Same kind kind' i i' k k' → ⊥) → word_of (with_word t kind i k w) kind' i' k' ≡ word_of t kind' i' k'
  word_other kind' i' k' apart = by_cases (in_entry kind i k) refl (in_entry kind' i' k') refl
    where
      by_cases : (b : Bool) → in_entry kind i k ≡ b → (b' : Bool) → in_entry kind' i' k' ≡ b'
          → cond b' (get_or (cond b (set t (place_of kind i + k) w) t) (place_of kind' i' + k') 0) 0 ≡ cond b' (get_or t (place_of kind' i' + k') 0) 0
      by_cases b e false e' = refl
      by_cases false e true e' = refl
      by_cases true e true e' =
          let here = (entry_test kind i k).holds e in
          let there = (entry_test kind' i' k').holds e' in
          get_or-set_other t (place_of kind i + k) (place_of kind' i' + k') w 0 (λ same. apart (one_owner kind kind' i i' k k' here.0 here.1 there.0 there.1 (sym same)))

  -- nothing is written behind the words in use
  pub word_beyond : drop words (with_word t kind i k w) ≡ drop words t
  word_beyond = by_cases (in_entry kind i k) refl
    where
      by_cases : (b : Bool) → in_entry kind i k ≡ b → drop words (cond b (set t (place_of kind i + k) w) t) ≡ drop words t
      by_cases false e = refl
      by_cases true e = drop-set-lt words t (place_of kind i + k) w (entry_in_use kind i k e)

  -- no cursor is written
  pub word_cursor : (kind' : Kind) → cursor_in (with_word t kind i k w) kind' ≡ cursor_in t kind'
  word_cursor kind' = by_cases (in_entry kind i k) refl
    where
      by_cases : (b : Bool) → in_entry kind i k ≡ b → get_or (cond b (set t (place_of kind i + k) w) t) (cursor_of kind') 0 ≡ get_or t (cursor_of kind') 0
      by_cases false e = refl
      by_cases true e =
          let here = (entry_test kind i k).holds e in
          get_or-set_other t (place_of kind i + k) (cursor_of kind') w 0 (λ same. no_entry kind kind' i k here.0 here.1 (sym same))

-- nothing is read behind them: tables that are alike below have the same entries
pub word_alike : (a b : List ℕ) → ((j : ℕ) → j < words → get_or a j 0 ≡ get_or b j 0) → (kind : Kind) (i k : ℕ) → word_of a kind i k ≡ word_of b kind i k
word_alike a b h kind i k = by_cases (in_entry kind i k) refl
  where
    by_cases : (c : Bool) → in_entry kind i k ≡ c → cond c (get_or a (place_of kind i + k) 0) 0 ≡ cond c (get_or b (place_of kind i + k) 0) 0
    by_cases false e = refl
    by_cases true e = h (place_of kind i + k) (entry_in_use kind i k e)

-- ---- a cursor written

module _ (t : List ℕ) (kind : Kind) (n : ℕ) where
  pub length_cursor : length (with_cursor t kind n) ≡ length t
  length_cursor = length-set t (cursor_of kind) n

  pub cursor_beyond : drop words (with_cursor t kind n) ≡ drop words t
  cursor_beyond = drop-set-lt words t (cursor_of kind) n (cursor_in_use kind)

  -- no entry is written
  pub cursor_entries : (kind' : Kind) (i k : ℕ) → word_of (with_cursor t kind n) kind' i k ≡ word_of t kind' i k
  cursor_entries kind' i k = by_cases (in_entry kind' i k) refl
    where
      by_cases : (b : Bool) → in_entry kind' i k ≡ b → cond b (get_or (set t (cursor_of kind) n) (place_of kind' i + k) 0) 0 ≡ cond b (get_or t (place_of kind' i + k) 0) 0
      by_cases false e = refl
      by_cases true e =
          let there = (entry_test kind' i k).holds e in
          get_or-set_other t (cursor_of kind) (place_of kind' i + k) n 0 (no_entry kind' kind i k there.0 there.1)

  pub cursor_same : words ≤ length t → cursor_in (with_cursor t kind n) kind ≡ n
  cursor_same long = get_or-set_same t (cursor_of kind) n 0 (omega (arith, cursor_in_use kind))

  pub cursor_other : (kind' : Kind) → (kind ≡ kind' → ⊥) → cursor_in (with_cursor t kind n) kind' ≡ cursor_in t kind'
  cursor_other kind' apart = get_or-set_other t (cursor_of kind) (cursor_of kind') n 0 (λ same. apart (one_cursor kind kind' (sym same)))

-- one past any number is one that can be tried
pub one_past_below : (kind : Kind) (i : ℕ) → one_past kind i < count_of kind
one_past_below kind i = by_cases (ltb (i + 1) (count_of kind)) refl
  where
    by_cases : (b : Bool) → ltb (i + 1) (count_of kind) ≡ b → cond b (i + 1) 0 < count_of kind
    by_cases true e = ltb-true _ _ e
    by_cases false e = count_positive kind

-- ---- a whole entry written

module _ (t : List ℕ) (kind : Kind) (i first : ℕ) where
  length_some : (n : ℕ) → length (filled t kind i first n) ≡ length t
  unfolding filled
  length_some zero = refl
  length_some (suc n) = length_word (filled t kind i first n) kind i n (first_then_zeros first n) ∙ length_some n

  beyond_some : (n : ℕ) → drop words (filled t kind i first n) ≡ drop words t
  unfolding filled
  beyond_some zero = refl
  beyond_some (suc n) = word_beyond (filled t kind i first n) kind i n (first_then_zeros first n) ∙ beyond_some n

  other_some : (n : ℕ) (kind' : Kind) (i' k' : ℕ) → (kind ≡ kind' → i ≡ i' → ⊥) → word_of (filled t kind i first n) kind' i' k' ≡ word_of t kind' i' k'
  unfolding filled
  other_some zero kind' i' k' apart = refl
  other_some (suc n) kind' i' k' apart =
      word_other (filled t kind i first n) kind i n (first_then_zeros first n) kind' i' k' (λ s. apart s.kinds s.numbers) ∙ other_some n kind' i' k' apart

  same_some : (n k : ℕ) → k < n → i < count_of kind → n ≤ stride_of kind → words ≤ length t → word_of (filled t kind i first n) kind i k ≡ first_then_zeros first k
  unfolding filled
  same_some zero k l hi hn long = absurd (omega arith)
  same_some (suc n) k l hi hn long = by_cases (eq-or-lt_of_le (le_of_suc-le-suc l)) (λ m. same_some n k m hi (omega arith) long)
    where
      before : List ℕ
      before = filled t kind i first n

      by_cases : (k ≡ n) ⊎ (k < n) → (k < n → word_of before kind i k ≡ first_then_zeros first k) → word_of (with_word before kind i n (first_then_zeros first n)) kind i k ≡ first_then_zeros first k
      by_cases (inl e) earlier = rw e (word_same before kind i n (first_then_zeros first n) hi (omega arith) (omega (arith, length_some n)))
      by_cases (inr m) earlier = word_other before kind i n (first_then_zeros first n) kind i k (λ s. omega arith) ∙ earlier m

  cursor_some : (n : ℕ) (kind' : Kind) → cursor_in (filled t kind i first n) kind' ≡ cursor_in t kind'
  unfolding filled
  cursor_some zero kind' = refl
  cursor_some (suc n) kind' = word_cursor (filled t kind i first n) kind i n (first_then_zeros first n) kind' ∙ cursor_some n kind'

  -- all its words, as it is made with this first one; free again, the first one is 0
  pub length_entry : length (with_words t kind i first) ≡ length t
  length_entry = length_some (stride_of kind)

  pub entry_beyond : drop words (with_words t kind i first) ≡ drop words t
  entry_beyond = beyond_some (stride_of kind)

  pub entry_cursor : (kind' : Kind) → cursor_in (with_words t kind i first) kind' ≡ cursor_in t kind'
  entry_cursor kind' = cursor_some (stride_of kind) kind'

  pub entry_other : (kind' : Kind) (i' k' : ℕ) → (kind ≡ kind' → i ≡ i' → ⊥) → word_of (with_words t kind i first) kind' i' k' ≡ word_of t kind' i' k'
  entry_other kind' i' k' apart = other_some (stride_of kind) kind' i' k' apart

  pub entry_first : i < count_of kind → words ≤ length t → word_of (with_words t kind i first) kind i 0 ≡ first
  entry_first hi long = same_some (stride_of kind) 0 (stride_positive kind) hi (le_refl (stride_of kind)) long

  pub entry_zeros : (k : ℕ) → k < stride_of kind → i < count_of kind → words ≤ length t → (k ≡ 0 → first ≡ 0) → word_of (with_words t kind i first) kind i k ≡ 0
  entry_zeros k l hi long h = same_some (stride_of kind) k l hi (le_refl (stride_of kind)) long ∙ by_cases (eqb k 0) refl
    where
      by_cases : (b : Bool) → eqb k 0 ≡ b → cond b first 0 ≡ 0
      by_cases true e = h (eqb-true k 0 e)
      by_cases false e = refl

-- ---- an entry made: its words, and the cursor one past it

module _ (t : List ℕ) (kind : Kind) (i first : ℕ) where
  pub length_made : length (with_entry t kind i first) ≡ length t
  length_made = length_cursor (with_words t kind i first) kind (one_past kind i) ∙ length_entry t kind i first

  pub made_beyond : drop words (with_entry t kind i first) ≡ drop words t
  made_beyond = cursor_beyond (with_words t kind i first) kind (one_past kind i) ∙ entry_beyond t kind i first

  pub made_other : (kind' : Kind) (i' k' : ℕ) → (kind ≡ kind' → i ≡ i' → ⊥) → word_of (with_entry t kind i first) kind' i' k' ≡ word_of t kind' i' k'
  made_other kind' i' k' apart = cursor_entries (with_words t kind i first) kind (one_past kind i) kind' i' k' ∙ entry_other t kind i first kind' i' k' apart

  pub made_first : i < count_of kind → words ≤ length t → word_of (with_entry t kind i first) kind i 0 ≡ first
  made_first hi long = cursor_entries (with_words t kind i first) kind (one_past kind i) kind i 0 ∙ entry_first t kind i first hi long

  pub made_zeros : (k : ℕ) → 0 < k → k < stride_of kind → i < count_of kind → words ≤ length t → word_of (with_entry t kind i first) kind i k ≡ 0
  made_zeros k p l hi long = cursor_entries (with_words t kind i first) kind (one_past kind i) kind i k ∙ entry_zeros t kind i first k l hi long (λ z. absurd (omega arith))

  pub made_cursor : words ≤ length t → cursor_in (with_entry t kind i first) kind ≡ one_past kind i
  made_cursor long = cursor_same (with_words t kind i first) kind (one_past kind i) (omega (arith, length_entry t kind i first))

  pub made_cursor_other : (kind' : Kind) → (kind ≡ kind' → ⊥) → cursor_in (with_entry t kind i first) kind' ≡ cursor_in t kind'
  made_cursor_other kind' apart = cursor_other (with_words t kind i first) kind (one_past kind i) kind' apart ∙ entry_cursor t kind i first kind'
