-- Two tables: agreement word by word, what a copy holds, and that the words beyond those in use play no part.
use Rattle.std.specs.Prelude.{◌≡◌, false, ◌&&◌, List, ◌++◌, ℕ, suc, ◌+◌, ◌≤◌, ◌<◌, eqb, leb, length, get_or, set, take, drop}
use Rattle.std.proofs.Common.{sym, ap, ◌∙◌, append-nil, add-one, arith, le-leb, length-append, length-take, length-drop, take_all, take-suc, drop-cons, length-take-le, get_or-take, drop_at}
use Rattle.std.specs.Int.Bits.{bit_or, bit_xor, or_add_and, or_zero_l, xor_add_and, xor_self}
use Rattle.std.proofs.lemmas.Nat.{and_le_l, and_le_r}
use Rattle.std.proofs.lemmas.Bool.{lt-leb}
use Rattle.std.proofs.Math.ListN.{get_or-append}
use Rattle.std.proofs.Math.Seq.{drop-length, append_snoc}
use Rattle.std.proofs.lemmas.List.{set_at}
use Rattle.words.specs.declared.layout.Kind.{Kind}
use Rattle.words.specs.Layout.{words, cursor_of}
use Rattle.words.specs.Entries.{word_of, cursor_in}
use Rattle.logic.specs.Search.{all_b}
use Rattle.words.specs.Copies.{same_at, agree, in_both, copied}
use Rattle.logic.specs.Laws.Bools.{and_ended}
use Rattle.logic.specs.Laws.Decides.{Decides, same_test, both, equal, at_most, every, restated}
use Rattle.words.specs.Laws.Layout.{cursor_in_use}
use Rattle.words.specs.Laws.Entries.{word_alike}

-- one word more is copied
pub copy_more : (from to : List ℕ) (i : ℕ) → i < length from → i < length to → set (take i from ++ drop i to) i (get_or from i 0) ≡ take (i + 1) from ++ drop (i + 1) to
copy_more from to i hf ht =
    rw (add-one, drop-cons to i 0 ht, take-suc from i 0 hf, append_snoc)
    (set_at (take i from) (get_or to i 0) (drop (suc i) to) (get_or from i 0) i (length-take-le i from (omega arith)))

-- all words in use are taken into a block of as many
pub all_taken_lem : (from block : List ℕ) → length block ≡ words → take words from ++ drop words block ≡ take words from
all_taken_lem from block e = ap (λ (l : List ℕ). take words from ++ l) (ap (λ (n : ℕ). drop n block) (sym e) ∙ drop-length block) ∙ append-nil (take words from)

-- what two words differ in, gathered with what words before them differ in
pub no_difference : (d x y : ℕ) → eqb (bit_or d (bit_xor x y)) 0 ≡ (eqb d 0 && eqb x y)
no_difference d x y =
    same_test _ _
    (restated (equal (bit_or d (bit_xor x y)) 0)
    (λ e. (omega (arith, or_add_and d (bit_xor x y), and_le_r d (bit_xor x y)), omega (arith, or_add_and d (bit_xor x y), and_le_l d (bit_xor x y), xor_add_and x y, and_le_l x y, and_le_r x y)))
    (λ w. rw (w.0, w.1, xor_self y, or_zero_l 0)))
    (both _ _ (equal d 0) (equal x y))

-- the tests of `agree`
module _ (a b : List ℕ) where
  pub short_left : length a < words → agree a b ≡ false
  short_left h = rw (lt-leb words (length a) h)

  pub short_right : length b < words → agree a b ≡ false
  short_right h = rw (and_ended (leb words (length a)) (leb words (length b)) (lt-leb words (length b) h))

  pub both_long : words ≤ length a → words ≤ length b → agree a b ≡ all_b words (same_at a b)
  both_long ha hb = rw (le-leb words (length a) ha, le-leb words (length b) hb)

-- ---- agreement

pub record Agreeing (a b : List ℕ) : Type 0 where
  pub left : words ≤ length a
  pub right : words ≤ length b
  pub alike : (i : ℕ) → i < words → get_or a i 0 ≡ get_or b i 0

pub agree_test : (a b : List ℕ) → Decides (agree a b) (Agreeing a b)
agree_test a b =
    restated (both _ _ (both _ _ (at_most words (length a)) (at_most words (length b))) (every words (same_at a b) (λ i. get_or a i 0 ≡ get_or b i 0) (λ i. equal (get_or a i 0) (get_or b i 0))))
    (λ h. record { left = h.0.0; right = h.0.1; alike = h.1 })
    (λ h. ((h.left, h.right), h.alike))

-- tables that agree have the same entries
pub agree_entries : (a b : List ℕ) → Agreeing a b → (kind : Kind) (i k : ℕ) → word_of a kind i k ≡ word_of b kind i k
agree_entries a b h = word_alike a b h.alike

-- .. and the same cursors
pub agree_cursors : (a b : List ℕ) → Agreeing a b → (kind : Kind) → cursor_in a kind ≡ cursor_in b kind
agree_cursors a b h kind = h.alike (cursor_of kind) (cursor_in_use kind)

-- ---- copies

module _ (from to : List ℕ) where
  pub length_copied : length (copied from to) ≡ length to
  length_copied = simp (length-append, length-take, length-drop) (omega arith)

  module _ (hf : words ≤ length from) (ht : words ≤ length to) where
    all_of : in_both from to ≡ words
    all_of = omega arith

    -- by way of a block
    pub copied_whole : take words (take words from) ++ drop words to ≡ copied from to
    copied_whole = rw (all_of) (ap (λ (l : List ℕ). l ++ drop words to) (take_all words (take words from) (simp length-take (omega arith))))

    pub copied_alike : (i : ℕ) → i < words → get_or (copied from to) i 0 ≡ get_or from i 0
    copied_alike i l = rw (all_of) (get_or-append (take words from) (drop words to) 0 i (simp length-take (omega arith)) ∙ get_or-take words from i 0 l)

    -- nothing is written behind the words in use
    pub copied_beyond : drop words (copied from to) ≡ drop words to
    copied_beyond = rw (all_of) (drop_at (take words from) (drop words to) words (simp length-take (omega arith)))

    pub copied_agrees : Agreeing from (copied from to)
    copied_agrees = record { left = hf; right = omega (arith, length_copied); alike = λ i l. sym (copied_alike i l) }
