-- One value word and the header of an instance written: what the instance's words are then.
use Rattle.std.specs.Prelude.{◌≡◌, List, ℕ, ◌+◌, ◌≤◌, ◌<◌, length}
use Rattle.std.proofs.Common.{◌∙◌, arith}
use Rattle.words.specs.declared.layout.Kind.TheVariants.{Instance}
use Rattle.words.specs.Layout.{words, count_of}
use Rattle.words.specs.Fields.{values}
use Rattle.words.specs.Entries.{with_word}
use Rattle.words.specs.Laws.Entries.{length_word, word_same, word_other}
use Rattle.tables.specs.View.{header_at, value_at}
use Rattle.promises.specs.Keeps.Edited.{Rest, word_rest, rest_then}

-- attribute k of instance i has the word v, and the instance this header
abbrev pub written : List ℕ → ℕ → ℕ → ℕ → ℕ → List ℕ
written t i k v header = with_word (with_word t Instance i (1 + k) v) Instance i 0 header

module _ (t : List ℕ) (i k v header : ℕ) (here : i < count_of Instance) (hk : k < values) (long : words ≤ length t) where
  halfway : List ℕ
  halfway = with_word t Instance i (1 + k) v

  halfway_long : length halfway ≡ length t
  unfolding halfway
  halfway_long = length_word t Instance i (1 + k) v

  pub written_header : header_at (written t i k v header) i ≡ header
  unfolding halfway
  written_header = word_same halfway Instance i 0 header here (omega arith) (omega (arith, halfway_long))

  pub written_value : value_at (written t i k v header) i k ≡ v
  unfolding halfway
  written_value = word_other halfway Instance i 0 header Instance i (1 + k) (λ s. omega (arith, s.places)) ∙ word_same t Instance i (1 + k) v here (omega arith) long

  pub written_others : (j : ℕ) → (j ≡ k → ⊥) → value_at (written t i k v header) i j ≡ value_at t i j
  unfolding halfway
  written_others j apart =
      word_other halfway Instance i 0 header Instance i (1 + j) (λ s. omega (arith, s.places))
      ∙ word_other t Instance i (1 + k) v Instance i (1 + j) (λ s. apart (omega (arith, s.places)))

  pub written_rest : Rest t (written t i k v header) Instance i
  unfolding halfway
  written_rest = rest_then t halfway (written t i k v header) Instance i (word_rest t Instance i (1 + k) v) (word_rest halfway Instance i 0 header)
