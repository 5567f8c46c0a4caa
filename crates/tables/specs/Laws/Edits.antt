-- Edits of an attribute: the value's word is not the header, and what is no attribute has no place.
use Rattle.std.specs.Prelude.{◌≡◌, refl, Bool, true, false, cond, List, ℕ, ◌+◌, ◌≤◌, ltb, get_or, set}
use Rattle.std.proofs.Common.{arith, le-ltb}
use Rattle.std.proofs.lemmas.List.{set-get_or}
use Rattle.words.specs.declared.layout.Kind.{Kind}
use Rattle.words.specs.declared.layout.Kind.TheVariants.{Instance}
use Rattle.words.specs.Layout.{stride_of, count_of, place_of}
use Rattle.words.specs.Fields.{values}
use Rattle.words.specs.Entries.{in_entry, word_of, with_word}
use Rattle.logic.specs.Laws.Bools.{and_ended}
use Rattle.words.specs.Laws.Entries.{word_other}
use Rattle.tables.specs.View.{header_at}
use Rattle.tables.specs.Edits.{with_value, without_value}

-- a value leaves the header as it is
pub header_stays : (t : List ℕ) (i k v : ℕ) → header_at (with_word t Instance i (1 + k) v) i ≡ header_at t i
header_stays t i k v = word_other t Instance i (1 + k) v Instance i 0 (λ same. omega (arith, same.places))

-- a word written back as it is
written_back : (t : List ℕ) (kind : Kind) (i k : ℕ) → with_word t kind i k (word_of t kind i k) ≡ t
written_back t kind i k = by_cases (in_entry kind i k)
  where
    by_cases : (b : Bool) → cond b (set t (place_of kind i + k) (cond b (get_or t (place_of kind i + k) 0) 0)) t ≡ t
    by_cases true = set-get_or t (place_of kind i + k) 0
    by_cases false = refl

-- a word past the entry's last
written_past : (t : List ℕ) (kind : Kind) (i k w : ℕ) → stride_of kind ≤ k → with_word t kind i k w ≡ t
written_past t kind i k w h = rw (le-ltb k (stride_of kind) h, and_ended (ltb i (count_of kind)) false refl)

-- **A number that is no attribute's**: neither put nor unset changes a word.
module _ (t : List ℕ) (i k : ℕ) (none : values ≤ k) where
  pub put_past : (v : ℕ) → with_value t i k v ≡ t
  put_past v =
      let past : stride_of Instance ≤ 1 + k = omega arith in
      rw (written_past t Instance i (1 + k) v past, le-ltb k values none) (written_back t Instance i 0)

  pub unset_past : without_value t i k ≡ t
  unset_past =
      let past : stride_of Instance ≤ 1 + k = omega arith in
      rw (written_past t Instance i (1 + k) 0 past, le-ltb k values none) (written_back t Instance i 0)
