-- The entries that are present: how many a table's length makes, and what the searches need not look at.
use Rattle.std.specs.Prelude.{◌≡◌, refl, Bool, true, false, cond, List, ℕ, ◌+◌, ◌-◌, ◌≤◌, ◌<◌, length, get_or}
use Rattle.std.proofs.Common.{ap, add-zero, arith, le-ltb}
use Rattle.std.proofs.Math.Decide.{dec_lt}
use Rattle.std.proofs.Math.ListN.{get_or-eq_default}
use Rattle.words.specs.declared.layout.Kind.{Kind}
use Rattle.words.specs.declared.layout.Kind.TheVariants.{Model, SchemaInstance, Instance}
use Rattle.words.specs.Layout.{base_of, count_of, place_of}
use Rattle.words.specs.Fields.{is_free}
use Rattle.words.specs.Entries.{in_entry, word_of, free_at}
use Rattle.words.specs.Quick.Present.{reached, Present}
use Rattle.logic.specs.Search.{any_b, first_from}
use Rattle.logic.specs.Laws.Search.{none_from, none_at, first_hit, first_none}
use Rattle.words.specs.Laws.Layout.{stride_positive}
use Rattle.words.specs.Laws.Entries.{entry_test}

pub reached_there : (kind : Kind) (len i : ℕ) → base_of kind < len → i < reached kind len → place_of kind i < len
reached_there Model len i h l = omega arith
reached_there SchemaInstance len i h l = omega arith
reached_there Instance len i h l = omega arith

pub reached_past : (kind : Kind) (len i : ℕ) → base_of kind < len → reached kind len ≤ i → len ≤ place_of kind i
reached_past Model len i h l = omega arith
reached_past SchemaInstance len i h l = omega arith
reached_past Instance len i h l = omega arith

pub reached_at_most : (kind : Kind) (len : ℕ) → base_of kind < len → reached kind len ≤ len
reached_at_most Model len h = omega arith
reached_at_most SchemaInstance len h = omega arith
reached_at_most Instance len h = omega arith

module _ (t : List ℕ) (kind : Kind) where
  -- past the table, and past the last entry, a word reads as 0
  word_past : (i : ℕ) → (i < count_of kind → length t ≤ place_of kind i) → word_of t kind i 0 ≡ 0
  word_past i h = tell (dec_lt i (count_of kind))
    where
      by_cases : (b : Bool) → length t ≤ place_of kind i + 0 → cond b (get_or t (place_of kind i + 0) 0) 0 ≡ 0
      by_cases true l = get_or-eq_default t 0 l
      by_cases false l = refl

      tell : Dec (i < count_of kind) → word_of t kind i 0 ≡ 0
      tell (yes l) = by_cases (in_entry kind i 0) (omega (arith, h l))
      tell (no n) =
          let l : count_of kind ≤ i = omega arith in
          rw (le-ltb i (count_of kind) l)

  pub present_by : (n : ℕ) → n ≤ count_of kind → ((i : ℕ) → i < n → place_of kind i < length t) → ((i : ℕ) → n ≤ i → i < count_of kind → length t ≤ place_of kind i) → Present t kind n
  present_by n within there past = record { within = within; there = there; past = λ i l. word_past i (λ m. past i l m) }

  pub word_there : (i : ℕ) → i < count_of kind → word_of t kind i 0 ≡ get_or t (place_of kind i) 0
  word_there i l = rw ((entry_test kind i 0).passes (l, stride_positive kind)) (ap (λ (n : ℕ). get_or t n 0) (add-zero (place_of kind i)))

-- the entry after those that are present reads as free
pub first_present : (t : List ℕ) (kind : Kind) (n i : ℕ) → Present t kind n → n ≤ i → first_from (free_at t kind) (count_of kind - i) i ≡ i
first_present t kind n i here l = tell (dec_lt i (count_of kind))
  where
    tell : Dec (i < count_of kind) → first_from (free_at t kind) (count_of kind - i) i ≡ i
    tell (yes m) = first_hit (free_at t kind) (count_of kind) i m (ap is_free (here.past i l))
    tell (no m) = first_none (free_at t kind) (count_of kind) i (omega arith)

-- a test that no word 0 passes is passed by none of the others
pub none_present : (t : List ℕ) (kind : Kind) (n i : ℕ) (f : ℕ → Bool) → Present t kind n → n ≤ i → ((j : ℕ) → word_of t kind j 0 ≡ 0 → f j ≡ false) → any_b i f ≡ false → any_b (count_of kind) f ≡ false
none_present t kind n i f here l free h = none_from (count_of kind) f (λ j m. tell j (dec_lt j i))
  where
    tell : (j : ℕ) → Dec (j < i) → f j ≡ false
    tell j (yes k) = none_at i f h j k
    tell j (no k) = free j (here.past j (omega arith))
