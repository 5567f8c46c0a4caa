-- Reading and writing the words of an entry, and the cursor of a kind. A number past the last entry reads as free, and writing there changes nothing.
use Rattle.std.specs.Prelude.{ℕ, zero, suc, ◌+◌, ◌-◌, Bool, cond, ◌&&◌, ◌||◌, List, eqb, ltb, get_or, set}
use Rattle.words.specs.declared.layout.Kind.{Kind}
use Rattle.words.specs.Layout.{stride_of, count_of, place_of, cursor_of}
use Rattle.words.specs.Fields.{is_free, well_formed, is_named}
use Rattle.logic.specs.Search.{all_b, any_b, first_from}

-- the kind has an entry i with a word k
abbrev pub in_entry : Kind → ℕ → ℕ → Bool
in_entry kind i k = ltb i (count_of kind) && ltb k (stride_of kind)

-- word k of entry i
abbrev pub word_of : List ℕ → Kind → ℕ → ℕ → ℕ
word_of t kind i k = cond (in_entry kind i k) (get_or t (place_of kind i + k) 0) 0

abbrev pub with_word : List ℕ → Kind → ℕ → ℕ → ℕ → List ℕ
with_word t kind i k w = cond (in_entry kind i k) (set t (place_of kind i + k) w) t

-- ---- the cursor of a kind: the number that is tried first (CHIP, words of a table)

abbrev pub cursor_in : List ℕ → Kind → ℕ
cursor_in t kind = get_or t (cursor_of kind) 0

abbrev pub with_cursor : List ℕ → Kind → ℕ → List ℕ
with_cursor t kind n = set t (cursor_of kind) n

-- one past entry i, going round: 0 after the last
abbrev pub one_past : Kind → ℕ → ℕ
one_past kind i = cond (ltb (i + 1) (count_of kind)) (i + 1) 0

-- ---- whole entries

-- a first word and zeros after it
abbrev pub first_then_zeros : ℕ → ℕ → ℕ
first_then_zeros first k = cond (eqb k 0) first 0

-- so the words of entry i below n
unfoldable pub filled : List ℕ → Kind → ℕ → ℕ → ℕ → List ℕ
filled t kind i first zero = t
filled t kind i first (suc n) = with_word (filled t kind i first n) kind i n (first_then_zeros first n)

-- so all words of entry i
abbrev pub with_words : List ℕ → Kind → ℕ → ℕ → List ℕ
with_words t kind i first = filled t kind i first (stride_of kind)

-- entry i is made: a first word and zeros over the rest of its stride; the cursor is one past it
abbrev pub with_entry : List ℕ → Kind → ℕ → ℕ → List ℕ
with_entry t kind i first = with_cursor (with_words t kind i first) kind (one_past kind i)

-- entry i is free again: zeros over its stride; the cursor stays
abbrev pub without_entry : List ℕ → Kind → ℕ → List ℕ
without_entry t kind i = with_words t kind i 0

-- ---- searches over the entries of a kind

abbrev pub free_at : List ℕ → Kind → ℕ → Bool
free_at t kind i = is_free (word_of t kind i 0)

-- the first free one from a given one on; not below the count if there is none
abbrev pub first_free : List ℕ → Kind → ℕ → ℕ
first_free t kind from = first_from (free_at t kind) (count_of kind - from) from

-- the number that a creation takes (CHIP, operations): the first free one from the cursor on, going round once; not below the
-- count if none is free
unfoldable pub next_free : List ℕ → Kind → ℕ
next_free t kind =
    let ahead = first_free t kind (cursor_in t kind) in
    cond (ltb ahead (count_of kind)) ahead (first_free t kind 0)

-- free or well formed (CHIP, sound tables), as far as the first word tells
abbrev pub formed : Kind → ℕ → Bool
formed kind w = is_free w || well_formed kind w

abbrev pub all_formed : List ℕ → Kind → Bool
all_formed t kind = all_b (count_of kind) (λ i. formed kind (word_of t kind i 0))

-- some entry of the kind has this name in this repository
abbrev pub is_taken : List ℕ → Kind → ℕ → ℕ → Bool
is_taken t kind repository name = any_b (count_of kind) (λ i. is_named (word_of t kind i 0) repository name)
