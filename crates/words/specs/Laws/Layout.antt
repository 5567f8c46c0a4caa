-- The layout: every entry and every cursor lies in the words in use, and no two share a word.
use Rattle.std.specs.Prelude.{◌≡◌, refl, Bool, true, false, ◌⊎◌, ℕ, zero, suc, ◌+◌, ◌*◌, ◌<◌, ◌≤◌, eqb}
use Rattle.std.proofs.Common.{sym, ap, ◌∙◌, inl, inr, arith, eqb-true}
use Rattle.std.proofs.lemmas.Bool.{eqb-false}
use Rattle.words.specs.declared.layout.Kind.{Kind}
use Rattle.words.specs.declared.layout.Kind.TheVariants.{Model, SchemaInstance, Instance}
use Rattle.words.specs.Layout.{words, base_of, stride_of, count_of, place_of, cursor_of, index_of}

-- the place of any number, however large, is far from wrapping
pub stride_small : (kind : Kind) (i : ℕ) → i < 0x1_0000_0000 → stride_of kind * i < 0x8_0000_0000
stride_small Model i h = omega arith
stride_small SchemaInstance i h = omega arith
stride_small Instance i h = omega arith

pub base_small : (kind : Kind) → base_of kind < 128
base_small Model = omega arith
base_small SchemaInstance = omega arith
base_small Instance = omega arith

pub stride_positive : (kind : Kind) → 0 < stride_of kind
stride_positive Model = omega arith
stride_positive SchemaInstance = omega arith
stride_positive Instance = omega arith

pub stride_at_most : (kind : Kind) → stride_of kind ≤ 5
stride_at_most Model = omega arith
stride_at_most SchemaInstance = omega arith
stride_at_most Instance = omega arith

pub count_at_most : (kind : Kind) → count_of kind ≤ 128
count_at_most Model = omega arith
count_at_most SchemaInstance = omega arith
count_at_most Instance = omega arith

pub count_positive : (kind : Kind) → 0 < count_of kind
count_positive Model = omega arith
count_positive SchemaInstance = omega arith
count_positive Instance = omega arith

-- the entries stand before the cursors, and both in the words in use
before_cursors : (kind : Kind) (i k : ℕ) → i < count_of kind → k < stride_of kind → place_of kind i + k < cursor_of Model
before_cursors Model i k hi hk = omega arith
before_cursors SchemaInstance i k hi hk = omega arith
before_cursors Instance i k hi hk = omega arith

cursor_at : (kind : Kind) → cursor_of kind ≡ cursor_of Model + index_of kind
cursor_at Model = refl
cursor_at SchemaInstance = refl
cursor_at Instance = refl

pub cursor_in_use : (kind : Kind) → cursor_of kind < words
cursor_in_use Model = omega arith
cursor_in_use SchemaInstance = omega arith
cursor_in_use Instance = omega arith

pub in_use : (kind : Kind) (i k : ℕ) → i < count_of kind → k < stride_of kind → place_of kind i + k < words
in_use kind i k hi hk = omega (arith, before_cursors kind i k hi hk)

-- **A cursor is no entry's word.**
pub no_entry : (kind kind' : Kind) (i k : ℕ) → i < count_of kind → k < stride_of kind → place_of kind i + k ≡ cursor_of kind' → ⊥
no_entry kind kind' i k hi hk e = omega (arith, before_cursors kind i k hi hk, cursor_at kind')

-- the number that the manual has for it
pub words_in_use : words ≡ 739
words_in_use = refl

-- ---- kinds told apart

kind_at : ℕ → Kind
kind_at zero = Model
kind_at (suc zero) = SchemaInstance
kind_at (suc (suc n)) = Instance

kind_at_lem : (kind : Kind) → kind_at (index_of kind) ≡ kind
unfolding kind_at
kind_at_lem Model = refl
kind_at_lem SchemaInstance = refl
kind_at_lem Instance = refl

pub kinds_apart : {a b : Kind} → a ≡ b → eqb (index_of a) (index_of b) ≡ false → ⊥
kinds_apart {a} {b} e p = eqb-false (index_of a) (index_of b) p (ap index_of e)

pub same_index : (a b : Kind) → index_of a ≡ index_of b → a ≡ b
same_index a b e = sym (kind_at_lem a) ∙ ap kind_at e ∙ kind_at_lem b

pub same_kind : (a b : Kind) → (a ≡ b) ⊎ (a ≡ b → ⊥)
same_kind a b = by_cases (eqb (index_of a) (index_of b)) refl
  where
    by_cases : (c : Bool) → eqb (index_of a) (index_of b) ≡ c → (a ≡ b) ⊎ (a ≡ b → ⊥)
    by_cases true e = inl (same_index a b (eqb-true (index_of a) (index_of b) e))
    by_cases false e = inr (λ p. kinds_apart p e)

-- no two kinds share a cursor
pub one_cursor : (kind kind' : Kind) → cursor_of kind ≡ cursor_of kind' → kind ≡ kind'
one_cursor kind kind' e = same_index kind kind' (omega (arith, cursor_at kind, cursor_at kind', e))

-- ---- one owner for each word

-- one word belongs to one entry, at one place of it
pub record Same (kind kind' : Kind) (i i' k k' : ℕ) : Type 0 where
  pub kinds : kind ≡ kind'
  pub numbers : i ≡ i'
  pub places : k ≡ k'

pub one_owner : (kind kind' : Kind) (i i' k k' : ℕ) → i < count_of kind → k < stride_of kind → i' < count_of kind' → k' < stride_of kind'
    → place_of kind i + k ≡ place_of kind' i' + k' → Same kind kind' i i' k k'
one_owner Model Model i i' k k' hi hk hi' hk' e = record { kinds = refl; numbers = omega arith; places = omega arith }
one_owner Model SchemaInstance i i' k k' hi hk hi' hk' e = absurd (omega arith)
one_owner Model Instance i i' k k' hi hk hi' hk' e = absurd (omega arith)
one_owner SchemaInstance Model i i' k k' hi hk hi' hk' e = absurd (omega arith)
one_owner SchemaInstance SchemaInstance i i' k k' hi hk hi' hk' e = record { kinds = refl; numbers = omega arith; places = omega arith }
one_owner SchemaInstance Instance i i' k k' hi hk hi' hk' e = absurd (omega arith)
one_owner Instance Model i i' k k' hi hk hi' hk' e = absurd (omega arith)
one_owner Instance SchemaInstance i i' k k' hi hk hi' hk' e = absurd (omega arith)
one_owner Instance Instance i i' k k' hi hk hi' hk' e = record { kinds = refl; numbers = omega arith; places = omega arith }
