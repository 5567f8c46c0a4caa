-- What a search over entries finds. This stands here, and not with the other laws, so that a definition that passes over an
-- entry is refused here (must-fail/search_skips_the_last.edit).
use Rattle.std.specs.Prelude.{◌≡◌, ◌⊎◌, Bool, cond, Option, Some, None, unwrap_or}
use Rattle.std.specs.Option.{MatchOption}
use Rattle.std.proofs.Math.Path.{refl}
use Rattle.std.proofs.Common.{⊎_elim, arith}
use Rattle.std.proofs.Math.Bool.{true, false}
use mathlib.Core.List.{List}
use Prim.Native.Nat.{ℕ, ◌+◌, ◌-◌, ◌≤◌, ◌<◌, min}
use Rattle.std.proofs.Math.Decide.{dec_lt}
use Rattle.std.proofs.Math.Dec.{ltb}
use borrow.Author.Tests.{ltb-true, ltb-false, le-ltb}
use Rattle.words.specs.declared.layout.Kind.{Kind}
use Rattle.words.specs.Layout.{count_of}
use Rattle.words.specs.Entries.{cursor_in, free_at, first_free, next_free}
use Rattle.words.specs.Quick.Numbered.{numbered}
use Rattle.logic.specs.Laws.Search.{First, first, not_passed_over}

module _ (t : List ℕ) (kind : Kind) (from : ℕ) (within : from ≤ count_of kind) where
  found : First (free_at t kind) (count_of kind - from) from (first_free t kind from)
  found = first (free_at t kind) (count_of kind - from) from

  pub free_from : from ≤ first_free t kind from
  free_from = found.from

  pub free_within : first_free t kind from ≤ count_of kind
  free_within = omega (arith, found.within)

  -- what was found is free
  pub free_found : first_free t kind from < count_of kind → free_at t kind (first_free t kind from) ≡ true
  free_found h = found.found (omega arith)

  -- every one before it is not
  pub free_before : (j : ℕ) → from ≤ j → j < first_free t kind from → free_at t kind j ≡ false
  free_before j l m = found.before j l m

  -- nothing found: none is free
  pub free_nowhere : first_free t kind from ≡ count_of kind → (j : ℕ) → from ≤ j → j < count_of kind → free_at t kind j ≡ false
  free_nowhere e j l m = found.before j l (omega arith)

  -- a free entry is never passed over
  pub free_not_missed : (j : ℕ) → from ≤ j → j < count_of kind → free_at t kind j ≡ true → first_free t kind from ≤ j
  free_not_missed j l m p = not_passed_over (free_at t kind) (count_of kind - from) from j l (omega arith) p

-- **The last entry is looked at**: where it is free, a search from any entry finds one.
pub last_looked_at : (t : List ℕ) (kind : Kind) (from last : ℕ) → last + 1 ≡ count_of kind → from ≤ last → free_at t kind last ≡ true → first_free t kind from < count_of kind
last_looked_at t kind from last e l p = omega (arith, free_not_missed t kind from (omega arith) last l (omega arith) p)

-- ---- the number that a creation takes: all that its callers know of it

module _ (t : List ℕ) (kind : Kind) where
  -- it is found from the cursor on; or none is free there, and it is found from 0 on
  next_by : (P : ℕ → Type 0)
      → (first_free t kind (cursor_in t kind) < count_of kind → P (first_free t kind (cursor_in t kind)))
      → (count_of kind ≤ first_free t kind (cursor_in t kind) → P (first_free t kind 0)) → P (next_free t kind)
  unfolding next_free
  next_by P onward round = by_cases (ltb (first_free t kind (cursor_in t kind)) (count_of kind)) refl
    where
      by_cases : (b : Bool) → ltb (first_free t kind (cursor_in t kind)) (count_of kind) ≡ b → P (cond b (first_free t kind (cursor_in t kind)) (first_free t kind 0))
      by_cases true e = onward (ltb-true _ _ e)
      by_cases false e = round (ltb-false _ _ e)

  -- a cursor past the last entry is as good as the count: nothing is found from either
  pub next_from : (from : ℕ) → from ≡ min (cursor_in t kind) (count_of kind) → cond (ltb (first_free t kind from) (count_of kind)) (first_free t kind from) (first_free t kind 0) ≡ next_free t kind
  unfolding next_free
  next_from from e = by_cases (dec_lt (cursor_in t kind) (count_of kind))
    where
      past : (n : ℕ) → count_of kind ≤ n → ltb (first_free t kind n) (count_of kind) ≡ false
      past n l = le-ltb (first_free t kind n) (count_of kind) (omega (arith, (first (free_at t kind) (count_of kind - n) n).from))

      by_cases : Dec (cursor_in t kind < count_of kind)
          → cond (ltb (first_free t kind from) (count_of kind)) (first_free t kind from) (first_free t kind 0)
          ≡ cond (ltb (first_free t kind (cursor_in t kind)) (count_of kind)) (first_free t kind (cursor_in t kind)) (first_free t kind 0)
      by_cases (yes l) = let same : from ≡ cursor_in t kind = omega arith in rw same
      by_cases (no l) = rw (past from (omega arith), past (cursor_in t kind) (omega arith))

  cursor_before : cursor_in t kind ≤ first_free t kind (cursor_in t kind)
  cursor_before = (first (free_at t kind) (count_of kind - cursor_in t kind) (cursor_in t kind)).from

  -- below the count it is free
  pub next_is_free : next_free t kind < count_of kind → free_at t kind (next_free t kind) ≡ true
  next_is_free =
      next_by (λ n. n < count_of kind → free_at t kind n ≡ true)
      (λ l h. free_found t kind (cursor_in t kind) (omega (arith, cursor_before)) h)
      (λ l h. free_found t kind 0 (omega arith) h)

  -- where one is free, the last one included, it is below the count
  pub next_found : (j : ℕ) → j < count_of kind → free_at t kind j ≡ true → next_free t kind < count_of kind
  next_found j l p = next_by (λ n. n < count_of kind) (λ m. m) (λ m. omega (arith, free_not_missed t kind 0 (omega arith) j (omega arith) l p))

  -- at the count none is free
  pub next_nowhere : count_of kind ≤ next_free t kind → (j : ℕ) → j < count_of kind → free_at t kind j ≡ false
  next_nowhere h j l =
      next_by (λ n. count_of kind ≤ n → free_at t kind j ≡ false)
      (λ m p. absurd (omega arith))
      (λ m p. free_nowhere t kind 0 (omega arith) (omega (arith, free_within t kind 0 (omega arith))) j (omega arith) l)
      h

  -- ahead of the cursor, none before it is free
  pub next_ahead : (j : ℕ) → cursor_in t kind ≤ j → j < next_free t kind → free_at t kind j ≡ false
  next_ahead j from =
      next_by (λ n. j < n → free_at t kind j ≡ false)
      (λ l m. free_before t kind (cursor_in t kind) (omega (arith, cursor_before)) j from m)
      (λ l m. free_before t kind 0 (omega arith) j (omega arith) m)

  -- round to before the cursor, none from the cursor on is free, and none before it from 0 on
  pub next_round : next_free t kind < cursor_in t kind → (j : ℕ) → j < count_of kind → (cursor_in t kind ≤ j) ⊎ (j < next_free t kind) → free_at t kind j ≡ false
  next_round behind j l =
      next_by (λ n. n < cursor_in t kind → (cursor_in t kind ≤ j) ⊎ (j < n) → free_at t kind j ≡ false)
      (λ m p. absurd (omega (arith, cursor_before)))
      (λ m p. ⊎_elim
      (λ from. free_before t kind (cursor_in t kind) (omega arith) j from (omega arith))
      (λ before. free_before t kind 0 (omega arith) j (omega arith) before))
      behind

  -- so with numbers that the kind has
  pub next_numbered : (from : ℕ) → from ≡ min (cursor_in t kind) (count_of kind) → (r : Option ℕ)
      → MatchOption (numbered kind (first_free t kind from)) (r ≡ numbered kind (first_free t kind 0)) (λ n. r ≡ Some n) → r ≡ numbered kind (next_free t kind)
  next_numbered from e r h = rw (← next_from from e) (by_cases (ltb (first_free t kind from) (count_of kind)) refl h)
    where
      by_cases : (b : Bool) → ltb (first_free t kind from) (count_of kind) ≡ b → MatchOption (cond b (Some (first_free t kind from)) None) (r ≡ numbered kind (first_free t kind 0)) (λ n. r ≡ Some n)
          → r ≡ numbered kind (cond b (first_free t kind from) (first_free t kind 0))
      by_cases true l h = rw l h
      by_cases false l h = h

  next_within : next_free t kind ≤ count_of kind
  next_within = next_by (λ n. n ≤ count_of kind) (λ l. omega arith) (λ l. free_within t kind 0 (omega arith))

  -- no number is lost in them: where the kind has none, it is the count
  pub next_kept : unwrap_or (numbered kind (next_free t kind)) (count_of kind) ≡ next_free t kind
  next_kept = by_cases (ltb (next_free t kind) (count_of kind)) refl
    where
      by_cases : (b : Bool) → ltb (next_free t kind) (count_of kind) ≡ b → unwrap_or (cond b (Some (next_free t kind)) None) (count_of kind) ≡ next_free t kind
      by_cases true e = refl
      by_cases false e = omega (arith, next_within, ltb-false _ _ e)
