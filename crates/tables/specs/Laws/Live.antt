-- The sets of live models: their members, and that the tests by one word are those of Sound.antt.
use Rattle.std.proofs.Math.Path.{◌≡◌}
use Rattle.std.specs.Prelude.{refl, Bool, not, ◌&&◌, ◌||◌, List, ℕ, zero, suc, ◌/◌, ◌+◌, ◌%◌, ◌^◌, min, ◌≤◌, ◌<◌, ltb}
use Rattle.std.proofs.Common.{sym, ap, ◌∙◌, mod-eq_of_lt, add-one}
use Rattle.std.proofs.Math.Bool.{true, false, cond}
use Rattle.std.proofs.Math.Decide.{dec_lt}
use native.Mathlib.Omega.{arith}
use Rattle.std.proofs.Math.Dec.{eqb}
use Rattle.std.specs.Int.Bits.{bit_and, and_step}
use Rattle.std.proofs.lemmas.Nat.{and_shr, and_le_l}
use borrow.Author.Tests.{eqb-true, eqb-false, lt-ltb, le-ltb}
use Rattle.words.specs.declared.layout.Kind.{Kind}
use Rattle.words.specs.declared.layout.Kind.TheVariants.{Model, SchemaInstance}
use Rattle.words.specs.Layout.{count_of}
use Rattle.words.specs.Sets.{bits, bit_of, has, insert, set_of}
use Rattle.words.specs.Fields.{schema_in, type_in, model_in, is_label}
use Rattle.words.specs.Entries.{free_at}
use Rattle.logic.specs.Laws.Bools.{and_right}
use Rattle.logic.specs.Laws.Decides.{equal, every, restated, same_test, itself, implied}
use Rattle.words.specs.Laws.Sets.{set_later, set_member, same_members}
use Rattle.words.specs.Laws.Fields.{Label, label_test, label_is_live}
use Rattle.dictionary.specs.Dictionary.{is_type, schema_of}
use Rattle.dictionary.specs.Laws.Types.{type_schema}
use Rattle.tables.specs.declared.live.Live.{Live}
use Rattle.tables.specs.View.{is_live, label_at, set_at}
use Rattle.tables.specs.Sound.{sound_group}
use Rattle.tables.specs.Quick.Live.{is_of, live_of, live_below, live_in, AreLiveIn, with_live, of_schema, within, model_fits}
use Rattle.logic.specs.Laws.Search.{all_same}

-- ---- a set within another

and_bits : (s o m : ℕ) → bit_of (bit_and s o) m ≡ min (bit_of s m) (bit_of o m)
and_bits s o m = ap (λ (x : ℕ). x % 2) (and_shr s o m) ∙ omega (arith, and_step (s / 2 ^ m) (o / 2 ^ m))

test_least : (x y : ℕ) → x < 2 → y < 2 → eqb (min x y) 1 ≡ (eqb x 1 && eqb y 1)
test_least zero y hx hy =
    let e : min 0 y ≡ 0 = omega arith in
    rw e
test_least (suc zero) zero hx hy = refl
test_least (suc zero) (suc zero) hx hy = refl
test_least (suc zero) (suc (suc y)) hx hy = absurd (omega arith)
test_least (suc (suc x)) y hx hy = absurd (omega arith)

pub has_and : (s o m : ℕ) → has (bit_and s o) m ≡ (has s m && has o m)
has_and s o m = ap (λ (x : ℕ). eqb x 1) (and_bits s o m) ∙ test_least (bit_of s m) (bit_of o m) (omega arith) (omega arith)

-- the machine's test of it
pub within_by_and : (s o : ℕ) → s < 2 ^ bits → eqb (bit_and s o) s ≡ within s o
within_by_and s o h =
    same_test _ _
    (restated (equal (bit_and s o) s) (λ e m l p. member e m p) (λ w. same_members (bit_and s o) s (omega (arith, and_le_l s o)) h (λ m l. kept m (has s m) refl (w m l))))
    (every bits _ (λ m. has s m ≡ true → has o m ≡ true) (λ m. implied _ _ (itself (has s m)) (itself (has o m))))
  where
    member : bit_and s o ≡ s → (m : ℕ) → has s m ≡ true → has o m ≡ true
    member e m p = and_right (has s m) (has o m) (sym (has_and s o m) ∙ ap (λ (x : ℕ). has x m) e ∙ p)

    kept : (m : ℕ) (b : Bool) → has s m ≡ b → (has s m ≡ true → has o m ≡ true) → has (bit_and s o) m ≡ has s m
    kept m true p w = has_and s o m ∙ rw (w p, p)
    kept m false p w = has_and s o m ∙ rw p

-- ---- the members of the sets

module _ (t : List ℕ) (schema : ℕ) where
  -- a number past the last model is in no set
  live_has : (m : ℕ) → has (live_of t Model schema (count_of Model)) m ≡ is_of schema (label_at t Model m)
  live_has m = by_cases (dec_lt m (count_of Model))
    where
      by_cases : Dec (m < count_of Model) → has (live_of t Model schema (count_of Model)) m ≡ is_of schema (label_at t Model m)
      by_cases (yes l) = set_member (λ i. is_of schema (label_at t Model i)) (count_of Model) m (omega arith) l
      by_cases (no l) = set_later (λ i. is_of schema (label_at t Model i)) (count_of Model) m (omega arith) (omega arith) ∙ rw (le-ltb m (count_of Model) (omega arith))

  -- both schemas
  pub live_of_schema : 1 ≤ schema → schema ≤ 2 → (m : ℕ) → has (of_schema (live_in t Model) schema) m ≡ is_of schema (label_at t Model m)
  live_of_schema l h m = by_cases (eqb schema 1) refl
    where
      by_cases : (b : Bool) → eqb schema 1 ≡ b → has (cond b (live_of t Model 1 (count_of Model)) (live_of t Model 2 (count_of Model))) m ≡ is_of schema (label_at t Model m)
      by_cases true e = ap (λ (x : ℕ). has (live_of t Model x (count_of Model)) m) (sym (eqb-true schema 1 e)) ∙ live_has m
      by_cases false e =
          let n : schema ≡ 1 → ⊥ = eqb-false schema 1 e in
          let two : 2 ≡ schema = omega arith in
          ap (λ (x : ℕ). has (live_of t Model x (count_of Model)) m) two ∙ live_has m

-- the sets of a table's live models, as one value
pub live_told : (t : List ℕ) (live : Live) → AreLiveIn t live → live ≡ live_in t Model
live_told t live told = rw (← told.0, ← told.1)

pub told_live : (t : List ℕ) (live : Live) → live ≡ live_in t Model → AreLiveIn t live
told_live t live e = (ap (λ (l : Live). l.first) e, ap (λ (l : Live). l.second) e)

-- ---- one entry more

module _ (t : List ℕ) (kind : Kind) (i : ℕ) where
  pub live_free : free_at t kind i ≡ true → live_below t kind i ≡ live_below t kind (i + 1)
  unfolding set_of
  live_free e = rw (add-one, e)

  pub live_more : Label (label_at t kind i) → with_live (live_below t kind i) (schema_in (label_at t kind i)) i ≡ live_below t kind (i + 1)
  unfolding set_of
  live_more w = rw (add-one, label_is_live (label_at t kind i) w) (by_cases (eqb (schema_in (label_at t kind i)) 1) refl)
    where
      by_cases : (b : Bool) → eqb (schema_in (label_at t kind i)) 1 ≡ b
          → ◌≡◌ {A = Live} (cond b (record { first = insert (live_of t kind 1 i) i; second = live_of t kind 2 i }) (record
          { first = live_of t kind 1 i; second = insert (live_of t kind 2 i) i })) (record {
            first = cond b (insert (live_of t kind 1 i) i) (live_of t kind 1 i);
            second = cond
                (eqb (schema_in (label_at t kind i)) 2) (insert (live_of t kind 2 i) i) (live_of t kind 2 i);
          })
      by_cases true e =
          let one : schema_in (label_at t kind i) ≡ 1 = eqb-true (schema_in (label_at t kind i)) 1 e in
          rw (one)
      by_cases false e =
          let n : schema_in (label_at t kind i) ≡ 1 → ⊥ = eqb-false (schema_in (label_at t kind i)) 1 e in
          let two : schema_in (label_at t kind i) ≡ 2 = omega arith in
          rw (two)

-- ---- the tests of a group and of a model

pub group_by_sets : (t : List ℕ) (s : ℕ) → free_at t SchemaInstance s ≡ false → is_label (label_at t SchemaInstance s) ≡ true
    → within (set_at t s) (of_schema (live_in t Model) (schema_in (label_at t SchemaInstance s))) ≡ sound_group t s
unfolding sound_group
group_by_sets t s live e =
    let w : Label (label_at t SchemaInstance s) = (label_test (label_at t SchemaInstance s)).holds e in
    rw (live, e) (all_same bits _ _ (λ m l. ap (λ (b : Bool). not (has (set_at t s) m) || b) (live_of_schema t (schema_in (label_at t SchemaInstance s)) w.schema_from w.schema_to m)))

pub model_by_sets : (t : List ℕ) (h : ℕ) → is_type (type_in h) ≡ true
    → (ltb (model_in h) bits && model_fits (live_in t Model) (type_in h) h) ≡ (is_live t Model (model_in h) && eqb (schema_in (label_at t Model (model_in h))) (schema_of (type_in h)))
model_by_sets t h e = by_cases (dec_lt (model_in h) bits)
  where
    asked : (m : ℕ) → has (of_schema (live_in t Model) (schema_of (type_in h))) m ≡ is_of (schema_of (type_in h)) (label_at t Model m)
    asked = live_of_schema t (schema_of (type_in h)) (type_schema (type_in h) e).0 (type_schema (type_in h) e).1

    by_cases : Dec (model_in h < bits) → (ltb (model_in h) bits && model_fits (live_in t Model) (type_in h) h) ≡ is_of (schema_of (type_in h)) (label_at t Model (model_in h))
    by_cases (yes l) =
        ap (λ (b : Bool). b && model_fits (live_in t Model) (type_in h) h) (lt-ltb (model_in h) bits l)
        ∙ ap (has (of_schema (live_in t Model) (schema_of (type_in h)))) (mod-eq_of_lt l) ∙ asked (model_in h)
    by_cases (no l) = rw (le-ltb (model_in h) bits (omega arith))
