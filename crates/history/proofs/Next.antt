-- Which number comes next, by what the calls that remain gave.
use Rattle.std.specs.Prelude.{ℕ, ◌≤◌, ◌<◌, ◌≡◌, Bool, true, cond, List, [], ◌∷◌}
use Rattle.std.proofs.Math.Path.{refl}
use Rattle.std.proofs.Math.Bool.{false}
use Rattle.std.proofs.Common.{inl, inr, arith}
use Rattle.std.proofs.Math.Decide.{dec_lt}
use Rattle.logic.specs.Laws.Bools.{clash}
use Rattle.words.specs.declared.layout.Kind.{Kind}
use Rattle.words.specs.declared.layout.Kind.TheVariants.{Model, SchemaInstance, Instance}
use Rattle.words.specs.Layout.{count_of}
use Rattle.words.specs.Entries.{word_of, cursor_in, one_past, free_at, next_free}
use Rattle.words.specs.Laws.Layout.{count_positive}
use Rattle.words.specs.Laws.Entries.{one_past_below}
use Rattle.words.proofs.Found.{next_is_free, next_ahead, next_round}
use Rattle.session.specs.Runs.{Answered}
use Rattle.history.specs.Remains.{is}
use Rattle.history.specs.Demand3.{creation_of, tried_first, steps_to, ComesNext}
use Rattle.history.proofs.Since.{lives, is_live_lem}
use Rattle.history.proofs.Told.{Told}
use Rattle.history.proofs.Cursors.{Points}

-- ---- steps, going round

-- fewer steps, to a number ahead: it lies on the way
steps_ahead : (kind : Kind) (from j n : ℕ) → from < count_of kind → j < count_of kind → n < count_of kind → from ≤ n → steps_to kind from j < steps_to kind from n → (from ≤ j) × (j < n)
steps_ahead Model from j n hf hj hn l s = (omega arith, omega arith)
steps_ahead SchemaInstance from j n hf hj hn l s = (omega arith, omega arith)
steps_ahead Instance from j n hf hj hn l s = (omega arith, omega arith)

-- .. to a number behind: it lies on the way to the last, or from 0 on
steps_round : (kind : Kind) (from j n : ℕ) → from < count_of kind → j < count_of kind → n < from → steps_to kind from j < steps_to kind from n → j < from → j < n
steps_round Model from j n hf hj l s b = omega arith
steps_round SchemaInstance from j n hf hj l s b = omega arith
steps_round Instance from j n hf hj l s b = omega arith

-- numbers that are as many steps on are the same
steps_same : (kind : Kind) (from j n : ℕ) → j < count_of kind → n < count_of kind → from < count_of kind → steps_to kind from j ≡ steps_to kind from n → j ≡ n
steps_same Model from j n hj hn hf e = omega arith
steps_same SchemaInstance from j n hj hn hf e = omega arith
steps_same Instance from j n hj hn hf e = omega arith

module _ (kind : Kind) (w : List ℕ) (h : List Answered) (t : Told (word_of w) h) (p : Points w h) (known : cursor_in w kind < count_of kind) where
  from : ℕ
  from = cursor_in w kind

  not_free : (n : ℕ) → n < count_of kind → next_free w kind ≡ n → (j : ℕ) → j < count_of kind → steps_to kind from j < steps_to kind from n → free_at w kind j ≡ false
  unfolding from
  not_free n hn e j hj s = by_cases (dec_lt n (cursor_in w kind)) (dec_lt j (cursor_in w kind))
    where
      by_cases : Dec (n < cursor_in w kind) → Dec (j < cursor_in w kind) → free_at w kind j ≡ false
      by_cases (yes b) (yes c) = next_round w kind (omega arith) j hj (inr (omega (arith, steps_round kind (cursor_in w kind) j n known hj b s c)))
      by_cases (yes b) (no c) = next_round w kind (omega arith) j hj (inl (omega arith))
      by_cases (no b) c =
          let between = steps_ahead kind (cursor_in w kind) j n known hj hn (omega arith) s in
          next_ahead w kind j between.0 (omega (arith, between.1))

  pub next_comes : next_free w kind < count_of kind → ComesNext kind h (next_free w kind)
  unfolding from
  next_comes l = record {
    within = l;
    free = λ q live. clash _ (next_is_free w kind l) (t.made_by kind (next_free w kind) q (lives kind (next_free w kind) q h live)).entry.live;
    passed = λ j b s.
        let y = t.live kind j (not_free (next_free w kind) l refl j b (rw (p kind) s)) in
        (y.0, is_live_lem kind j y.0 h y.1);
  }

-- ---- one number alone

tried_below : (kind : Kind) (h : List Answered) → tried_first kind h < count_of kind
unfolding tried_first
tried_below kind [] = count_positive kind
tried_below kind (x ∷ h) = by_cases (is (creation_of kind) x) (tried_below kind h)
  where
    by_cases : (b : Bool) → tried_first kind h < count_of kind → cond b (one_past kind x.value) (tried_first kind h) < count_of kind
    by_cases true l = one_past_below kind x.value
    by_cases false l = l

pub comes_alone : (kind : Kind) (h : List Answered) (m n : ℕ) → ComesNext kind h m → ComesNext kind h n → m ≡ n
comes_alone kind h m n a b = by_cases (dec_lt (steps m) (steps n)) (dec_lt (steps n) (steps m))
  where
    steps : ℕ → ℕ
    steps j = steps_to kind (tried_first kind h) j

    by_cases : Dec (steps m < steps n) → Dec (steps n < steps m) → m ≡ n
    by_cases (yes l) q = let x = b.passed m a.within l in absurd (a.free x.0 x.1)
    by_cases (no l) (yes q) = let x = a.passed n b.within q in absurd (b.free x.0 x.1)
    by_cases (no l) (no q) = steps_same kind (tried_first kind h) m n a.within b.within (tried_below kind h) (omega arith)
