-- What an operation does where the first part of its checks refuses it, and where it does not: what a row asks first, and the
-- gate before every row.
use Rattle.std.specs.Prelude.{◌≡◌, true, List, ◌++◌, ℕ}
use Rattle.std.proofs.Common.{ne_eqb}
use Rattle.state.specs.Refusals.{done}
use Rattle.checks.specs.declared.operations.Operation.{Operation}
use Rattle.state.specs.declared.state.State.{State}
use Rattle.checks.specs.Checks.{Check, first_of, gate}
use Rattle.checks.specs.Laws.Checks.{refusing, first_stops, first_goes_on, gate_refuses}
use Rattle.session.specs.Effects.{Effect, refuses}
use Rattle.session.specs.Rows.{◌then◌, row_of, checks, effect, refusal_of, performed}
use Rattle.session.specs.Quick.Rows.{row_done}

module _ (xs ys : List Check) (e : Effect) (s : State) (r : ℕ) (numbered : refusing xs ≡ true) (is : r ≡ first_of xs) where
  pub row_stops : (r ≡ done → ⊥) → row_done s ((xs ++ ys) then e) ≡ refuses r s
  row_stops h = rw (first_stops xs ys r numbered is h, ne_eqb r done h)

  pub row_goes_on : r ≡ done → row_done s ((xs ++ ys) then e) ≡ row_done s (ys then e)
  row_goes_on h = rw (first_goes_on xs ys r numbered is h)

module _ (o : Operation) (a b c : ℕ) (s : State) (w : List ℕ) (r : ℕ) (is : r ≡ first_of (gate o s)) where
  pub gate_stops : (r ≡ done → ⊥) → performed o a b c s w ≡ refuses r s
  unfolding refusal_of
  gate_stops h = row_stops (gate o s) (checks o a b c s w) (effect o a b c s w) s r (gate_refuses o s) is h

  pub gate_passes : r ≡ done → performed o a b c s w ≡ row_done s (row_of o a b c s w)
  unfolding refusal_of
  gate_passes h = row_goes_on (gate o s) (checks o a b c s w) (effect o a b c s w) s r (gate_refuses o s) is h
