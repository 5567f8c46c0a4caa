-- What is left of an operation by its row: where nothing is left to ask, where a check refuses, and where none does.
use Rattle.std.specs.Prelude.{◌≡◌, refl, List, [], ◌++◌, ℕ, Result, Option, Some}
use Rattle.std.specs.Result.{IsErrAnd}
use Rattle.std.proofs.lemmas.Result.{err_from_is_err_and}
use Rattle.state.specs.declared.state.State.{State}
use Rattle.state.specs.declared.refusals.Refused.{Refused}
use Rattle.state.specs.Refusals.{done}
use Rattle.state.specs.Numbers.{number_on}
use Rattle.state.specs.Laws.Numbers.{number_on_done}
use Rattle.checks.specs.Checks.{Check, first_of}
use Rattle.checks.specs.Quick.Asked.{Asks}
use Rattle.dictionary.specs.declared.answers.Attribute.{Attribute}
use Rattle.dictionary.specs.declared.answers.Attribute.TheVariants.{Whole, Reference}
use Rattle.session.specs.Effects.{Effect}
use Rattle.session.specs.Rows.{◌then◌, referring}
use Rattle.session.specs.Quick.Rows.{row_done, putting}
use Rattle.session.specs.Quick.Served.{Serving, serving, served, served_by}

pub none_left : first_of [] ≡ done
unfolding first_of
none_left = refl

pub row_served : (checks : List Check) (e : Effect) (s : State) (w k : List ℕ) (z : Serving) → first_of checks ≡ done
    → z ≡ served_by e w k → z ≡ served_by (row_done s (checks then e)) w k
row_served checks e s w k z h is = rw h is

-- the exit of a `?`, where the check before it has refused
pub row_refused : (checks : List Check) (e : Effect) (s : State) (w k : List ℕ) (r : Result ℕ Refused) (why : Refused) → IsErrAnd r (λ y. y ≡ why)
    → first_of checks ≡ number_on why → serving (served r s) w k ≡ served_by (row_done s (checks then e)) w k
row_refused checks e s w k r why h is =
    let p = err_from_is_err_and r h in
    rw (p.1, p.2, is, number_on_done why)

-- ---- a value that is put, by the kind of its attribute

module _ (x : Option Attribute) (a : Attribute) (some : x ≡ Some a) (m v : ℕ) (w : List ℕ) where
  pub whole_asks_nothing : a ≡ Whole → (rest : List Check) → first_of (putting x m v w ++ rest) ≡ first_of rest
  unfolding first_of
  whole_asks_nothing is rest = rw (some, is)

  pub reference_asks : (t : ℕ) (r : Result (Unit {0}) Refused) → a ≡ Reference t → Asks (λ rest. referring (Some (Reference t)) m v w ++ rest) r
      → Asks (λ rest. putting x m v w ++ rest) r
  unfolding first_of
  reference_asks t r is asked = rw (some, is) asked
