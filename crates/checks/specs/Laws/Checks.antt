-- The first refusal of two lists of checks, one after the other, as are the gate's and an operation's own.
use Rattle.std.specs.Prelude.{◌≡◌, refl, Result, Ok, Err, Bool, true, false, cond, not, ◌&&◌, List, [], ◌∷◌, ◌++◌, ℕ, eqb}
use Rattle.std.proofs.Common.{◌∙◌, sym, ap, true≢false, eq-eqb, ne_eqb}
use Rattle.state.specs.Numbers.{number_on}
use Rattle.state.specs.Laws.Numbers.{number_on_done, number_on_one}
use Rattle.std.proofs.lemmas.Bool.{not-true}
use Rattle.std.proofs.lemmas.Result.{MatchResult-weaker}
use Rattle.logic.specs.Laws.Bools.{and_left, and_right}
use Rattle.state.specs.Refusals.{done}
use Rattle.checks.specs.declared.operations.Operation.{Operation}
use Rattle.checks.specs.declared.operations.Operation.TheVariants.{Unlisted, Opening, InSession, Reader, Writer}
use Rattle.state.specs.declared.state.State.{State}
use Rattle.state.specs.declared.refusals.Refused.{Refused}
use Rattle.checks.specs.Checks.{Check, first_of, gate}
use Rattle.checks.specs.Quick.Asked.{Asks}

-- every check of the list refuses with a number of its own
abbrev pub refusing : List Check → Bool
refusing [] = true
refusing (check ∷ checks) = not (eqb check.refusal done) && refusing checks

-- the second list counts where the first has no refusal
abbrev pub or_else : ℕ → ℕ → ℕ
or_else first then = cond (eqb first done) then first

pub first_append : (xs ys : List Check) → refusing xs ≡ true → first_of (xs ++ ys) ≡ or_else (first_of xs) (first_of ys)
unfolding first_of
first_append [] ys e = refl
first_append (x ∷ xs) ys e =
    at x.condition
    (not-true (eqb x.refusal done) (and_left (not (eqb x.refusal done)) (refusing xs) e))
    (first_append xs ys (and_right (not (eqb x.refusal done)) (refusing xs) e))
  where
    at : (b : Bool) → eqb x.refusal done ≡ false → first_of (xs ++ ys) ≡ or_else (first_of xs) (first_of ys)
        → cond b x.refusal (first_of (xs ++ ys)) ≡ or_else (cond b x.refusal (first_of xs)) (first_of ys)
    at true n r = rw n
    at false n r = r

module _ (xs ys : List Check) (r : ℕ) (numbered : refusing xs ≡ true) (is : r ≡ first_of xs) where
  -- the first list refuses
  pub first_stops : (r ≡ done → ⊥) → first_of (xs ++ ys) ≡ r
  first_stops h = first_append xs ys numbered ∙ rw (← is, ne_eqb r done h)

  -- it does not: the second decides
  pub first_goes_on : r ≡ done → first_of (xs ++ ys) ≡ first_of ys
  first_goes_on h = first_append xs ys numbered ∙ rw (← is, eq-eqb r done h)

pub gate_refuses : (o : Operation) (s : State) → refusing (gate o s) ≡ true
gate_refuses Unlisted s = refl
gate_refuses Opening s = refl
gate_refuses (InSession o) s = refl
gate_refuses (Reader o) s = refl
gate_refuses (Writer o) s = refl

-- ---- what the code of a check gives

-- checks in front of those that are asked, which let these decide
pub asks_behind : {A : Type 0} (before checks : List Check → List Check) (r : Result A Refused) → ((rest : List Check) → first_of (before rest) ≡ first_of (checks rest))
    → Asks checks r → Asks before r
asks_behind before checks r h asked = MatchResult-weaker r asked (λ a passed rest. h rest ∙ passed rest) (λ e refused rest. h rest ∙ refused rest)

-- one answer alone is given
pub asks_one : (checks : List Check → List Check) (x y : Result (Unit {0}) Refused) → Asks checks x → Asks checks y → x ≡ y
unfolding first_of
asks_one checks (Ok a) (Ok b) p q = refl
asks_one checks (Ok a) (Err e) p q = absurd (true≢false (sym (eq-eqb (number_on e) done (sym (q []) ∙ p [])) ∙ number_on_done e))
asks_one checks (Err d) (Ok b) p q = absurd (true≢false (sym (eq-eqb (number_on d) done (sym (p []) ∙ q [])) ∙ number_on_done d))
asks_one checks (Err d) (Err e) p q = ap (λ (r : Refused). Err r) (number_on_one d e (sym (p []) ∙ q []))
