-- What the code of a check gives: it lets the checks behind it decide, or it refuses, whatever these are.
use Rattle.std.specs.Prelude.{◌≡◌, List, Result, MatchResult}
use Rattle.state.specs.declared.refusals.Refused.{Refused}
use Rattle.state.specs.Numbers.{number_on}
use Rattle.checks.specs.Checks.{Check, first_of}

-- of checks that stand in front of any others
abbrev pub Asks : {A : Type 0} → (List Check → List Check) → Result A Refused → Type 0
Asks checks r =
    MatchResult r
    (λ _. (rest : List Check) → first_of (checks rest) ≡ first_of rest)
    (λ refused. (rest : List Check) → first_of (checks rest) ≡ number_on refused)
