-- A list of checks whose end is known already: what the code of a shared check gives.
use Rattle.std.specs.Prelude.{ℕ, true, List, [], ◌∷◌}
use Rattle.checks.specs.Checks.{Check, ◌gives◌}

-- a refusal, or done, at the end of a list
abbrev pub known : ℕ → List Check
known n = true gives n ∷ []
