-- What remains of a history: refused operations are struck out, and so are changes dropped later (PROMISES, demand 3).
-- A history is a list of answered calls, the latest first: a step appends one today.
use Rattle.std.specs.Prelude.{ℕ, Bool, false, cond, not, ◌||◌, ◌&&◌, List, [], ◌∷◌, eqb}
use Rattle.state.specs.Refusals.{done}
use Rattle.session.specs.Runs.{Answered}

-- ---- a call asked about, by operation number

abbrev pub is : ℕ → Answered → Bool
is op x = eqb x.call.op op

-- .. of a; of a and b
abbrev pub of : ℕ → ℕ → Answered → Bool
of op a x = is op x && eqb x.call.a a

abbrev pub of_both : ℕ → ℕ → ℕ → Answered → Bool
of_both op a b x = of op a x && eqb x.call.b b

-- .. that gave n
abbrev pub gave : ℕ → ℕ → Answered → Bool
gave op n x = is op x && eqb x.value n

-- ---- what is struck out

abbrev pub drops : Answered → Bool
drops x = is 2 x || is 8 x || is 10 x || is 13 x

abbrev pub commits : Answered → Bool
commits x = is 7 x || is 9 x

-- what remains, where what no later call drops or commits is dropped or not
unfoldable pub remaining_if : List Answered → Bool → List Answered
remaining_if [] dropped = []
remaining_if (x ∷ h) dropped =
    let earlier = remaining_if h (drops x || (dropped && not (commits x))) in
    cond (eqb x.refusal done) (cond dropped earlier (x ∷ earlier)) (remaining_if h dropped)

unfoldable pub remaining : List Answered → List Answered
remaining h = remaining_if h false
