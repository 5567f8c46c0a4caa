-- Calls from a fresh chip and what they are answered, the oldest first; the ten records (CHIP, reader).
use Rattle.std.specs.Prelude.{◌≡◌, List, [], ◌∷◌, reverse, ℕ}
use Rattle.session.specs.Runs.{Call, call, Answered, Chip, Fresh, history}

-- a call, and its refusal, value and place
infix 70 ◌gives◌
abbrev pub ◌gives◌ : Call → ℕ × ℕ × ℕ → Answered
q gives r = record { call = q; refusal = r.0; value = r.1; place = r.2 }

unfoldable pub asked : List Answered → List Call
asked [] = []
asked (x ∷ h) = x.call ∷ asked h

-- the history of these calls from a fresh chip, whatever the lengths of its tables, is as the rows say
abbrev pub AsGiven : List Answered → Type 0
AsGiven rows = (begun : Chip) → Fresh begun → history begun (asked (reverse rows)) ≡ reverse rows

-- CHIP, reader
abbrev pub ten_records : List Answered
ten_records =
    call 1 0 0 0 gives (0, 0, 0)
    ∷ call 3 0 0 0 gives (0, 0, 0)
    ∷ call 5 0 0 0 gives (0, 0, 0)
    ∷ call 20 0 1 7 gives (0, 0, 0)
    ∷ call 23 0 0 0 gives (0, 0, 0)
    ∷ call 40 0 2 0 gives (0, 0, 0)
    ∷ call 44 0 0 5 gives (0, 0, 0)
    ∷ call 42 0 0 0 gives (0, 5, 0)
    ∷ call 8 0 0 0 gives (0, 0, 0)
    ∷ call 42 0 0 0 gives (27, 0, 1)
    ∷ []
