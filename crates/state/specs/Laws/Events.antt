-- The log: sixteen events, one slot on, and an event added, by what its answer tells.
use Rattle.std.specs.Prelude.{◌≡◌, refl, List, [], ◌∷◌, cond, ◌&&◌, ℕ, eqb, length, replicate}
use Rattle.std.proofs.Common.{ap, arith}
use Rattle.state.specs.declared.state.Event.{Event}
use Rattle.state.specs.declared.state.Session.{Session}
use Rattle.state.specs.Refusals.{◌on◌, number_in, place_in}
use Rattle.state.specs.States.{is_open, slots, event, shifted, added, session, noted}
use Rattle.state.specs.Quick.Events.{moved_on}

-- sixteen events one slot on, one by one, and the new one last
pub all_moved : (l : List Event) (e : Event) → length l ≡ slots → moved_on 15 l (replicate slots e) ≡ shifted l e
unfolding moved_on
all_moved ([]) e h = absurd (omega arith)
all_moved (x0 ∷ []) e h = absurd (omega arith)
all_moved (x0 ∷ x1 ∷ []) e h = absurd (omega arith)
all_moved (x0 ∷ x1 ∷ x2 ∷ []) e h = absurd (omega arith)
all_moved (x0 ∷ x1 ∷ x2 ∷ x3 ∷ []) e h = absurd (omega arith)
all_moved (x0 ∷ x1 ∷ x2 ∷ x3 ∷ x4 ∷ []) e h = absurd (omega arith)
all_moved (x0 ∷ x1 ∷ x2 ∷ x3 ∷ x4 ∷ x5 ∷ []) e h = absurd (omega arith)
all_moved (x0 ∷ x1 ∷ x2 ∷ x3 ∷ x4 ∷ x5 ∷ x6 ∷ []) e h = absurd (omega arith)
all_moved (x0 ∷ x1 ∷ x2 ∷ x3 ∷ x4 ∷ x5 ∷ x6 ∷ x7 ∷ []) e h = absurd (omega arith)
all_moved (x0 ∷ x1 ∷ x2 ∷ x3 ∷ x4 ∷ x5 ∷ x6 ∷ x7 ∷ x8 ∷ []) e h = absurd (omega arith)
all_moved (x0 ∷ x1 ∷ x2 ∷ x3 ∷ x4 ∷ x5 ∷ x6 ∷ x7 ∷ x8 ∷ x9 ∷ []) e h = absurd (omega arith)
all_moved (x0 ∷ x1 ∷ x2 ∷ x3 ∷ x4 ∷ x5 ∷ x6 ∷ x7 ∷ x8 ∷ x9 ∷ x10 ∷ []) e h = absurd (omega arith)
all_moved (x0 ∷ x1 ∷ x2 ∷ x3 ∷ x4 ∷ x5 ∷ x6 ∷ x7 ∷ x8 ∷ x9 ∷ x10 ∷ x11 ∷ []) e h = absurd (omega arith)
all_moved (x0 ∷ x1 ∷ x2 ∷ x3 ∷ x4 ∷ x5 ∷ x6 ∷ x7 ∷ x8 ∷ x9 ∷ x10 ∷ x11 ∷ x12 ∷ []) e h = absurd (omega arith)
all_moved (x0 ∷ x1 ∷ x2 ∷ x3 ∷ x4 ∷ x5 ∷ x6 ∷ x7 ∷ x8 ∷ x9 ∷ x10 ∷ x11 ∷ x12 ∷ x13 ∷ []) e h = absurd (omega arith)
all_moved (x0 ∷ x1 ∷ x2 ∷ x3 ∷ x4 ∷ x5 ∷ x6 ∷ x7 ∷ x8 ∷ x9 ∷ x10 ∷ x11 ∷ x12 ∷ x13 ∷ x14 ∷ []) e h = absurd (omega arith)
all_moved (x0 ∷ x1 ∷ x2 ∷ x3 ∷ x4 ∷ x5 ∷ x6 ∷ x7 ∷ x8 ∷ x9 ∷ x10 ∷ x11 ∷ x12 ∷ x13 ∷ x14 ∷ x15 ∷ []) e h = refl
all_moved (x0 ∷ x1 ∷ x2 ∷ x3 ∷ x4 ∷ x5 ∷ x6 ∷ x7 ∷ x8 ∷ x9 ∷ x10 ∷ x11 ∷ x12 ∷ x13 ∷ x14 ∷ x15 ∷ x16 ∷ more) e h = absurd (omega arith)

-- ---- what an answer tells of a refusal, its number and its place, is what the event holds

number_as_told : (r : ℕ) → number_in (number_in r on place_in r) ≡ number_in r
number_as_told r = omega arith

place_as_told : (r : ℕ) → place_in (number_in r on place_in r) ≡ place_in r
place_as_told r = omega arith

event_as_told : (op r : ℕ) → event op (number_in r on place_in r) ≡ event op r
event_as_told op r = rw (number_as_told r, place_as_told r)

pub noted_as_told : (x : Session) (op r : ℕ) → noted x op (number_in r on place_in r) ≡ noted x op r
noted_as_told x op r =
    ap (λ (e : Event). cond (is_open x.state && eqb x.state.recording 1) (session x.state (added x.log e)) x) (event_as_told op r)
