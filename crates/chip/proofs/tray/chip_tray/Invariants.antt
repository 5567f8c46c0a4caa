-- What stands after i turns is `standing i`; that it is what the calls leave is `Stands` of the laws, carried from turn to turn.
use Rattle.std.proofs.Common.{◌≡◌, ℕ, List, ◌≤◌, length}
use Rattle.chip.specs.declared.tray.Reply.{Reply}
use Rattle.chip.specs.declared.tray.Turn.{Turn}
use Rattle.session.specs.Runs.{chip_of}
use Rattle.chip.specs.Quick.Turns.{Standing, turned, begun_with, standing, taken_of}
use Rattle.chip.proofs.Laws.Tray.{Stands}
use Rattle.chip.proofs.tray.chip_tray.Given as goal

-- the answers, what goes on to the next order, and the tables
abbrev pub now_standing : List Reply → Turn → List ℕ → List ℕ → Standing
now_standing answers t w k = record { answers = answers; after = turned t w k }

abbrev pub invariant-loop-i : goal.invariant-loop-i
invariant-loop-i l =
    let begun = chip_of l.fn.x l.fn.working l.fn.kept in
    let z = now_standing l.answers l.t l.working l.kept in
    (l.i ≤ l.n) × (l.n ≡ taken_of (length l.fn.orders) (length l.fn.answers)) × (length l.answers ≡ length l.fn.answers)
    × (z ≡ standing l.i l.fn.orders l.fn.answers (turned (begun_with l.fn.x l.fn.working l.fn.kept) l.fn.working l.fn.kept)) × Stands l.fn.orders l.fn.answers begun l.i z
