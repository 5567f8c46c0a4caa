-- What calls from the shortest fresh chip are answered by `core`, they are answered from any.
use Rattle.std.specs.Prelude.{◌≡◌, List}
use Rattle.std.proofs.Common.{sym, ◌∙◌}
use Rattle.session.specs.Step.{core}
use Rattle.session.specs.Runs.{Answered, Chip, Fresh, fresh_chip, history_by, history}
use Rattle.promises.proofs.Fresh.{fresh_chip_lem}
use Rattle.promises.proofs.Reached.{core_alike, same_history}
use Rattle.promises.specs.Beyond.{alike_history, fresh_alike}
use Rattle.promises.specs.Records.{asked}

-- `core` on the shortest fresh chip gives the same, and it computes
pub computed : (h : List Answered) → history_by core fresh_chip (asked h) ≡ h → (begun : Chip) → Fresh begun → history begun (asked h) ≡ h
computed h e begun fresh =
    alike_history begun fresh_chip (fresh_alike begun fresh_chip fresh fresh_chip_lem) (asked h) ∙ sym (same_history fresh_chip fresh_chip_lem core core_alike (asked h)) ∙ e
