-- Chips that are sound, and machines that do the same as `step` on them.
use Rattle.std.specs.Prelude.{◌≡◌, true}
use Rattle.session.specs.Sound.{sound}
use Rattle.session.specs.Runs.{Call, Chip, Machine, outcome_by, outcome_of}

abbrev pub SoundChip : Chip → Type 0
SoundChip chip = sound chip.session chip.working chip.kept ≡ true

-- a machine that does what `step` does, wherever the chip is sound
abbrev pub Alike : Machine → Type 0
Alike machine = (chip : Chip) → SoundChip chip → (q : Call) → outcome_by machine chip q ≡ outcome_of chip q
