-- The words in use of each decide (`sound_chunk`).
use mathlib.Core.Path.{sym}
use Rattle.logic.specs.Laws.Bools.{and_ended}
use Rattle.tables.specs.Sound.{sound_table}
use Rattle.tables.specs.Laws.Sound.{sound_chunk}
use Rattle.tables.specs.Laws.Labels.{short_unsound}
use Rattle.tables.proofs.sound.sound_pair.Goals as goal

pub returns-in_default : goal.returns-in_default
returns-in_default c = rw (short_unsound c.args.working.now c.in_default.ensures.cases)

pub returns-in_default-first_chunk : goal.returns-in_default-first_chunk
returns-in_default-first_chunk c =
    let a = c.args in
    sym (and_ended (sound_table a.working.now) (sound_table a.kept.now) (short_unsound a.kept.now c.in_default-first_chunk.ensures.cases))

pub returns : goal.returns
returns c =
    let a = c.args in
    let w = c.in-Some.ensures.cases in
    let k = c.in-Some-first_chunk.ensures.cases in
    rw (← sound_chunk a.working.now c.in-Some.working.now w.enough w.same, ← sound_chunk a.kept.now c.in-Some-first_chunk.kept.now k.enough k.same) c.sound_both.ensures
