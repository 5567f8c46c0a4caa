-- Tables that agree are alike sound, so one of them tells. Else both are looked at, and only while writing.
use mathlib.Core.Path.{sym, ◌∙◌}
use mathlib.Core.Bool.{◌&&◌, and-true}
use Rattle.tables.specs.Sound.{sound_table}
use Rattle.logic.specs.Laws.Bools.{and_ended}
use Rattle.tables.specs.Laws.Sound.{sound_agreeing, sound_apart}
use Rattle.tables.proofs.sound.sound_tables.Goals as goal

pub returns-then-agree : goal.returns-then-agree
returns-then-agree c =
    let a = c.args in
    c.sound_table.ensures ∙ sym (sound_agreeing a.working.now a.kept.now a.writing (sym c.agree.ensures ∙ c.if-agree.true))

pub returns-then-writing : goal.returns-then-writing
returns-then-writing c =
    let a = c.args in
    c.sound_pair.ensures ∙ sym (sound_apart a.working.now a.kept.now a.writing (sym c.agree.ensures ∙ c.if-agree.false)
    ∙ rw c.if-writing.true (and-true (sound_table a.working.now && sound_table a.kept.now)))

pub returns-else-writing : goal.returns-else-writing
returns-else-writing c =
    let a = c.args in
    c.if-writing.false ∙ sym (sound_apart a.working.now a.kept.now a.writing (sym c.agree.ensures ∙ c.if-agree.false)
    ∙ and_ended (sound_table a.working.now && sound_table a.kept.now) a.writing c.if-writing.false)
