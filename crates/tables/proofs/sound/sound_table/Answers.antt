-- The words in use decide (`sound_chunk`).
use mathlib.Core.Path.{sym, ◌∙◌}
use Rattle.tables.specs.Laws.Sound.{sound_chunk}
use Rattle.tables.specs.Laws.Labels.{short_unsound}
use Rattle.tables.proofs.sound.sound_table.Goals as goal

pub returns-in_default : goal.returns-in_default
returns-in_default c = sym (short_unsound c.args.t.now c.in_default.ensures.cases)

pub returns : goal.returns
returns c =
    let first = c.in-Some.ensures.cases in
    c.sound_words.ensures ∙ sound_chunk c.args.t.now c.in-Some.t.now first.enough first.same
