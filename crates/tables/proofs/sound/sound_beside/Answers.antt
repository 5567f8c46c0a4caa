-- Where the entries are the same, so are the live models, and beside the cursors the instances alone decide.
use mathlib.Core.Path.{sym, ◌∙◌}
use native.Mathlib.Omega.{arith}
use Rattle.tables.specs.Laws.Live.{live_told, told_live}
use Rattle.tables.specs.Laws.Labels.{cursors_unsound, sound_by_instances, live_alike, entries_alike}
use Rattle.tables.proofs.sound.sound_beside.Goals as goal

pub returns-then-not-sound_cursors : goal.returns-then-not-sound_cursors
returns-then-not-sound_cursors c = sym (cursors_unsound c.args.kept.now (sym c.sound_cursors.ensures ∙ c.if-not-sound_cursors.true))

pub invariant_of-table : goal.invariant_of-table
invariant_of-table c =
    let working = c.args.working in
    let kept = c.args.kept.now in
    record { told = told_live kept working.models (live_told working.words.now working.models working.told ∙ live_alike working.words.now kept (sym c.same_entries.ensures ∙ c.if-same_entries.true)) }

pub returns-then-same_entries : goal.returns-then-same_entries
returns-then-same_entries c =
    let a = c.args in
    c.sound_instances.ensures ∙ sound_by_instances a.kept.now (omega arith)
    (sym c.sound_cursors.ensures ∙ c.if-not-sound_cursors.false)
    (sym (entries_alike a.working.words.now a.kept.now (sym c.same_entries.ensures ∙ c.if-same_entries.true)) ∙ c.requires)
