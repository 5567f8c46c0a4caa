-- The first test that fails decides, and the last is of the kept table.
use mathlib.Core.Path.{◌≡◌, sym, ◌∙◌}
use mathlib.Core.Bool.{true}
use Prim.Native.Nat.{◌≤◌}
use lib.ListN.{length}
use native.Mathlib.Omega.{arith}
use Rattle.words.specs.declared.layout.Kind.TheVariants.{Model}
use Rattle.words.specs.Layout.{words}
use Rattle.tables.specs.Sound.{sound_cursors, sound_entries}
use Rattle.tables.specs.Quick.Live.{live_in}
use Rattle.tables.specs.Laws.Labels.{sound_told, unsound_told, cursors_unsound, entries_unsound, instances_unsound, sound_by_instances}
use Rattle.tables.proofs.sound.sound_both.Goals as goal

pub returns-then-not-sound_cursors : goal.returns-then-not-sound_cursors
returns-then-not-sound_cursors c =
    let a = c.args in
    rw (cursors_unsound a.working.now (sym c.sound_cursors.ensures ∙ c.if-not-sound_cursors.true))

pub returns-in_default : goal.returns-in_default
returns-in_default c =
    let a = c.args in
    rw (entries_unsound a.working.now (unsound_told _ _ (sym c.in_default.is ∙ c.test_entries.ensures)))

pub returns-else-sound_instances : goal.returns-else-sound_instances
returns-else-sound_instances c =
    let a = c.args in
    rw (c.if-sound_instances.false, instances_unsound a.working.now (sym c.sound_instances.ensures ∙ c.if-sound_instances.false))

pub returns-then-sound_instances : goal.returns-then-sound_instances
returns-then-sound_instances c =
    let a = c.args in
    let long : words ≤ length c.args.working.now = omega arith in
    let cursors : sound_cursors c.args.working.now ≡ true = sym c.sound_cursors.ensures ∙ c.if-not-sound_cursors.false in
    let entries : ((sound_entries a.working.now ≡ true) × (c.in-Some.models ≡ live_in a.working.now Model)) = sound_told _ _ _ (sym c.in-Some.is ∙ c.test_entries.ensures) in
    let tested = sound_by_instances a.working.now long cursors entries.0 in
    rw (sym tested ∙ sym c.sound_instances.ensures ∙ c.if-sound_instances.true) c.sound_beside.ensures
