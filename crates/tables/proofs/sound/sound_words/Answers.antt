-- A table is sound by its length, its cursors, its entries and its instances: the first that fails decides.
use Rattle.tables.specs.Sound.{sound_cursors, sound_entries}
use Rattle.tables.specs.Quick.Live.{live_in}
use mathlib.Core.Path.{◌≡◌, sym, ◌∙◌}
use mathlib.Core.Bool.{true}
use Prim.Native.Nat.{◌≤◌}
use lib.ListN.{length}
use native.Mathlib.Omega.{arith}
use Rattle.words.specs.declared.layout.Kind.TheVariants.{Model}
use Rattle.words.specs.Layout.{words}
use Rattle.tables.specs.Laws.Labels.{sound_told, unsound_told, cursors_unsound, entries_unsound, sound_by_instances}
use Rattle.tables.proofs.sound.sound_words.Goals as goal

pub returns-then-not-sound_cursors : goal.returns-then-not-sound_cursors
returns-then-not-sound_cursors c = sym (cursors_unsound c.args.t.now (sym c.sound_cursors.ensures ∙ c.if-not-sound_cursors.true))

pub returns-in_default : goal.returns-in_default
returns-in_default c =
    sym (entries_unsound c.args.t.now
    (unsound_told _ _ (sym c.in_default.is ∙ c.test_entries.ensures)))

pub returns : goal.returns
returns c =
    let a = c.args in
    let long : words ≤ length c.args.t.now = omega arith in
    let cursors : sound_cursors c.args.t.now ≡ true = sym c.sound_cursors.ensures ∙ c.if-not-sound_cursors.false in
    let entries : ((sound_entries a.t.now ≡ true) × (c.in-Some.models ≡ live_in a.t.now Model)) = sound_told _ _ _ (sym c.in-Some.is ∙ c.test_entries.ensures) in
    c.sound_instances.ensures ∙ sound_by_instances a.t.now long cursors entries.0
