-- A table that is blank there is sound there; else the tests are the definition's in its order, and the first that fails decides.
use mathlib.Core.Path.{◌≡◌, sym, ap, ◌∙◌}
use mathlib.Core.Bool.{true}
use Rattle.words.specs.declared.layout.Kind.TheVariants.{Model, SchemaInstance}
use Rattle.std.proofs.Common.{Some}
use Rattle.tables.specs.Quick.Live.{live_in}
use Rattle.tables.specs.Quick.Labels.{sound_labels, is_blank}
use Rattle.tables.specs.Laws.Labels.{sound_told, unsound_told, entries_by_labels, blank_entries, blank_live}
use Rattle.tables.proofs.sound.test_entries.Goals as goal

pub returns-then-is_blank : goal.returns-then-is_blank
returns-then-is_blank c =
    let blank : is_blank c.args.t.now ≡ true = sym c.is_blank.ensures ∙ c.if-is_blank.true in
    let a = c.args in
    rw (blank_entries a.t.now blank) (ap Some (c.nobody.ensures ∙ sym (blank_live a.t.now blank)))

pub returns-in_err-test_labels : goal.returns-in_err-test_labels
returns-in_err-test_labels c =
    let t = c.args.t.now in
    let models : ((sound_labels t Model ≡ true) × (c.in_ok-models.models ≡ live_in t Model)) = sound_told _ _ _ (sym c.in_ok-models.was ∙ c.test_labels.ensures) in
    rw (c.from_residual-in_err-test_labels.ensures, entries_by_labels, models.0)
    (rw (unsound_told (sound_labels t SchemaInstance) (live_in t SchemaInstance) (sym c.in_err-test_labels.was ∙ c.test_labels-2.ensures)))
