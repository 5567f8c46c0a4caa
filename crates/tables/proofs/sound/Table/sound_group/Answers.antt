-- A free entry's set is empty. A live one's is held to the models of its label's schema, which is what `group_by_sets` says.
use mathlib.Core.Path.{◌≡◌, sym, ap, ◌∙◌}
use mathlib.Core.Bool.{true, false}
use Rattle.words.specs.declared.layout.Kind.TheVariants.{SchemaInstance}
use Rattle.words.specs.Fields.{is_free}
use Rattle.words.specs.Entries.{free_at}
use Rattle.words.specs.Layout.{count_of}
use Rattle.logic.specs.Laws.Bools.{and_left}
use Rattle.logic.specs.Laws.Search.{all_at}
use Rattle.tables.specs.Sound.{distinct, sound_group}
use Rattle.tables.specs.Quick.Labels.{labelled}
use Rattle.tables.specs.Laws.Live.{group_by_sets, live_told}
use Rattle.tables.proofs.sound.Table.sound_group.Goals as goal

pub returns-then-is_free : goal.returns-then-is_free
unfolding sound_group
returns-then-is_free c =
    rw (
      sym (ap is_free c.label_at-label.ensures) ∙ sym c.is_free.ensures ∙ c.if-is_free.true,
      c.is_empty.ensures,
      c.set_at-set.ensures,
    )

pub returns : goal.returns
returns c =
    let a = c.args in
    let the_label_at = c.label_at-label in
    let live : free_at a.self.words.now SchemaInstance a.s ≡ false = sym (ap is_free the_label_at.ensures) ∙ sym c.is_free.ensures ∙ c.if-is_free.false in
    let labels : labelled a.self.words.now SchemaInstance a.s ≡ true = all_at (count_of SchemaInstance) (labelled a.self.words.now SchemaInstance) (and_left _ (distinct a.self.words.now SchemaInstance) c.requires.0) a.s c.requires.1 in
    rw (
      c.is_within.ensures,
      c.of_schema.ensures,
      c.schema_in.ensures,
      live_told a.self.words.now a.self.models a.self.told,
      c.label_at-label.ensures,
      c.set_at-set.ensures,
    ) (group_by_sets
    c.args.self.words.now c.args.s live
    (rw live at labels))
