-- The words that were read are those of the definition.
use mathlib.Core.Path.{◌≡◌, sym, ap, ◌∙◌}
use mathlib.Core.Bool.{true}
use Rattle.std.proofs.Common.{slice_index}
use Rattle.words.specs.declared.layout.Kind.TheVariants.{Instance}
use Rattle.words.specs.Fields.{is_free}
use Rattle.words.specs.Entries.{free_at}
use Rattle.logic.specs.Search.{all_b}
use Rattle.tables.specs.declared.values.Words.{Words}
use Rattle.tables.specs.Quick.Values.{no_value}
use Rattle.tables.proofs.sound.Table.sound_instance.Goals as goal

pub returns-then-is_free : goal.returns-then-is_free
unfolding all_b
returns-then-is_free c =
    let free : free_at c.args.self.words.now Instance c.args.i ≡ true = sym (ap (λ (w : Words). is_free w.header) c.at-instance.ensures) ∙ sym c.is_free.ensures ∙ c.if-is_free.true in
    rw free (c.has_no_value.ensures ∙ ap (λ (w : Words). no_value (slice_index w.values)) c.at-instance.ensures)
