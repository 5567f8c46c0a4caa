-- The set is gathered before the sweep, so it says of every number what the definition says of the table as it was.
use mathlib.Core.Path.{ap, ◌∙◌}
use mathlib.Core.List.{List}
use Prim.Native.Nat.{ℕ}
use Rattle.words.specs.declared.layout.Kind.TheVariants.{Model, SchemaInstance, Instance}
use Rattle.words.specs.Layout.{count_of}
use Rattle.words.specs.Entries.{without_entry}
use Rattle.tables.specs.declared.going.Going.{Going}
use Rattle.tables.specs.Quick.Going.{goes}
use Rattle.tables.specs.Deletions.{swept, ungrouped}
use Rattle.tables.specs.Laws.Going.{swept_those}
use Rattle.tables.proofs.deletions.remove_model.Goals as goal

pub returns : goal.returns
returns c =
    let a = c.args in
    let swept_so = c.sweep.ensures ∙ ap (λ (g : Going). swept a.t.now (goes g) (count_of Instance))
    c.those_of-g.ensures ∙ swept_those a.t.now a.m in
    let left_so = c.ungroup.ensures ∙ ap (λ (l : List ℕ). ungrouped l a.m (count_of SchemaInstance)) swept_so in
    c.clear.ensures ∙ ap (λ (l : List ℕ). without_entry l Model a.m) left_so
