-- Each kind by its own function; the set of one says of every number what the definition says.
use mathlib.Core.Path.{ap, ◌∙◌}
use Rattle.words.specs.declared.layout.Kind.TheVariants.{Instance}
use Rattle.words.specs.Layout.{count_of}
use Rattle.tables.specs.declared.going.Going.{Going}
use Rattle.tables.specs.Quick.Going.{goes}
use Rattle.tables.specs.Deletions.{swept}
use Rattle.tables.specs.Laws.Going.{swept_one}
use Rattle.tables.proofs.deletions.remove.Goals as goal

pub returns-in-Instance : goal.returns-in-Instance
returns-in-Instance c =
    let a = c.args in
    rw c.in-Instance.is
    (c.sweep.ensures ∙ ap (λ (g : Going). swept a.t.now (goes g) (count_of Instance)) c.one.ensures ∙ swept_one a.t.now a.n)
