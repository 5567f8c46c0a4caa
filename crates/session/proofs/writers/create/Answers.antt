-- The refusal that the checks give, or what the creation does.
use Rattle.std.proofs.Common.{◌∙◌, []}
use Rattle.words.specs.Fields.{label_of}
use Rattle.state.specs.Numbers.{number_of}
use Rattle.session.specs.Effects.{created}
use Rattle.session.specs.Rows.{creating}
use Rattle.session.specs.Laws.Rows.{none_left, row_served, row_refused}
use Rattle.session.proofs.writers.create.Goals as goal

pub returns-in_err-creating : goal.returns-in_err-creating
returns-in_err-creating c =
    let a = c.args in
    λ kept.
    row_refused (creating a.kind (number_of a.taken) a.repository a.schema a.name a.s a.w.now) _ a.s _ kept _ _
    c.from_residual.ensures.1 (c.in_err-creating.ensures [])

pub returns : goal.returns
returns c =
    let a = c.args in
    λ kept.
    row_served (creating a.kind (number_of a.taken) a.repository a.schema a.name a.s a.w.now)
    (created a.kind (label_of a.repository a.schema a.name) a.s a.w.now) a.s a.w.now kept _
    (c.in_ok-creating.ensures [] ∙ none_left) (rw (← c.label.ensures) (c.created.ensures kept))
