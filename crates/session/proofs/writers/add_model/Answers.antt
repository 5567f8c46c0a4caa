-- The last check refuses, behind those of both entries.
use Rattle.std.specs.Prelude.{◌≡◌, [], ◌∷◌}
use Rattle.std.proofs.Common.{◌∙◌}
use Rattle.words.specs.declared.layout.Kind.TheVariants.{Model, SchemaInstance}
use Rattle.tables.specs.View.{label_at}
use Rattle.state.specs.Refusals.{SI_NEXS, MO_NEXS, MO_NDEQ, ◌on◌}
use Rattle.state.specs.Numbers.{number_on}
use Rattle.checks.specs.Checks.{◌gives◌, first_of, in_reach, schemas_differ}
use Rattle.session.specs.Laws.Rows.{row_refused}
use Rattle.session.proofs.writers.add_model.Goals as goal

pub returns-in_err-refuse_if : goal.returns-in_err-refuse_if
returns-in_err-refuse_if c =
    let a = c.args in
    let it = label_at a.w.now SchemaInstance a.a in
    let model = label_at a.w.now Model a.b in
    let checks = in_reach it SI_NEXS 1 a.s (in_reach model MO_NEXS 2 a.s (schemas_differ model it gives MO_NDEQ on 2 ∷ [])) in
    let refused : first_of checks ≡ number_on c.in_err-refuse_if.field-0.0 =
    rw (← c.label_at-it.ensures, ← c.label_at-model.ensures, ← c.schemas_differ.ensures)
    (c.in_ok-in_reach.ensures _ ∙ c.in_ok-in_reach-2.ensures _ ∙ c.in_err-refuse_if.ensures []) in
    λ kept. row_refused checks _ a.s _ kept _ _ c.from_residual-in_err-refuse_if.ensures.1 refused
