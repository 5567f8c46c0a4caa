-- The attribute refuses, behind the checks of the instance.
use Rattle.std.specs.Prelude.{◌≡◌, []}
use Rattle.std.proofs.Common.{◌∙◌, sym, ap, append-nil}
use Rattle.dictionary.specs.Dictionary.{attribute_of}
use Rattle.tables.specs.View.{header_at, type_at, model_at}
use Rattle.state.specs.Numbers.{number_on}
use Rattle.checks.specs.Checks.{first_of}
use Rattle.session.specs.Rows.{writing, referring}
use Rattle.session.specs.Laws.Rows.{row_refused}
use Rattle.session.proofs.writers.put.Goals as goal

pub returns-in_err-putting : goal.returns-in_err-putting
returns-in_err-putting c =
    let a = c.args in
    let checks = writing (header_at a.w.now a.i) a.k a.s (referring (attribute_of (type_at a.w.now a.i) a.k) (model_at a.w.now a.i) a.v a.w.now) in
    let refused : first_of checks ≡ number_on c.in_err-putting.field-0.0 =
    rw (← c.header_at-it.ensures, ← c.type_in.ensures, ← c.attribute.ensures, ← c.model_in-m.ensures)
    (c.in_ok-writable.ensures _ ∙ ap first_of (sym (append-nil _)) ∙ c.in_err-putting.ensures []) in
    λ kept. row_refused checks _ a.s _ kept _ _ c.from_residual-in_err-putting.ensures.1 refused
