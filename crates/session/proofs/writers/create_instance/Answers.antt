-- What the creation does where no check refuses.
use Rattle.std.specs.Prelude.{◌≡◌, [], ◌∷◌, not}
use Rattle.std.proofs.Common.{◌∙◌}
use Rattle.words.specs.declared.layout.Kind.TheVariants.{Model, Instance}
use Rattle.words.specs.Fields.{header_of}
use Rattle.dictionary.specs.Dictionary.{is_type}
use Rattle.tables.specs.View.{label_at}
use Rattle.state.specs.Refusals.{MO_NEXS, ED_NDEF, ED_NVLD, ◌on◌, done}
use Rattle.checks.specs.Checks.{◌gives◌, first_of, writable, type_foreign}
use Rattle.session.specs.Effects.{created}
use Rattle.session.specs.Laws.Rows.{none_left, row_served}
use Rattle.session.proofs.writers.create_instance.Goals as goal

pub returns : goal.returns
returns c =
    let a = c.args in
    let label = label_at a.w.now Model a.a in
    let checks = writable label MO_NEXS a.a a.s (not (is_type a.b) gives ED_NDEF on 2 ∷ type_foreign a.b label gives ED_NVLD on 2 ∷ []) in
    let passed : first_of checks ≡ done =
    rw (← c.label_at-model.ensures, ← c.no_type.ensures, ← c.type_foreign.ensures)
    (c.in_ok-writable.ensures _ ∙ c.in_ok-refuse_if.ensures _ ∙ c.in_ok-refuse_if-2.ensures _ ∙ none_left) in
    λ kept. row_served checks (created Instance (header_of a.b a.a 0) a.s a.w.now) a.s a.w.now kept _ passed (rw (← c.header.ensures) (c.created.ensures kept))
