-- If the five fields fit, each is written right behind the one before; if not, none is.
use native.Mathlib.Omega.{arith}
use mathlib.Core.Path.{◌≡◌, sym, ap, ◌∙◌}
use borrow.Author.Tests.{leb-true, leb-false}
use Rattle.records.specs.Lines.{line_text}
use Rattle.records.specs.Laws.Decimal.{width_of}
use Rattle.records.specs.Laws.Writing.{line_written, no_room, length_line}
use Rattle.records.proofs.lines.line.Goals as goal

pub returns-then-not-has_room : goal.returns-then-not-has_room
returns-then-not-has_room c =
    let args = c.args in
    let op = ap width_of c.into.ensures in
    let refusal = ap width_of c.into-2.ensures in
    let value = ap width_of c.into-3.ensures in
    let place = ap width_of c.into-4.ensures in
    no_room args.out.now args.at (line_text args.n args.op args.refusal args.value args.place)
    (omega (arith, leb-false _ _ (sym c.has_room.ensures ∙ c.if-not-has_room.true), length_line args.n args.op args.refusal args.value args.place))

pub returns : goal.returns
returns c =
    let args = c.args in
    let op : c.new-op.result.n ≡ args.op = c.new-op.ensures.0 ∙ c.into.ensures in
    let refusal : c.new-refusal.result.n ≡ args.refusal = c.new-refusal.ensures.0 ∙ c.into-2.ensures in
    let value : c.new-value.result.n ≡ args.value = c.new-value.ensures.0 ∙ c.into-3.ensures in
    let place : c.new-place.result.n ≡ args.place = c.new-place.ensures.0 ∙ c.into-4.ensures in
    let w =
    line_written args.out.now args.at args.n args.op args.refusal args.value args.place
    (omega (arith, leb-true _ _ (sym c.has_room.ensures ∙ c.if-not-has_room.false), ap width_of c.into.ensures, ap width_of c.into-2.ensures, ap width_of c.into-3.ensures, ap width_of c.into-4.ensures))
    (rw c.new-n.ensures.0 at c.number.ensures.wrote)
    (rw op at c.number-2.ensures.wrote)
    (rw refusal at c.number-3.ensures.wrote)
    (rw value at c.number-4.ensures.wrote)
    (rw place at c.number-5.ensures.wrote) in
    let same = c.number-5.ensures.same_reference ∙ c.number-4.ensures.same_reference ∙ c.number-3.ensures.same_reference ∙ c.number-2.ensures.same_reference ∙ c.number.ensures.same_reference in
    (grind arith, w.1)
