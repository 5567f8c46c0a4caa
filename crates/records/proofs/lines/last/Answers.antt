-- If word and number fit, the number is written right behind the word; if not, neither is.
use native.Mathlib.Omega.{arith}
use mathlib.Core.Path.{sym, ◌∙◌}
use borrow.Author.Tests.{leb-true, leb-false}
use Rattle.records.specs.Lines.{last_text}
use Rattle.records.specs.Laws.Writing.{last_written, no_room, length_last}
use Rattle.records.proofs.lines.last.Goals as goal

pub returns-then-not-has_room : goal.returns-then-not-has_room
returns-then-not-has_room c =
    let args = c.args in
    no_room args.out.now args.at (last_text args.word.now args.n)
    (omega (arith, leb-false _ _ (sym c.has_room.ensures ∙ c.if-not-has_room.true), length_last args.word.now args.n c.told-word))

pub returns : goal.returns
returns c =
    let args = c.args in
    let w =
    last_written args.out.now args.at args.word.now c.new-n.result.n c.told-word
    (omega (arith, leb-true _ _ (sym c.has_room.ensures ∙ c.if-not-has_room.false), c.new-n.result.counted))
    c.word.ensures.wrote
    c.number.ensures.wrote in
    let same = c.number.ensures.same_reference ∙ c.word.ensures.same_reference in
    let n = c.new-n.ensures.0 in
    let z = rw n at w in
    (grind arith, z.1)
