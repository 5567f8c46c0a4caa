-- There is room for the line.
use borrow.Author.Tests.{not-false}
use mathlib.Core.Path.{refl}
use mathlib.Core.List.{[], ◌∷◌}
use Rattle.records.specs.Lines.{end_text}
use Rattle.records.specs.Laws.Writing.{short_last}
use Rattle.reader.specs.Laws.Blocks.{text_stands, halt_stands}
use Rattle.reader.proofs.blocks.Run.ended.Goals as goal

pub returns : goal.returns
returns c =
    let end = c.end in
    let args = c.args in
    let pre = c.requires in
    let n = args.self.done in
    let short = short_last (101 ∷ 110 ∷ 100 ∷ []) n refl in
    let (more, fits) = text_stands args.self args.out.now end.new.out end.result (end_text n) pre short end.ensures in
    (λ w k. rw (not-false _ c.if-not-self.false) (halt_stands args.self args.out.now w k end.new.out (end_text n) end.result more), fits, refl)
