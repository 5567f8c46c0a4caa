-- There is room for the line.
use native.Mathlib.Omega.{arith}
use mathlib.Core.Path.{refl}
use mathlib.Core.List.{[], ◌∷◌}
use Prim.Native.Nat.{◌+◌}
use Rattle.records.specs.Lines.{bad_text}
use Rattle.records.specs.Laws.Writing.{short_last}
use Rattle.reader.specs.Laws.Blocks.{text_stands, halt_stands}
use Rattle.reader.proofs.blocks.Run.refused.Goals as goal

pub returns : goal.returns
returns c =
    let bad = c.bad in
    let args = c.args in
    let pre = c.requires in
    let n = args.self.done + 1 in
    let short = short_last (98 ∷ 97 ∷ 100 ∷ []) n refl in
    let (more, fits) = text_stands args.self args.out.now bad.new.out bad.result (bad_text n) pre.fits short bad.ensures in
    (λ w k. halt_stands args.self args.out.now w k bad.new.out (bad_text n) bad.result more, record { short = fits; one = omega arith })
