-- The digits go over what stood there, and the byte right behind them.
use native.Mathlib.Omega.{arith}
use mathlib.Core.Path.{◌≡◌}
use Prim.Native.Nat.{◌+◌}
use Rattle.records.specs.Laws.Decimal.{digits, length_digits}
use Rattle.records.specs.Laws.Writing.{number_ended, put_over, length_part}
use Rattle.records.proofs.lines.Text.number.Goals as goal

pub returns-clause-wrote : goal.returns-clause-wrote
returns-clause-wrote c =
    let text = c.args.self.now in
    let x = c.args.x in
    let spelled : c.spell.new.out ≡ digits x.width x.n = rw (length_part text.out.now text.at x.width (omega arith)) at c.spell.ensures in
    let put = put_over text.out.now text.at (text.at + x.width) (digits x.width x.n) (omega (arith, length_digits x.width x.n)) in
    rw spelled (number_ended text.out.now text.at x.width x.n c.args.stop x.counted (omega arith) put)
