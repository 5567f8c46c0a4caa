use native.Mathlib.Omega.{arith}
use mathlib.Core.Path.{◌≡◌, sym, ◌∙◌}
use Prim.Native.Nat.{suc, ◌<◌, ◌-◌}
use lib.ListN.{length, drop_of_length-le}
use lib.Seq.{take_all}
use Rattle.records.specs.Laws.Decimal.{digits, length_digits}
use Rattle.records.specs.Laws.Writing.{digits_before, digit_back}
use Rattle.records.proofs.lines.spell.Goals as goal

pub loop-i-init : goal.loop-i-init
loop-i-init c =
    let k = length c.args.out.now in
    let text = digits k c.args.n in
    (take_all k text (omega (arith, length_digits k c.args.n)), drop_of_length-le c.args.out.now (omega arith) ∙ sym (drop_of_length-le text (omega (arith, length_digits k c.args.n))))

pub loop-i-preserved : goal.loop-i-preserved
loop-i-preserved c =
    let loop = c.loop-i in
    let k = length c.args.out.now in
    let one : loop.i ≡ suc (loop.i - 1) = omega arith in
    let less : loop.i - 1 < k = omega arith in (
      digits_before k c.args.n loop.i (loop.i - 1) loop.rest one less loop.invariant.0,
      rw c.digit.ensures (digit_back k c.args.n loop.i (loop.i - 1) loop.rest one less loop.invariant.0 loop.out (omega arith) loop.invariant.1),
    )
