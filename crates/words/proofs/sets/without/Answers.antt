-- The machine's `and` with all bits but one leaves that bit's part of the word out.
use Prim.Native.Nat.{◌-◌, ◌+◌, ◌*◌, ◌^◌, ◌%◌, ◌<◌}
use mathlib.Core.Path.{◌≡◌, sym}
use native.Mathlib.Omega.{arith}
use lib.Bits.{bit_and}
use Rattle.std.proofs.lemmas.Nat.{and-not, and_comm}
use Rattle.std.proofs.Math.Pow.{pow-lt}
use Rattle.words.specs.Laws.Sets.{one_shifted, and_bit, remove_past}
use Rattle.words.proofs.sets.without.Goals as goal

pub returns-then-m-lt-BITS : goal.returns-then-m-lt-BITS
returns-then-m-lt-BITS c =
    let a = c.args in
    let p : 2 ^ a.m < 2 ^ 64 = pow-lt c.if-m-lt-BITS.true in
    let e : bit_and (2 ^ 64 - 1 - 2 ^ a.m) a.set + bit_and (2 ^ a.m) a.set ≡ a.set = and-not 64 (2 ^ a.m) a.set p c.ranges.set.fits in
    let s : 1 * 2 ^ a.m % 2 ^ 64 ≡ 2 ^ a.m = one_shifted a.m c.if-m-lt-BITS.true in
    rw (s, and_comm a.set (2 ^ 64 - 1 - 2 ^ a.m)) (omega (arith, e, and_comm (2 ^ a.m) a.set, and_bit a.set a.m))

pub returns-else-m-lt-BITS : goal.returns-else-m-lt-BITS
returns-else-m-lt-BITS c = sym (remove_past c.args.set c.args.m c.ranges.set.fits c.if-m-lt-BITS.false)
