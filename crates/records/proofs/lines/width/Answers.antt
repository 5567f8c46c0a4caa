-- One digit more than the power of ten below has zeros; 0 has one.
use native.Mathlib.Omega.{arith}
use mathlib.Core.Path.{◌≡◌, refl}
use Prim.Native.Nat.{ℕ, ◌≤◌, ◌<◌, ◌+◌, ◌*◌, ◌^◌}
use Rattle.std.specs.Prelude.{Option, None, Some, IfNone, IfSome}
use Rattle.std.specs.Option.{unwrap_or}
use Rattle.std.proofs.Common.{pow-suc}
use Rattle.records.specs.Laws.Decimal.{width_in, width_of, width_by_power}
use Rattle.records.proofs.lines.width.Goals as goal

by_power : (n : ℕ) (o : Option ℕ) → IfNone o (n ≡ 0) → IfSome o (λ k. 10 ^ k ≤ n) → IfSome o (λ k. n < 10 * 10 ^ k) → IfSome o (λ k. k < 20)
    → (unwrap_or o 0 + 1 ≡ width_of n) × (unwrap_or o 0 + 1 ≤ 20)
unfolding width_in
by_power n None none low high bound = (rw none refl, omega arith)
by_power n (Some k) none low high bound = (omega (arith, width_by_power 20 k n bound low (omega (arith, pow-suc 10 k))), omega arith)

pub returns : goal.returns
returns c =
    let e = c.checked_ilog10.ensures in
    rw c.unwrap_or.ensures (by_power c.args.n c.checked_ilog10.result e.none e.power_le e.next_power_gt e.bound)
