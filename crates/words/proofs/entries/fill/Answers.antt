use borrow.Author.Tests.{ne_eqb}
use mathlib.Core.Path.{refl}
use Prim.Native.Nat.{◌+◌}
use native.Mathlib.Numerals.{add-one}
use native.Mathlib.Omega.{arith}
use Rattle.words.specs.Entries.{filled}
use Rattle.words.proofs.entries.fill.Goals as goal

pub loop-k-init : goal.loop-k-init
unfolding filled
loop-k-init c = (refl, refl)

pub loop-k-preserved : goal.loop-k-preserved
unfolding filled
loop-k-preserved c =
    let the_loop = c.loop-k in
    (rw (add-one, ← the_loop.invariant.0, ← the_loop.invariant.1) c.write.ensures, rw (ne_eqb (the_loop.k + 1) 0 (λ e. omega arith)))
