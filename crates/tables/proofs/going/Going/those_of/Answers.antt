use mathlib.Core.Path.{◌≡◌, refl}
use native.Mathlib.Nat.{zero-add}
use native.Mathlib.Omega.{arith}
use native.Mathlib.Numerals.{add-one}
use Rattle.words.specs.Sets.{bits, set_of}
use Rattle.tables.proofs.going.Going.those_of.Goals as goal

pub loop-i-init : goal.loop-i-init
unfolding set_of
loop-i-init c = (refl, refl)

pub loop-i-preserved : goal.loop-i-preserved
unfolding set_of
loop-i-preserved c =
    let the_loop = c.loop-i in (
      rw (add-one, ← the_loop.invariant.0, zero-add, ← c.is_of_present.ensures) c.with_if-low.ensures,
      rw (add-one, ← the_loop.invariant.1, ← c.is_of_present-in-loop-i.ensures) c.with_if-high.ensures,
    )

pub returns : goal.returns
returns c = let e : c.loop-i.i ≡ bits = omega arith in rw (c.loop-i.invariant.0, c.loop-i.invariant.1, e)
