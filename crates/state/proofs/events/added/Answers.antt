use Rattle.std.proofs.Common.{rules, arith, ◌≡◌, refl, ap, add-one, le-ltb}
use Rattle.state.specs.States.{log}
use Rattle.state.specs.Quick.Events.{moved_on}
use Rattle.state.specs.Laws.Events.{all_moved}
use Rattle.state.proofs.events.added.Goals as goal

pub loop-i-init : goal.loop-i-init
unfolding moved_on
loop-i-init c = refl

pub loop-i-preserved : goal.loop-i-preserved
unfolding moved_on
loop-i-preserved c = rw (add-one, c.loop-i.invariant)

pub returns : goal.returns
returns c =
    let a = c.args in
    let at_end : c.loop-i.i ≡ 15 = omega arith in
    rw (le-ltb a.n 16 c.if-n.false, c.loop-i.invariant, at_end)
    (ap (log a.n) (all_moved a.before a.e (search rules)))
