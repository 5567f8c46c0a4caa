use mathlib.Core.Path.{refl, sym, ◌∙◌}
use native.Mathlib.Omega.{arith}
use Rattle.words.specs.declared.layout.Kind.TheVariants.{Instance}
use Rattle.words.specs.Layout.{count_of}
use Rattle.logic.specs.Search.{any_b}
use Rattle.logic.specs.Laws.Search.{none_more, any_stop}
use Rattle.words.specs.Laws.Present.{none_present}
use Rattle.tables.specs.Laws.Deletions.{free_holds}
use Rattle.tables.specs.Deletions.{goes_with, holds_back, held_back}
use Rattle.tables.proofs.deletions.held_back.Goals as goal

pub loop-i-init : goal.loop-i-init
unfolding any_b
loop-i-init c = refl

pub returns-then-holds_back : goal.returns-then-holds_back
unfolding held_back
returns-then-holds_back c =
    let a = c.args in
    let f = holds_back a.t.now (goes_with a.t.now a.kind a.n) a.«rw» in
    let here = c.present-i-end.ensures.1 in
    sym (any_stop (count_of Instance) f c.loop-i.i (omega (arith, here.within)) (sym c.holds_back.ensures ∙ c.if-holds_back.true))

pub loop-i-preserved : goal.loop-i-preserved
loop-i-preserved c =
    let a = c.args in
    let f = holds_back a.t.now (goes_with a.t.now a.kind a.n) a.«rw» in
    none_more f c.loop-i.i c.loop-i.invariant (sym c.holds_back.ensures ∙ c.if-holds_back.false)

pub returns : goal.returns
unfolding held_back
returns c =
    let a = c.args in
    let f = holds_back a.t.now (goes_with a.t.now a.kind a.n) a.«rw» in
    sym (none_present a.t.now Instance c.present-i-end.result c.loop-i.i f c.present-i-end.ensures.1 c.loop-i-test.false
    (λ j e. free_holds a.t.now (goes_with a.t.now a.kind a.n) a.«rw» j e) c.loop-i.invariant)
