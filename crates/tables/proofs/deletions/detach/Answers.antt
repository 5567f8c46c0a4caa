-- With no set reference the definition changes nothing; else the one reference becomes unset or stays by what it names.
use mathlib.Core.Path.{◌≡◌, sym, ap, ◌∙◌}
use Rattle.std.proofs.Common.{Some, None}
use Rattle.tables.specs.View.{header_at, value_at}
use Rattle.tables.specs.Quick.Going.{goes}
use Rattle.tables.specs.Quick.Pointers.{pointer_in}
use Rattle.tables.specs.Laws.Pointers.{the_pointer}
use Rattle.tables.specs.Laws.Deletions.{bare_stays, pointer_stays, pointer_goes}
use Rattle.tables.proofs.deletions.detach.Goals as goal

pub returns-then-goes : goal.returns-then-goes
returns-then-goes c =
    let a = c.args in
    let pointer : (pointer_in (header_at a.t.now a.i) ≡ Some c.in-Some.k) = cc in
    let asked : (goes a.g (value_at a.t.now a.i c.in-Some.k) ≡ c.goes.result) = ap (goes a.g) (sym c.value_at.ensures) ∙ sym c.goes.ensures in
    c.unset.ensures ∙ sym (pointer_goes a.t.now (goes a.g) a.i c.in-Some.k (the_pointer a.t.now (goes a.g) a.i c.in-Some.k pointer) (asked ∙ c.if-goes.true))

pub returns-else-goes : goal.returns-else-goes
returns-else-goes c =
    let a = c.args in
    let pointer : (pointer_in (header_at a.t.now a.i) ≡ Some c.in-Some.k) = cc in
    let asked : (goes a.g (value_at a.t.now a.i c.in-Some.k) ≡ c.goes.result) = ap (goes a.g) (sym c.value_at.ensures) ∙ sym c.goes.ensures in
    sym (pointer_stays a.t.now (goes a.g) a.i c.in-Some.k (the_pointer a.t.now (goes a.g) a.i c.in-Some.k pointer) (asked ∙ c.if-goes.false))

pub returns-in_default : goal.returns-in_default
returns-in_default c =
    let a = c.args in
    let none : (pointer_in (header_at a.t.now a.i) ≡ None) = cc in
    sym (bare_stays a.t.now (goes a.g) a.i none)
