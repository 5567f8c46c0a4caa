-- Each early answer is a part of the definition that is false; else what the one reference names decides (`holds_told`).
use mathlib.Core.Path.{◌≡◌, sym, ap, ◌∙◌}
use Rattle.std.proofs.Common.{Some, None}
use Rattle.words.specs.Sets.{has}
use Rattle.tables.specs.View.{header_at, model_at}
use Rattle.tables.specs.Deletions.{goes_with}
use Rattle.tables.specs.Quick.Pointers.{pointer_in}
use Rattle.tables.specs.Laws.Deletions.{bare_holds, holds_told}
use Rattle.tables.proofs.deletions.holds_back.Goals as goal

pub returns-in_default : goal.returns-in_default
returns-in_default c =
    let a = c.args in
    let none : (pointer_in (header_at a.t.now a.i) ≡ None) = cc in
    sym (bare_holds a.t.now (goes_with a.t.now a.kind a.n) a.«rw» a.i none)

pub returns-then-not-goes_with : goal.returns-then-not-goes_with
returns-then-not-goes_with c =
    let a = c.args in
    let goes = goes_with a.t.now a.kind a.n in
    let access : (has a.«rw» (model_at a.t.now a.i) ≡ c.has.result) = sym (rw (c.model_in.ensures, c.first_word-header.ensures) at c.has.ensures) in
    let pointer : (pointer_in (header_at a.t.now a.i) ≡ Some c.in-Some.k) = cc in
    c.goes_with-then-not-goes_with.ensures ∙ ap goes c.value_at.ensures
    ∙ sym (holds_told a.t.now goes a.«rw» a.i c.in-Some.k pointer (ap goes (sym c.from.ensures) ∙ sym c.goes_with.ensures ∙ c.if-not-goes_with.true) (access ∙ c.if-has.false))
