-- The mark is the shape's, and it decides (`pointer_by_mark`).
use mathlib.Core.Path.{◌≡◌}
use mathlib.Core.Bool.{cond}
use Prim.Native.Nat.{ℕ}
use lib.Bits.{bit_and}
use lib.Dec.{eqb}
use borrow.Author.Tests.{eq-eqb, ne_eqb}
use Rattle.std.proofs.Common.{Some, None}
use Rattle.words.specs.Fields.{type_in}
use Rattle.dictionary.specs.Quick.Shapes.{shape_of, mark_in}
use Rattle.tables.specs.Quick.Pointers.{pointer_in, second}
use Rattle.tables.specs.Laws.Pointers.{pointer_by_mark}
use Rattle.tables.proofs.pointers.pointer_in.Goals as goal

by_mark : (h mark : ℕ) → mark ≡ mark_in (shape_of (type_in h)) → cond (eqb (bit_and h mark) 0) None (Some (cond (eqb mark second) 1 2)) ≡ pointer_in h
by_mark h mark e = rw e (pointer_by_mark h)

pub returns-then-header-mark-eq0 : goal.returns-then-header-mark-eq0
returns-then-header-mark-eq0 c =
    let asked = by_mark c.args.header c.mark_in-mark.result (rw (c.mark_in-mark.ensures, c.shape.ensures, c.type_in.ensures)) in
    rw (eq-eqb _ 0 c.if-header-mark-eq0.true) at asked

pub returns-then-mark-eq-SECOND : goal.returns-then-mark-eq-SECOND
returns-then-mark-eq-SECOND c =
    let asked = by_mark c.args.header c.mark_in-mark.result (rw (c.mark_in-mark.ensures, c.shape.ensures, c.type_in.ensures)) in
    rw (ne_eqb _ 0 c.if-header-mark-eq0.false, eq-eqb _ second c.if-mark-eq-SECOND.true) at asked

pub returns-else-mark-eq-SECOND : goal.returns-else-mark-eq-SECOND
returns-else-mark-eq-SECOND c =
    let asked = by_mark c.args.header c.mark_in-mark.result (rw (c.mark_in-mark.ensures, c.shape.ensures, c.type_in.ensures)) in
    rw (ne_eqb _ 0 c.if-header-mark-eq0.false, ne_eqb _ second c.if-mark-eq-SECOND.false) at asked
