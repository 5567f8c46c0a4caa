use Rattle.tables.specs.Sound.{same_name}
use mathlib.Core.Path.{◌≡◌, refl, sym, ap, ◌∙◌}
use Prim.Native.Nat.{ℕ, ◌-◌, ◌<◌}
use native.Mathlib.Omega.{arith}
use lib.ListN.{get_or}
use borrow.Author.Tests.{eq-eqb, ne_eqb}
use mathlib.Core.List.{List}
use Rattle.words.specs.declared.layout.Kind.{Kind}
use Rattle.words.specs.Layout.{count_of, place_of}
use Rattle.words.specs.Sets.{bits}
use Rattle.tables.specs.View.{label_at}
use Rattle.tables.specs.Laws.Names.{walk_start, walk_next, walk_found, walk_end}
use Rattle.tables.specs.Laws.Labels.{first_word, none_passed, free_passed, label_passed, all_passed, no_label, not_new}
use Rattle.tables.proofs.labels.test_labels.Goals as goal
use Rattle.tables.proofs.labels.test_labels.Goals.{then-label-ne0+else-not-is_label+else-loop-met-test, else-label-ne0}

label_read : (t : List ℕ) (kind : Kind) (i at : ℕ) → i < count_of kind → at ≡ place_of kind i → label_at t kind i ≡ get_or t at 0
label_read t kind i at below e = first_word t kind i below ∙ ap (λ (x : ℕ). get_or t x 0) (sym e)

pub loop-i-init : goal.loop-i-init
loop-i-init c =
    let a = c.args in
    rw c.nobody-live.ensures (none_passed a.t.now a.kind _ refl)

pub returns-then-not-is_label : goal.returns-then-not-is_label
returns-then-not-is_label c =
    let a = c.args in
    let the_loop = c.loop-i in
    let below : c.loop-i.i < count_of a.kind = omega arith in
    let here = label_read a.t.now a.kind c.loop-i.i c.place.result below c.place.ensures in
    no_label a.t.now a.kind the_loop.i below (rw here (ne_eqb _ _ c.if-label-ne0.true))
    (rw here (sym c.is_label.ensures ∙ c.if-not-is_label.true))

pub loop-met-init : goal.loop-met-init
loop-met-init c =
    let a = c.args in
    let the_loop = c.loop-i in
    let below : c.loop-i.i < count_of a.kind = omega arith in
    let here = label_read a.t.now a.kind c.loop-i.i c.place.result below c.place.ensures in
    walk_start a.t.now a.kind the_loop.i _ (rw (here, ← c.chain-b.ensures) (the_loop.invariant.chained.heads c.chain-b.result (omega (arith, c.chain-b.ensures))))

pub returns-then-same_name : goal.returns-then-same_name
returns-then-same_name c =
    let a = c.args in
    let the_loop = c.loop-i in
    let the_loop2 = c.loop-met in
    let the_loop2_test = c.loop-met-test in
    let below : c.loop-i.i < count_of a.kind = omega arith in
    let here = label_read a.t.now a.kind c.loop-i.i c.place.result below c.place.ensures in
    let met_below : c.loop-met.met - 1 < count_of a.kind = omega (arith, c.loop-met.invariant.below, below) in
    let met_here = label_read a.t.now a.kind (c.loop-met.met - 1) c.place-in-loop-met.result met_below c.place-in-loop-met.ensures in
    let tested : (same_name (label_at a.t.now a.kind the_loop.i) (label_at a.t.now a.kind (the_loop2.met - 1)) ≡ c.same_name.result) = rw (here, met_here) (sym c.same_name.ensures) in
    not_new a.t.now a.kind the_loop.i below
    (walk_found a.t.now a.kind the_loop.i the_loop2.met the_loop.before the_loop.invariant.chained.links the_loop2.invariant
    the_loop2_test.true (tested ∙ c.if-same_name.true))

pub loop-met-preserved : goal.loop-met-preserved
loop-met-preserved c =
    let a = c.args in
    let the_loop = c.loop-i in
    let the_loop2 = c.loop-met in
    let the_loop2_test = c.loop-met-test in
    let below : c.loop-i.i < count_of a.kind = omega arith in
    let here = label_read a.t.now a.kind c.loop-i.i c.place.result below c.place.ensures in
    let met_below : c.loop-met.met - 1 < count_of a.kind = omega (arith, c.loop-met.invariant.below, below) in
    let met_here = label_read a.t.now a.kind (c.loop-met.met - 1) c.place-in-loop-met.result met_below c.place-in-loop-met.ensures in
    let tested : (same_name (label_at a.t.now a.kind the_loop.i) (label_at a.t.now a.kind (the_loop2.met - 1)) ≡ c.same_name.result) = rw (here, met_here) (sym c.same_name.ensures) in
    walk_next a.t.now a.kind the_loop.i the_loop2.met the_loop.before the_loop.invariant.chained.links the_loop2.invariant the_loop2_test.true (tested ∙ c.if-same_name.false)

pub loop-i-preserved : goal.loop-i-preserved
loop-i-preserved c =
    let a = c.args in
    let the_loop = c.loop-i in
    let below : c.loop-i.i < count_of a.kind = omega arith in
    let few : c.loop-i.i < bits = omega (arith, below, c.requires) in
    let here = label_read a.t.now a.kind c.loop-i.i c.place.result below c.place.ensures in
    elim c.if-label-ne0.branch [
      | then-label-ne0+else-not-is_label+else-loop-met-test w ↦ rw (w.last-is, w.before-is, w.live-is, w.joined-live.ensures, w.schema_in.ensures, w.chain-b.ensures)
          (label_passed a.t.now a.kind the_loop.last the_loop.before the_loop.live the_loop.i the_loop.invariant few _ here
          (sym w.is_label.ensures ∙ w.if-not-is_label.false) (walk_end a.t.now a.kind the_loop.i _ w.loop-met.invariant w.loop-met-test.false))
      | else-label-ne0 w ↦ rw (w.last-is, w.before-is, w.live-is) (free_passed a.t.now a.kind the_loop.last the_loop.before the_loop.live the_loop.i the_loop.invariant
          (rw here (eq-eqb _ _ w.if-label-ne0.false)))
    ]

pub returns : goal.returns
returns c =
    let a = c.args in
    all_passed a.t.now a.kind c.loop-i.last c.loop-i.before c.loop-i.live c.loop-i.i c.loop-i.invariant (omega arith)
