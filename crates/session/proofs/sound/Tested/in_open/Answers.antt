-- There are as many labels as a set has bits, and label m is that of model m.
use mathlib.Core.Path.{◌≡◌, refl, sym, subst, ◌∙◌}
use mathlib.Core.Bool.{true}
use mathlib.Core.List.{List}
use Prim.Native.Nat.{ℕ, ◌<◌, ◌≤◌}
use native.Mathlib.Omega.{arith}
use native.Mathlib.Numerals.{add-one}
use lib.ListN.{length, take, get_or}
use Rattle.std.proofs.lemmas.List.{length-take-le, get_or-take}
use Rattle.words.specs.declared.layout.Kind.TheVariants.{Model}
use Rattle.words.specs.Layout.{words, count_of}
use Rattle.words.specs.Entries.{word_of, formed}
use Rattle.words.specs.Sets.{bits, set_of}
use Rattle.tables.specs.View.{label_at}
use Rattle.logic.specs.Laws.Search.{all_at}
use Rattle.session.specs.Laws.Sound.{model_label}
use Rattle.session.proofs.sound.Tested.in_open.Goals as goal

many : (t : List ℕ) → words ≤ length t → length (take bits t) ≡ bits
many t long = length-take-le bits t (omega arith)

label_of : (t : List ℕ) (m : ℕ) → m < bits → label_at t Model m ≡ get_or (take bits t) m 0
label_of t m below = model_label t m below ∙ sym (get_or-take bits t m 0 below)

pub loop-m-init : goal.loop-m-init
unfolding set_of
loop-m-init c = refl

pub offset_bounds-label-items-m : goal.offset_bounds-label-items-m
offset_bounds-label-items-m c = omega (arith, many c.args.self.table.now c.args.self.long)

pub overflow_cast-m : goal.overflow_cast-m
overflow_cast-m c = omega (arith, many c.args.self.table.now c.args.self.long)

pub slice_bounds-label-items-end : goal.slice_bounds-label-items-end
slice_bounds-label-items-end c = omega (arith, many c.args.self.table.now c.args.self.long)

pub with_seen-set-requires : goal.with_seen-set-requires
with_seen-set-requires c =
    let t = c.args.self.table.now in
    let m = c.loop-m.m in
    let below : m < bits = omega (arith, many t c.args.self.long) in
    subst (λ (label : ℕ). formed Model label ≡ true) (label_of t m below)
    (all_at (count_of Model) (λ i. formed Model (word_of t Model i 0)) c.args.self.sound m below)

pub loop-m-preserved : goal.loop-m-preserved
unfolding set_of
loop-m-preserved c =
    let t = c.args.self.table.now in
    let below : c.loop-m.m < bits = omega (arith, many t c.args.self.long) in
    rw (add-one, c.with_seen-set.ensures, c.loop-m.invariant, label_of t c.loop-m.m below)

pub returns : goal.returns
returns c =
    let all : c.loop-m.m ≡ bits = omega (arith, many c.args.self.table.now c.args.self.long) in
    rw (← all) c.loop-m.invariant
