-- The first word alone can decide; else all words gathered are 0 exactly if each is.
use mathlib.Core.Path.{sym, ap, ◌∙◌}
use Prim.Native.Nat.{ℕ}
use lib.ListN.{take, get_or}
use lib.Bits.{bit_or}
use lib.Dec.{eqb}
use borrow.Author.Tests.{ne_eqb}
use Rattle.std.proofs.Common.{rules, arith}
use Rattle.std.proofs.lemmas.Iterator.{YieldsList-from_slice}
use Rattle.std.proofs.lemmas.Iterator.Consumers.{fold_from_yields_List}
use Rattle.words.specs.declared.layout.Kind.TheVariants.{Instance}
use Rattle.words.specs.Layout.{base_of}
use Rattle.logic.specs.Search.{all_b}
use Rattle.logic.specs.Laws.Search.{all_stop}
use Rattle.tables.proofs.Chains.{zeros_gathered}
use Rattle.tables.proofs.sound.is_blank.Goals as goal

pub returns-then-t-eq0 : goal.returns-then-t-eq0
returns-then-t-eq0 c =
    let t = c.args.t.now in
    let n = c.base.result in
    ap (λ (d : ℕ). eqb d 0) (fold_from_yields_List _ bit_or 0 _ c.fold.ensures.ran (YieldsList-from_slice (take n t) cc) (λ d x r q k. search rules))
    ∙ zeros_gathered t n (omega arith)
    ∙ ap (λ (n : ℕ). all_b n (λ (i : ℕ). eqb (get_or t i 0) 0)) c.base.ensures

pub returns-else-t-eq0 : goal.returns-else-t-eq0
returns-else-t-eq0 c =
    let t = c.args.t.now in
    ne_eqb _ 0 c.if-t-eq0.false ∙ sym (all_stop (base_of Instance) (λ (i : ℕ). eqb (get_or t i 0) 0) 0 (omega arith) (ne_eqb _ 0 c.if-t-eq0.false))
