use mathlib.Core.Path.{ap, ◌∙◌, sym}
use Prim.Native.Nat.{ℕ}
use lib.ListN.{take}
use lib.Dec.{eqb}
use Rattle.std.proofs.Common.{rules}
use Rattle.std.proofs.lemmas.Iterator.{YieldsList-from_slice, YieldsList-from_zip}
use Rattle.std.proofs.lemmas.Iterator.Consumers.{fold_from_yields_List}
use Rattle.words.specs.Layout.{words}
use Rattle.words.proofs.Chains.{gathered, none_gathered}
use Rattle.words.specs.Laws.Copies.{both_long}
use Rattle.words.proofs.copies.agree.Goals as goal

pub returns : goal.returns
returns c =
    let a = c.args in
    ap (λ (d : ℕ). eqb d 0)
    (fold_from_yields_List _ gathered 0 _ c.fold.ensures.ran (YieldsList-from_zip (YieldsList-from_slice (take words a.a.now) cc) (YieldsList-from_slice (take words a.b.now) cc))
    (λ d x r q k. search rules))
    ∙ none_gathered a.a.now a.b.now words c.if-a-lt-WORDS.false c.if-b-lt-WORDS.false
    ∙ sym (both_long a.a.now a.b.now c.if-a-lt-WORDS.false c.if-b-lt-WORDS.false)
