use mathlib.Core.Path.{ap, ◌∙◌}
use Prim.Native.Nat.{ℕ}
use lib.ListN.{take}
use lib.Dec.{eqb}
use Rattle.std.proofs.Common.{rules, arith}
use Rattle.std.proofs.lemmas.Iterator.{YieldsList-from_slice, YieldsList-from_zip}
use Rattle.std.proofs.lemmas.Iterator.Consumers.{fold_from_yields_List}
use Rattle.logic.specs.Search.{all_b}
use Rattle.words.specs.Copies.{same_at}
use Rattle.words.proofs.Chains.{gathered, none_gathered}
use Rattle.tables.proofs.sound.same_entries.Goals as goal

pub returns : goal.returns
returns c =
    let a = c.args in
    let n = c.base-n.result in
    ap (λ (d : ℕ). eqb d 0)
    (fold_from_yields_List _ gathered 0 _ c.fold.ensures.ran (YieldsList-from_zip (YieldsList-from_slice (take n a.a.now) cc) (YieldsList-from_slice (take n a.b.now) cc))
    (λ d x r q k. search rules))
    ∙ none_gathered a.a.now a.b.now n (omega arith) (omega arith)
    ∙ ap (λ (n : ℕ). all_b n (same_at a.a.now a.b.now)) c.base-n.ensures
