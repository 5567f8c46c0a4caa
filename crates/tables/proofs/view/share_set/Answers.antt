use mathlib.Core.Path.{refl, ap, ◌∙◌}
use mathlib.Core.Bool.{Bool, ◌&&◌}
use Prim.Native.Nat.{ℕ}
use Rattle.std.proofs.Common.{rules, arith}
use Rattle.std.proofs.lemmas.Iterator.{YieldsList-from_range}
use Rattle.std.proofs.lemmas.Iterator.Search.{any_from_yields_List}
use Rattle.logic.specs.Search.{any_b}
use Rattle.words.specs.Sets.{has}
use Rattle.tables.specs.View.{set_at, share_set}
use Rattle.words.proofs.Chains.{any_counted}
use Rattle.tables.proofs.view.share_set.Goals as goal

pub returns : goal.returns
unfolding share_set
returns c =
    let a = c.args in
    let n = c.count.result in
    let in_both : ℕ → Bool = λ (s : ℕ). has (set_at a.t.now s) a.m && has (set_at a.t.now s) a.n in
    any_from_yields_List in_both _ _ _ c.any.ensures.ran (YieldsList-from_range 0 n n refl (omega arith)) (λ x b q k. search rules)
    ∙ any_counted in_both n
    ∙ ap (λ (n : ℕ). any_b n in_both) c.count.ensures
