use mathlib.Core.Path.{refl, ap, ◌∙◌}
use Prim.Native.Nat.{ℕ}
use Rattle.std.proofs.Common.{rules, arith}
use Rattle.std.proofs.lemmas.Iterator.{YieldsList-from_range}
use Rattle.std.proofs.lemmas.Iterator.Search.{all_from_yields_List}
use Rattle.logic.specs.Search.{all_b}
use Rattle.tables.specs.Sound.{sound_group}
use Rattle.tables.proofs.Chains.{all_counted}
use Rattle.tables.proofs.sound.Table.sound_groups.Goals as goal

pub returns : goal.returns
returns c =
    let f = sound_group c.args.self.words.now in
    let n = c.count.result in
    all_from_yields_List f _ _ _ c.all.ensures.ran (YieldsList-from_range 0 n n refl (omega arith)) (λ x b q k. search rules)
    ∙ all_counted f n ∙ ap (λ (n : ℕ). all_b n f) c.count.ensures
