-- All fit exactly if all are sound (`instances_by_parts`).
use mathlib.Core.Path.{refl, ap, ◌∙◌}
use Prim.Native.Nat.{ℕ}
use Rattle.std.proofs.Common.{rules, arith}
use Rattle.std.proofs.lemmas.Iterator.{YieldsList-from_range}
use Rattle.std.proofs.lemmas.Iterator.Search.{all_from_yields_List}
use Rattle.logic.specs.Search.{all_b}
use Rattle.tables.specs.Quick.Values.{instance_fits}
use Rattle.tables.specs.Laws.Live.{live_told}
use Rattle.tables.specs.Laws.Values.{instances_by_parts}
use Rattle.tables.proofs.Chains.{all_counted}
use Rattle.tables.proofs.sound.Table.sound_instances.Goals as goal

pub returns : goal.returns
returns c =
    let a = c.args in
    let f = instance_fits a.self.words.now a.self.models in
    let n = c.count.result in
    all_from_yields_List f _ _ _ c.all.ensures.ran (YieldsList-from_range 0 n n refl (omega arith)) (λ x b q k. search rules)
    ∙ all_counted f n ∙ ap (λ (n : ℕ). all_b n f) c.count.ensures ∙ instances_by_parts a.self.words.now a.self.models (live_told a.self.words.now a.self.models a.self.told)
