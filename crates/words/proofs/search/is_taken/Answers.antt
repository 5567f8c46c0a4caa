use mathlib.Core.Path.{ap, ◌∙◌, refl}
use mathlib.Core.Bool.{Bool}
use Prim.Native.Nat.{ℕ}
use Rattle.std.proofs.Common.{rules, arith}
use Rattle.std.proofs.lemmas.Iterator.{YieldsList-from_range}
use Rattle.std.proofs.lemmas.Iterator.Search.{any_from_yields_List}
use Rattle.words.specs.Fields.{is_named}
use Rattle.words.specs.Entries.{word_of}
use Rattle.words.proofs.Chains.{any_counted, any_present}
use Rattle.words.proofs.search.is_taken.Goals as goal

pub returns : goal.returns
returns c =
    let a = c.args in
    let n = c.present.result in
    let named : ℕ → Bool = λ (i : ℕ). is_named (word_of a.t.now a.kind i 0) a.repository a.name in
    any_from_yields_List named _ _ _ c.any.ensures.ran (YieldsList-from_range 0 n n refl (omega arith)) (λ x b q k. search rules)
    ∙ any_counted named n
    ∙ any_present a.t.now a.kind n named c.present.ensures.1 (λ j e. ap (λ (w : ℕ). is_named w a.repository a.name) e)
