use mathlib.Core.Path.{◌≡◌, refl, ◌∙◌}
use Rattle.std.specs.Prelude.{Bool, true, false, cond, ltb, ℕ, Some, None}
use Rattle.std.specs.Bool.{then_some}
use borrow.Author.Tests.{lt-ltb}
use native.Mathlib.Omega.{arith}
use Prim.Native.Nat.{◌<◌}
use Rattle.words.specs.Layout.{count_of}
use Rattle.words.specs.Entries.{free_at, first_free}
use Rattle.logic.specs.Laws.Search.{first_hit, first_miss}
use Rattle.words.specs.Laws.Present.{first_present}
use Rattle.words.proofs.search.first_free.Goals as goal

pub returns-then-is_free : goal.returns-then-is_free
returns-then-is_free c =
    let a = c.args in
    let the_loop = c.loop-i in
    let l : the_loop.i < count_of a.kind = omega (arith, c.present-n.ensures.1.within) in
    rw (the_loop.invariant.same ∙ first_hit (free_at a.t.now a.kind) (count_of a.kind) the_loop.i l cc, lt-ltb the_loop.i (count_of a.kind) l)

pub loop-i-preserved : goal.loop-i-preserved
loop-i-preserved c =
    let a = c.args in
    let the_loop = c.loop-i in
    record {
      below = omega arith;
      same = the_loop.invariant.same ∙ first_miss (free_at a.t.now a.kind) (count_of a.kind) the_loop.i (omega (arith, c.present-n.ensures.1.within)) cc;
    }

same_some : (b : Bool) (n : ℕ) → then_some b n ≡ cond b (Some n) None
same_some true n = refl
same_some false n = refl

pub returns : goal.returns
returns c =
    let a = c.args in
    let e : c.loop-i.i ≡ c.max-behind.result = omega (arith, c.max-behind.ensures) in
    let f : first_free a.t.now a.kind a.from ≡ c.max-behind.result = c.loop-i.invariant.same ∙ first_present a.t.now a.kind c.present-n.result c.loop-i.i c.present-n.ensures.1 c.loop-i-test.false ∙ e in
    rw (f, ← c.count.ensures) (c.then_some.ensures ∙ same_some (ltb c.max-behind.result c.count.result) c.max-behind.result)
