use mathlib.Core.Path.{sym, ◌∙◌, ap}
use Prim.Native.Nat.{ℕ}
use Rattle.dictionary.specs.Subtype as spec
use Rattle.dictionary.proofs.Laws.Subtypes.{subtype_up, subtype_root, subtype_same}
use Rattle.dictionary.specs.Laws.Types.{parent_lower}
use Rattle.dictionary.proofs.parents.+subtype.Goals as goal

pub returns-then-a-b : goal.returns-then-a-b
returns-then-a-b t c =
    let b = c.args.b in
    sym (ap (λ (x : ℕ). spec.subtype x b) c.if-a-b.true ∙ subtype_same b)

pub subtype-requires : goal.subtype-requires
subtype-requires t c = (rw c.decreases at (parent_lower c.args.a c.in-Some.p (sym c.parent.ensures ∙ c.in-Some.is)), tt)

pub returns-in-Some : goal.returns-in-Some
returns-in-Some t c =
    c.subtype.ensures ∙ sym (subtype_up c.args.a c.args.b c.in-Some.p c.if-a-b.false (sym c.parent.ensures ∙ c.in-Some.is))

pub returns-in-None : goal.returns-in-None
returns-in-None t c = sym (subtype_root c.args.a c.args.b c.if-a-b.false (sym c.parent.ensures ∙ c.in-None.is))
