-- The two cases of what the part begins with.
use mathlib.Core.Path.{ap, ◌∙◌}
use Rattle.std.specs.Prelude.{Option}
use Rattle.state.specs.declared.state.Order.{Order}
use Rattle.reader.specs.Blocks.{here, after_found}
use Rattle.reader.proofs.blocks.Run.taken.Goals as goal

pub returns-in-None : goal.returns-in-None
returns-in-None c =
    let args = c.args in
    let from = here args.self args.out.now args.working.now args.kept.now in
    let refused = c.refused in (
      refused.ensures.0 args.working.now args.kept.now ∙ ap (λ (f : Option Order). after_found f from) c.in-None.ensures,
      refused.ensures.1,
    )
