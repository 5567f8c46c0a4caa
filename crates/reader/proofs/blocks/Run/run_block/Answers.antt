use borrow.Author.Tests.{not-true, not-false}
use native.Mathlib.Omega.{arith}
use mathlib.Core.Path.{sym, ap, ◌∙◌}
use Prim.Native.Nat.{ℕ, min}
use lib.ListN.{length}
use Rattle.std.specs.Slice.Iter.{chunks_rest}
use Rattle.reader.specs.Blocks.{here}
use Rattle.reader.specs.Laws.Blocks.{bytes_none, chunk_last, chunk_whole, chunk_more}
use Rattle.reader.proofs.blocks.Run.run_block.Goals as goal

pub returns-then-not-run : goal.returns-then-not-run
returns-then-not-run c =
    let taken = c.taken-run in
    let loop = c.loop-part in
    let now = here loop.run loop.out loop.working loop.kept in
    let next = here taken.result taken.new.out taken.new.working taken.new.kept in
    let bytes = chunks_rest loop.part-iterator in
    let cut = c.in-Some.ensures.steps.1 in
    let cut_at = cut.1 ∙ ap (λ (k : ℕ). min k (length bytes)) loop.invariant.0 in
    let part = c.in-Some.part.now in
    let rest = chunks_rest c.next.new.self in
    let last = chunk_last bytes part rest now next cut.0 cut_at cut.2 taken.ensures.0 (not-true _ c.if-not-run.true) in
    (last ∙ loop.invariant.1, omega (arith, taken.ensures.1.short), omega (arith, taken.ensures.1.one))

pub loop-part-preserved : goal.loop-part-preserved
loop-part-preserved c =
    let taken = c.taken-run in
    let loop = c.loop-part in
    let now = here loop.run loop.out loop.working loop.kept in
    let next = here taken.result taken.new.out taken.new.working taken.new.kept in
    let bytes = chunks_rest loop.part-iterator in
    let cut = c.in-Some.ensures.steps.1 in
    let cut_at = cut.1 ∙ ap (λ (k : ℕ). min k (length bytes)) loop.invariant.0 in
    let part = c.in-Some.part.now in
    let rest = chunks_rest c.next.new.self in
    let on = not-false _ c.if-not-run.false in
    let whole = chunk_whole bytes part rest now next cut.0 cut_at cut.2 taken.ensures.0 on in
    let more = chunk_more bytes part rest now next cut.0 cut_at cut.2 taken.ensures.0 on in
    (c.in-Some.ensures.steps.0 ∙ loop.invariant.0, more ∙ loop.invariant.1, omega (arith, taken.ensures.1.short), omega (arith, taken.ensures.1.one))

pub returns : goal.returns
returns c =
    let loop = c.loop-part in
    let rest = chunks_rest loop.part-iterator in
    (sym (bytes_none rest (here loop.run loop.out loop.working loop.kept) c.in-None.ensures.steps.1.0) ∙ loop.invariant.1, omega arith, omega arith)
