-- What the bytes that are left do to the run as it is now is what all of them do to the run at the start.
use mathlib.Core.Path.{◌≡◌}
use Prim.Native.Nat.{◌≤◌, ◌+◌, ◌*◌}
use lib.ListN.{length}
use Rattle.std.specs.Slice.Iter.{chunks_rest, chunks_size}
use Rattle.records.specs.Records.{size}
use Rattle.reader.specs.Blocks.{here, after_bytes}
use Rattle.reader.proofs.blocks.Run.run_block.Given as goal

abbrev pub invariant-loop-part : goal.invariant-loop-part
invariant-loop-part l =
    let rest = chunks_rest l.part-iterator in
    (chunks_size l.part-iterator ≡ size)
    × (after_bytes rest (here l.run l.out l.working l.kept) ≡ after_bytes l.bytes (here l.initial.run l.initial.out l.initial.working l.initial.kept))
    × (l.run.at + 4 * length rest ≤ l.initial.run.at + 4 * length l.bytes)
    × (16 * l.run.done + length rest ≤ 16 * l.initial.run.done + length l.bytes)
