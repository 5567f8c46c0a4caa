-- The whole records are run where they stand, and what is left of the bytes is moved to the front.
use native.Mathlib.Omega.{arith}
use mathlib.Core.Path.{refl}
use Prim.Native.Nat.{◌+◌, ◌-◌, ◌%◌}
use Rattle.std.proofs.Common.{length-take}
use Rattle.records.specs.Records.{size}
use Rattle.reader.specs.Blocks.{here}
use Rattle.reader.specs.Laws.Reads.{read_stands}
use Rattle.reader.proofs.reads.Stand.run_read.Goals as goal

pub returns : goal.returns
returns c =
    let carry = c.carry in
    let run_block = c.run_block-run in
    let args = c.args in
    let have = args.self.held + args.got in
    let whole = length-take (have - have % size) args.block.now in
    let start = here args.self.run args.out.now args.working.now args.kept.now in
    let next = here run_block.result run_block.new.out run_block.new.working run_block.new.kept in (
      read_stands args.block.now carry.new.block args.self.held args.got _ _ start next (omega arith) refl refl run_block.ensures.0 carry.ensures,
      omega arith,
      omega (arith, run_block.ensures.1, whole),
      omega (arith, run_block.ensures.2),
    )
