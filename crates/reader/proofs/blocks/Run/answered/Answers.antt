-- The call is as its contract says, and there is room for the line.
use native.Mathlib.Omega.{arith}
use Prim.Native.Nat.{◌+◌, ◌≤◌}
use lib.ListN.{length}
use Rattle.records.specs.Lines.{line_text}
use Rattle.records.specs.Laws.Writing.{short_line}
use Rattle.reader.specs.Laws.Blocks.{text_stands, call_stands}
use Rattle.reader.proofs.blocks.Run.answered.Goals as goal

pub returns : goal.returns
returns c =
    let line = c.line-at in
    let core = c.core-answer in
    let args = c.args in
    let pre = c.requires in
    let n = args.self.done + 1 in
    let text = line_text n args.order.op core.result.refusal core.result.value core.result.place in
    let short : length text ≤ 64 =
    short_line n args.order.op core.result.refusal core.result.value core.result.place
    (omega arith) (omega arith) (omega arith) (omega arith) in
    let (more, fits) = text_stands args.self args.out.now line.new.out line.result text pre.fits short line.ensures in (
      call_stands args.self args.order args.out.now args.working.now args.kept.now
          line.new.out core.new.working core.new.kept core.result line.result core.ensures more,
      record { short = fits; one = omega arith },
    )
