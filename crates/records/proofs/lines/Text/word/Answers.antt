-- The word goes over what stood there, and the blank right behind it.
use native.Mathlib.Omega.{arith}
use Prim.Native.Nat.{◌+◌}
use Rattle.records.specs.Lines.{blank}
use Rattle.records.specs.Laws.Writing.{byte_behind, put_over}
use Rattle.records.proofs.lines.Text.word.Goals as goal

pub returns-clause-wrote : goal.returns-clause-wrote
returns-clause-wrote c =
    let text = c.args.self.now in
    let word = c.args.word.now in
    let put = put_over text.out.now text.at (text.at + 3) word (omega arith) in
    rw (c.copy_from_slice.ensures.after) (rw c.told-word at (byte_behind text.out.now text.at word blank (omega arith) put))
