-- The first sixteen bytes say the fields.
use native.Mathlib.Omega.{arith}
use mathlib.Core.Path.{◌≡◌, sym, ◌∙◌}
use Rattle.records.specs.Records.{short_at}
use Rattle.records.specs.Laws.Records.{record_whole, record_front}
use Rattle.records.proofs.decoding.decode.Goals as goal

pub returns : goal.returns
returns c =
    let head = c.in_ok-head.head.now in
    let cases = c.in_ok-head.ensures.cases in
    let op : c.into.result ≡ short_at head 2 = omega arith in
    let whole = record_whole head (omega arith) (omega arith) (omega arith) in
    let front = record_front c.args.part.now head (omega (arith, cases.2)) cases.0 in
    rw (op, c.long.ensures, c.long-2.ensures, c.long-3.ensures) (sym whole ∙ front)
