-- The machine's `or` with one bit adds that bit where it was absent.
use borrow.Author.Tests.{lt-ltb}
use Rattle.words.specs.Laws.Sets.{one_shifted, or_bit}
use Rattle.words.proofs.sets.with.Goals as goal

pub returns-then-m-lt-BITS : goal.returns-then-m-lt-BITS
returns-then-m-lt-BITS c = rw (lt-ltb c.args.m 64 c.if-m-lt-BITS.true, one_shifted c.args.m c.if-m-lt-BITS.true) (or_bit c.args.set c.args.m)
