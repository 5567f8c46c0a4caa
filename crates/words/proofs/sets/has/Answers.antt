-- Below 64 the shift is the division of the definition; above, a word has no bit.
use mathlib.Core.Path.{sym}
use borrow.Author.Tests.{le-ltb}
use Rattle.words.specs.Laws.Sets.{has_past}
use Rattle.words.proofs.sets.has.Goals as goal

pub returns-else-m-lt-BITS : goal.returns-else-m-lt-BITS
returns-else-m-lt-BITS c = let l = c.if-m-lt-BITS.false in rw (le-ltb c.args.m 64 l) (sym (has_past c.args.set c.args.m c.ranges.set.fits l))
