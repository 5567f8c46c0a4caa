-- The machine's count of ones is the length of the list of members.
use Rattle.words.specs.Laws.Sets.{size_is_ones}
use Rattle.words.proofs.sets.size.Goals as goal

pub returns : goal.returns
returns c = size_is_ones c.args.set c.ranges.set.fits
