-- The machine's `and` keeps every member exactly if each is in the other set.
use Rattle.tables.specs.Laws.Live.{within_by_and}
use Rattle.tables.proofs.live.is_within.Goals as goal

pub returns : goal.returns
returns c = within_by_and c.args.set c.args.other c.ranges.set.fits
