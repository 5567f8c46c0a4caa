use Rattle.std.proofs.Common.{refl}
use Rattle.logic.specs.Search.{all_b}
use Rattle.tables.proofs.values.Words.has_no_value.Goals as goal

pub returns : goal.returns
unfolding all_b
returns c = refl
