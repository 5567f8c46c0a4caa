-- The condition is the definition's, each part by its function's contract.
use mathlib.Core.Path.{sym}
use Rattle.dictionary.proofs.Laws.Attributes.{attribute_lacks}
use Rattle.checks.proofs.conditions.lacks_attribute.Goals as goal

pub returns : goal.returns
returns c = rw (c.attributes.ensures, c.type_in.ensures) (sym (attribute_lacks _ c.args.k))
