-- `subtype` goes up as the definition does, and ends because a parent's number is lower: the measure is the type's number.
use Rattle.dictionary.proofs.parents.+subtype.Given as goal

abbrev pub decreases-subtype : goal.decreases-subtype
decreases-subtype l = l.a
