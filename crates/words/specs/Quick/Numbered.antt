-- The number of an entry, where the kind has one.
use Rattle.std.specs.Prelude.{ℕ, cond, ltb, Option, Some, None}
use Rattle.words.specs.declared.layout.Kind.{Kind}
use Rattle.words.specs.Layout.{count_of}

abbrev pub numbered : Kind → ℕ → Option ℕ
numbered kind n = cond (ltb n (count_of kind)) (Some n) None
