-- The instances that go with a deletion, as a set of numbers.
use Rattle.std.specs.Prelude.{ℕ, ◌+◌, ◌-◌, ◌%◌, Bool, false, Option, Some, None, cond, not, ◌&&◌, ◌||◌, List, eqb, ltb, is_none}
use Rattle.std.specs.Int.Bits.{bit_or}
use Rattle.words.specs.declared.layout.Kind.TheVariants.{Model, Instance}
use Rattle.words.specs.Layout.{count_of}
use Rattle.words.specs.Copies.{is_long}
use Rattle.words.specs.Sets.{bits, none, has, insert, set_of}
use Rattle.tables.specs.declared.going.Going.{Going}
use Rattle.tables.specs.View.{is_set, value_at}
use Rattle.tables.specs.Deletions.{goes_with}

-- a number is the one there may be
abbrev pub is_the : Option ℕ → ℕ → Bool
is_the None j = false
is_the (Some n) j = eqb j n

-- bit j of `low` for a number below 64, of `high` for those up to 127; past the last instance one number at most
abbrev pub goes : Going → ℕ → Bool
goes g j = cond (ltb j bits) (has g.low j) (cond (ltb j (count_of Instance)) (has g.high (j - bits)) (is_the g.beyond j))

-- a number may go, by its low bits
abbrev pub may_go : Going → ℕ → Bool
may_go g j = has (bit_or g.low g.high) (j % bits)

-- attribute k of instance i may refer to one that goes
abbrev pub may_refer : List ℕ → Going → ℕ → ℕ → Bool
may_refer t g i k = may_go g (value_at t i k) && is_set t i k

-- a reference stands second or third
abbrev pub may_change : List ℕ → Going → ℕ → Bool
may_change t g i = may_go g i || may_refer t g i 1 || may_refer t g i 2

-- no number past the last instance goes
abbrev pub is_near : Going → Bool
is_near g = is_none g.beyond

-- the sweep passes by instance i, which stays as it is (`passed_stays`)
abbrev pub is_passed : List ℕ → Going → ℕ → Bool
is_passed t g i = is_long t && is_near g && not (may_change t g i)

abbrev pub nothing : Going
nothing = record { low = none; high = none; beyond = None }

abbrev pub with_number : Going → ℕ → Going
with_number g j =
    cond (ltb j bits)
    (record { low = insert g.low j; high = g.high; beyond = g.beyond })
    (cond (ltb j (count_of Instance))
    (record { low = g.low; high = insert g.high (j - bits); beyond = g.beyond })
    (record { low = g.low; high = g.high; beyond = Some j }))

-- what goes with the deletion of instance i
abbrev pub one_going : ℕ → Going
one_going i = with_number nothing i

-- of the 64 instances from `from` on, those of model m
abbrev pub half_of : List ℕ → ℕ → ℕ → ℕ
half_of t m from = set_of bits (λ j. goes_with t Model m (from + j))

-- what goes with the deletion of model m
abbrev pub gathered : List ℕ → ℕ → Going
gathered t m = record { low = half_of t m 0; high = half_of t m bits; beyond = None }
