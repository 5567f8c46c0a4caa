-- Each single number is a row of the list. A number of no case is below, between or past those of the list.
use mathlib.Core.Path.{◌≡◌, refl, sym}
use mathlib.Core.Bool.{false, ◌&&◌, ◌||◌}
use mathlib.Core.List.{List, [], ◌∷◌}
use Prim.Native.Nat.{ℕ}
use native.Mathlib.Omega.{arith}
use lib.Dec.{leb}
use borrow.Author.Tests.{lt-leb}
use Rattle.logic.specs.Search.{all_in}
use Rattle.logic.specs.Laws.Bools.{and_ended}
use Rattle.dictionary.proofs.Arms.{NoneOf, among, none_among}
use Rattle.checks.specs.declared.operations.Operation.TheVariants.{Unlisted}
use Rattle.checks.specs.Operations.{operation_of}
use Rattle.checks.specs.Laws.Operations.{the_list, unlisted}
use Rattle.checks.proofs.operations.operation_of.Goals as goal

-- the single numbers of the `match`, the last first
abbrev keys : List ℕ
keys = 46 ∷ 45 ∷ 44 ∷ 43 ∷ 42 ∷ 41 ∷ 40 ∷ 25 ∷ 24 ∷ 23 ∷ 22 ∷ 21 ∷ 20 ∷ 13 ∷ 12 ∷ 11 ∷ 10 ∷ 9 ∷ 8 ∷ 7 ∷ 6 ∷ 5 ∷ 4 ∷ 3 ∷ 2 ∷ 1 ∷ []

-- where a number is none of them and not from 30 to 33
outside : (n : ℕ) → NoneOf keys n → (leb 30 n && leb n 33) ≡ false → operation_of n ≡ Unlisted
unfolding the_list all_in among
outside n none range = unlisted (λ i. among keys i || (leb 30 i && leb i 33)) refl n (rw (none_among keys n none) range)

pub returns-in-20-to-45 : goal.returns-in-20-to-45
returns-in-20-to-45 c =
    let n = c.args.number in
    sym (outside n c.in-20-to-45.in_default-own.rest (rw (lt-leb 30 n c.in-20-to-45.if-number-lt30-own.true)))

pub returns-in-20-to-45-2 : goal.returns-in-20-to-45-2
returns-in-20-to-45-2 c =
    let n = c.args.number in
    sym (outside n c.in-20-to-45.in_default-own.rest (and_ended (leb 30 n) _ (lt-leb n 33 c.in-20-to-45.if-number-lt34-own.false)))

pub returns-in_default : goal.returns-in_default
returns-in_default c =
    let n = c.args.number in
    sym (outside n c.in_default.in_default-own.rest (rw (lt-leb 30 n (omega (arith, c.in_default.if-number-lt20-own.true)))))

pub returns-in_default-2 : goal.returns-in_default-2
returns-in_default-2 c =
    let n = c.args.number in
    sym (outside n c.in_default.in_default-own.rest (and_ended (leb 30 n) _ (lt-leb n 33 c.in_default.if-number-lt34-own.false)))
