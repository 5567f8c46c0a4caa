-- Which numbers name an operation.
use Rattle.std.specs.Prelude.{◌≡◌, refl, Bool, true, false, List, [], ◌∷◌, ℕ}
use Rattle.std.proofs.Common.{sym, ap, ◌∙◌, ne_eqb}
use Rattle.std.proofs.lemmas.Bool.{false≢true}
use Rattle.logic.specs.Search.{all_in}
use Rattle.logic.specs.Laws.Bools.{and_left, and_right}
use Rattle.checks.specs.declared.operations.Operation.TheVariants.{Unlisted}
use Rattle.checks.specs.Operations.{Numbered, listed, lookup, operation_of}

-- an `unfolding` line that names this opens the list
unfoldable pub the_list : Unit {0}
unfolding listed lookup operation_of
the_list = tt

-- a number is unlisted if it fails a test that every number of the list passes
pub unlisted : (listing : ℕ → Bool) → all_in (λ (row : Numbered). listing row.number) listed ≡ true → (n : ℕ) → listing n ≡ false → operation_of n ≡ Unlisted
unfolding operation_of lookup all_in
unlisted listing all n apart = in_none listed all
  where
    in_none : (rows : List Numbered) → all_in (λ (row : Numbered). listing row.number) rows ≡ true → lookup n rows ≡ Unlisted
    in_none [] e = refl
    in_none (row ∷ rows) e =
        rw (ne_eqb n row.number (λ same. false≢true (sym apart ∙ ap listing same ∙ and_left (listing row.number) _ e)))
        (in_none rows (and_right (listing row.number) _ e))
