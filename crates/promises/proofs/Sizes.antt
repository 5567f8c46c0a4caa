-- Who always invents the set size invents it once: a run has a done 32 and a done 33.
use Rattle.std.proofs.Math.Path.{◌≡◌, refl, ap}
use Rattle.std.specs.Prelude.{true, ℕ, drop}
use mathlib.Core.List.{List, [], ◌∷◌, reverse}
use Rattle.logic.specs.Search.{first_from, all_b, any_b, all_in, kept_from}
use Rattle.words.specs.Sets.{insert, remove, members}
use Rattle.words.specs.Entries.{filled, next_free}
use Rattle.dictionary.specs.Dictionary.{the_table}
use Rattle.tables.specs.Changes.{apply}
use Rattle.state.specs.Refusals.{done}
use Rattle.checks.specs.Operations.{listed, lookup, operation_of}
use Rattle.checks.specs.Checks.{first_of}
use Rattle.session.specs.Rows.{refusal_of}
use Rattle.session.specs.Step.{core}
use Rattle.session.specs.Runs.{Call, call, Answered, fresh_table, fresh_chip, Machine, outcome_by, after_by, history_by}
use Rattle.promises.specs.Possible.{possible, possible_by}
use Rattle.promises.specs.Records.{◌gives◌, asked, AsGiven}
use Rattle.promises.proofs.Records.{computed}
use Rattle.promises.specs.Wrong.{Meets, InventsASize, InventsSizes}
use Rattle.promises.proofs.Wrong.{possible_run, back, earlier, as_given, here, not_inventing_a_size, not_inventing_a_size_left}

-- seven calls, the last two of which add a model to a set and take it out
abbrev seven_records : List Answered
seven_records =
    call 1 0 0 0 gives (0, 0, 0)
    ∷ call 3 0 0 0 gives (0, 0, 0)
    ∷ call 5 0 0 0 gives (0, 0, 0)
    ∷ call 20 0 1 7 gives (0, 0, 0)
    ∷ call 30 0 1 7 gives (0, 0, 0)
    ∷ call 32 0 0 0 gives (0, 1, 0)
    ∷ call 33 0 0 0 gives (0, 0, 0)
    ∷ []

abbrev seven_calls : List Call
seven_calls = asked (reverse seven_records)

seven_records_lem : AsGiven seven_records
unfolding asked fresh_table after_by history_by core operation_of lookup listed refusal_of first_of first_from all_b any_b filled next_free apply members kept_from the_table
seven_records_lem = computed _ refl

seven_possible : possible_run seven_calls ≡ true
unfolding possible_by possible all_in asked fresh_table after_by core operation_of lookup listed refusal_of first_of first_from all_b any_b filled next_free apply members kept_from the_table
seven_possible = refl

module _ (library : Machine) (meets : Meets library) where
  seven : history_by library fresh_chip seven_calls ≡ reverse seven_records
  seven = as_given library meets seven_records seven_records_lem seven_possible

  -- there is a done 32 and a done 33, so who always invents invents once
  once : (op : ℕ) (become : ℕ → ℕ → ℕ) (calls : List Call) → InventsSizes op become library → possible_run (call op 0 0 0 ∷ calls) ≡ true
      → (outcome_by library (after_by library fresh_chip calls) (call op 0 0 0)).answer.refusal ≡ done → InventsASize op become library
  once op become calls wrong p d =
      let chip = after_by library fresh_chip calls in
      let asks = here library meets (call op 0 0 0) calls p in
      record { chip = chip; a = 0; b = 0; c = 0; asks = asks; was_done = d; other = wrong chip 0 0 0 asks d }

  pub not_inventing_sizes : InventsSizes 32 insert library → ⊥
  unfolding asked history_by after_by back
  not_inventing_sizes wrong =
      not_inventing_a_size library meets (once 32 insert (drop 2 seven_calls) wrong (earlier library meets _ _ seven_possible) (ap (λ (h : List Answered). (back h 1).refusal) seven))

  pub not_inventing_sizes_left : InventsSizes 33 remove library → ⊥
  unfolding asked history_by after_by back
  not_inventing_sizes_left wrong =
      not_inventing_a_size_left library meets (once 33 remove (drop 1 seven_calls) wrong seven_possible (ap (λ (h : List Answered). (back h 0).refusal) seven))
