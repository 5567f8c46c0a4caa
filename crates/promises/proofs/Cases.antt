-- The cases hold: one theorem over their list, each by `core`, which computes.
use Rattle.std.specs.Prelude.{◌≡◌, refl, true, List, reverse, ℕ, take}
use Rattle.std.proofs.Common.{sym, ap, ◌∙◌, lit<}
use Rattle.logic.specs.Search.{first_from, all_b, any_b}
use Rattle.words.specs.Entries.{filled, next_free}
use Rattle.words.specs.Laws.Sets.{size_of_none, size_of_all}
use Rattle.dictionary.specs.Dictionary.{the_table}
use Rattle.dictionary.specs.Subtype.{subtype}
use Rattle.tables.specs.View.{header_at}
use Rattle.tables.specs.Changes.{apply}
use Rattle.checks.specs.Operations.{listed, lookup, operation_of}
use Rattle.state.specs.States.{is_open}
use Rattle.checks.specs.Checks.{first_of}
use Rattle.session.specs.Rows.{refusal_of}
use Rattle.session.specs.Step.{core}
use Rattle.session.specs.Runs.{call, Answered, Chip, fresh_table, fresh_chip, outcome_by, answered_by, after_by, history_by}
use Rattle.promises.proofs.Fresh.{fresh_chip_lem}
use Rattle.promises.proofs.Reached.{core_alike, same_after}
use Rattle.promises.specs.Beyond.{alike_after, fresh_alike}
use Rattle.promises.specs.Records.{◌gives◌, asked, ten_records}
use Rattle.promises.proofs.Records.{computed}
use Rattle.promises.specs.Cases.{header_after, subtype_test, Holds, AllHold, cases}

-- ---- each by `core`, which computes

by_core : (rows : List Answered) (n : ℕ) → header_at (after_by core fresh_chip (asked (reverse rows))).working 0 ≡ n → Holds (header_after rows n)
by_core rows n e begun fresh =
    let calls = asked (reverse rows) in
    (alike_after begun fresh_chip (fresh_alike begun fresh_chip fresh fresh_chip_lem) calls).working.words_alike 96 (lit< tt)
    ∙ sym (ap (λ (chip : Chip). header_at chip.working 0) (same_after fresh_chip fresh_chip_lem core core_alike calls))
    ∙ e

in_session_lem : (a b : ℕ) (r : ℕ × ℕ × ℕ)
    → ((chip : Chip) → is_open chip.session.state ≡ true → (c : ℕ) → answered_by (call 46 a b c) (outcome_by core chip (call 46 a b c)) ≡ (call 46 a b c gives r))
    → Holds (subtype_test a b r)
in_session_lem a b r f chip h opened c = ap (answered_by (call 46 a b c)) (sym (core_alike chip h (call 46 a b c))) ∙ f chip opened c

infixr 50 ◌also◌
◌also◌ : {P Q : Type 0} → P → Q → P × Q
p also q = (p, q)

pub p_cases : AllHold cases
unfolding asked fresh_table after_by history_by core operation_of lookup listed refusal_of first_of first_from all_b any_b filled next_free apply subtype the_table
p_cases =
    computed _ refl
    also refl
    also by_core (take 7 ten_records) _ refl
    also in_session_lem _ _ _ (λ chip opened c. rw opened)
    also in_session_lem _ _ _ (λ chip opened c. rw opened)
    also in_session_lem _ _ _ (λ chip opened c. rw opened)
    also in_session_lem _ _ _ (λ chip opened c. rw opened)
    also in_session_lem _ _ _ (λ chip opened c. rw opened)
    also computed _ refl
    also computed _ refl
    also size_of_all
    also size_of_none
    also tt
