-- None of the wrong libraries meets the contract of `call`, each shown at a call where it fails.
use Rattle.std.proofs.Math.Path.{◌≡◌, refl, sym, ap}
use Rattle.std.proofs.Common.{◌∙◌}
use Rattle.std.specs.Prelude.{Bool, true, ◌&&◌, ℕ, get_or, drop}
use mathlib.Core.List.{List, [], ◌∷◌, ◌++◌, reverse}
use native.Mathlib.Omega.{arith}
use Rattle.logic.specs.Search.{first_from, all_b, any_b, all_in}
use Rattle.logic.specs.Laws.Bools.{and_left, and_right}
use Rattle.words.specs.Sets.{insert, remove, size_of}
use Rattle.words.specs.Entries.{filled, next_free}
use Rattle.dictionary.specs.Dictionary.{the_table}
use Rattle.tables.specs.View.{set_at}
use Rattle.tables.specs.Changes.{apply}
use Rattle.state.specs.declared.state.Session.{Session}
use Rattle.state.specs.Refusals.{done}
use Rattle.checks.specs.Operations.{listed, lookup, operation_of}
use Rattle.state.specs.States.{is_open}
use Rattle.checks.specs.Checks.{first_of}
use Rattle.session.specs.Rows.{refusal_of}
use Rattle.session.specs.Step.{Outcome, core}
use Rattle.session.specs.Runs.{Call, call, Answered, Chip, fresh_table, fresh_chip, Machine, outcome_by, left, answered_by, after_by, history_by}
use Rattle.promises.proofs.Fresh.{fresh_chip_lem}
use Rattle.promises.specs.Reached.{SoundChip}
use Rattle.promises.proofs.Reached.{core_alike, reached_sound, same_after, same_history}
use Rattle.promises.specs.Possible.{possible, possible_by}
use Rattle.promises.specs.Keeps.Ways.{Way, unsound, refusing, doing, way}
use Rattle.promises.specs.Records.{◌gives◌, asked, AsGiven, ten_records}
use Rattle.promises.proofs.Cases.{p_cases}
use Rattle.promises.specs.Wrong.{Meets, RefusesAll, Constant, NoTable, OnlyAnswers, InventsASize}

-- ---- runs

-- every call of a run by `core` is one that a machine can be asked
abbrev pub possible_run : List Call → Bool
possible_run calls = possible_by core fresh_chip calls

-- the answer to the call that n others follow
unfoldable pub back : List Answered → ℕ → Answered
back h n = get_or h n (call 0 0 0 0 gives (0, 0, 0))

abbrev ten_calls : List Call
ten_calls = asked (reverse ten_records)

ten_possible : possible_run ten_calls ≡ true
unfolding possible_by possible all_in asked fresh_table after_by core operation_of lookup listed refusal_of first_of first_from all_b any_b filled next_free apply the_table
ten_possible = refl

-- after the first of the ten the session is open at each of the next six
abbrev first : List Call
first = call 1 0 0 0 ∷ []

unfoldable open_run : List Call → Bool
open_run [] = true
open_run (q ∷ calls) = open_run calls && is_open (after_by core fresh_chip (calls ++ first)).session.state

abbrev next_six : List Call
next_six = asked (drop 3 (reverse (drop 1 ten_records)))

six_open : open_run next_six ≡ true
unfolding open_run asked fresh_table after_by core operation_of lookup listed refusal_of first_of first_from all_b any_b filled next_free apply the_table
six_open = refl

first_possible : possible_run first ≡ true
unfolding possible_by possible all_in fresh_table after_by
first_possible = refl

first_leaves : (after_by core fresh_chip first).working ≡ fresh_table
unfolding after_by core operation_of lookup listed refusal_of first_of
first_leaves = refl

-- ---- what `step` gives

-- a get on a blank table gives no value, whatever the session
blank_value : (x : Session) (k : List ℕ) (o : Outcome) → Way 42 0 0 0 x fresh_table k o → o.answer.value ≡ 0
unfolding operation_of lookup listed fresh_table
blank_value x k o (unsound h) = refl
blank_value x k o (refusing r h e) = refl
blank_value x k o (doing h p e) = refl

-- a done 32 or 33 gives the number of models that are then in the set
joined_size : (a b c : ℕ) (x : Session) (w k : List ℕ) (o : Outcome) → Way 32 a b c x w k o → o.answer.refusal ≡ done → o.answer.value ≡ size_of (insert (set_at w a) b)
unfolding operation_of lookup listed
joined_size a b c x w k o (unsound h) d = absurd (omega arith)
joined_size a b c x w k o (refusing r h e) d = absurd (omega (arith, e.from))
joined_size a b c x w k o (doing h p e) d = refl

left_size : (a b c : ℕ) (x : Session) (w k : List ℕ) (o : Outcome) → Way 33 a b c x w k o → o.answer.refusal ≡ done → o.answer.value ≡ size_of (remove (set_at w a) b)
unfolding operation_of lookup listed
left_size a b c x w k o (unsound h) d = absurd (omega arith)
left_size a b c x w k o (refusing r h e) d = absurd (omega (arith, e.from))
left_size a b c x w k o (doing h p e) d = refl

-- ---- none of them meets it

module _ (library : Machine) (meets : Meets library) where
  core_sound : (calls : List Call) → SoundChip (after_by core fresh_chip calls)
  core_sound calls = rw (same_after fresh_chip fresh_chip_lem core core_alike calls) (reached_sound fresh_chip fresh_chip_lem calls)

  -- on what `core` reaches it does what `core` does
  as_core : (q : Call) (calls : List Call) → possible_run (q ∷ calls) ≡ true → outcome_by library (after_by core fresh_chip calls) q ≡ outcome_by core (after_by core fresh_chip calls) q
  unfolding possible_by
  as_core q calls p =
      let chip = after_by core fresh_chip calls in
      meets chip q (and_right (possible_run calls) (possible chip q) p) ∙ sym (core_alike chip (core_sound calls) q)

  pub earlier : (q : Call) (calls : List Call) → possible_run (q ∷ calls) ≡ true → possible_run calls ≡ true
  unfolding possible_by
  earlier q calls p = and_left (possible_run calls) (possible (after_by core fresh_chip calls) q) p

  -- so its run is `core`'s
  its_after : (calls : List Call) → possible_run calls ≡ true → after_by library fresh_chip calls ≡ after_by core fresh_chip calls
  unfolding after_by
  its_after [] p = refl
  its_after (q ∷ calls) p = ap (λ (chip : Chip). left (outcome_by library chip q)) (its_after calls (earlier q calls p)) ∙ ap left (as_core q calls p)

  its_history : (calls : List Call) → possible_run calls ≡ true → history_by library fresh_chip calls ≡ history_by core fresh_chip calls
  unfolding history_by
  its_history [] p = refl
  its_history (q ∷ calls) p =
      ap (λ (o : Outcome). answered_by q o ∷ history_by library fresh_chip calls) (ap (λ (chip : Chip). outcome_by library chip q) (its_after calls (earlier q calls p)) ∙ as_core q calls p)
      ∙ ap (λ (h : List Answered). answered_by q (outcome_by core (after_by core fresh_chip calls) q) ∷ h) (its_history calls (earlier q calls p))

  pub as_given : (rows : List Answered) → AsGiven rows → possible_run (asked (reverse rows)) ≡ true → history_by library fresh_chip (asked (reverse rows)) ≡ reverse rows
  as_given rows e p =
      its_history (asked (reverse rows)) p ∙ same_history fresh_chip fresh_chip_lem core core_alike (asked (reverse rows)) ∙ e fresh_chip fresh_chip_lem

  ten : history_by library fresh_chip ten_calls ≡ reverse ten_records
  ten = as_given ten_records p_cases.0 ten_possible

  -- so each of its calls is one that a machine can be asked
  pub here : (q : Call) (calls : List Call) → possible_run (q ∷ calls) ≡ true → possible (after_by library fresh_chip calls) q ≡ true
  unfolding possible_by
  here q calls p = rw (its_after calls (earlier q calls p)) (and_right (possible_run calls) (possible (after_by core fresh_chip calls) q) p)

  pub not_refusing_all : RefusesAll library → ⊥
  unfolding asked history_by after_by back
  not_refusing_all wrong = wrong fresh_chip (call 1 0 0 0) (here (call 1 0 0 0) [] first_possible) (ap (λ (h : List Answered). (back h 9).refusal) ten)

  pub not_constant : Constant library → ⊥
  unfolding asked history_by after_by back
  not_constant wrong =
      let first : 0 ≡ wrong.0 = sym (ap (λ (h : List Answered). (back h 9).refusal) ten) ∙ wrong.1 _ (call 1 0 0 0) (here (call 1 0 0 0) [] first_possible) in
      let last : 27 ≡ wrong.0 = sym (ap (λ (h : List Answered). (back h 0).refusal) ten) ∙ wrong.1 _ (call 42 0 0 0) (here (call 42 0 0 0) (drop 1 ten_calls) ten_possible) in
      omega arith

  -- calls after the first leave the blank table as it is
  stays_blank : OnlyAnswers library → (calls : List Call) → possible_run (calls ++ first) ≡ true → open_run calls ≡ true
      → (after_by library fresh_chip (calls ++ first)).working ≡ fresh_table
  unfolding after_by open_run
  stays_blank wrong [] p o = ap (λ (chip : Chip). chip.working) (its_after first p) ∙ first_leaves
  stays_blank wrong (q ∷ calls) p o =
      let before = calls ++ first in
      wrong (after_by library fresh_chip before) q (here q before p)
      (rw (its_after before (earlier q before p)) (and_right (open_run calls) (is_open (after_by core fresh_chip before).session.state) o))
      ∙ stays_blank wrong calls (earlier q before p) (and_left (open_run calls) (is_open (after_by core fresh_chip before).session.state) o)

  gets_nothing : (chip : Chip) → possible chip (call 42 0 0 0) ≡ true → chip.working ≡ fresh_table → (outcome_by library chip (call 42 0 0 0)).answer.value ≡ 0
  gets_nothing chip p e =
      ap (λ (o : Outcome). o.answer.value) (meets chip (call 42 0 0 0) p)
      ∙ rw e (blank_value chip.session chip.kept _ (way 42 0 0 0 chip.session fresh_table chip.kept))

  -- with tables that nobody touches the eighth record cannot give 5
  pub not_only_answering : OnlyAnswers library → ⊥
  unfolding asked history_by after_by back
  not_only_answering wrong =
      let seven = next_six ++ first in
      let asks = earlier _ _ (earlier _ _ ten_possible) in
      let blank = stays_blank wrong next_six (earlier _ seven asks) six_open in
      let five : ◌≡◌ {A = ℕ} 5 0 = sym (ap (λ (h : List Answered). (back h 2).value) ten) ∙ gets_nothing (after_by library fresh_chip seven) (here _ seven asks) blank in
      omega arith

  pub not_without_tables : NoTable library → ⊥
  not_without_tables wrong = not_only_answering (λ chip q p opened. wrong chip q p)

  -- where the answer is done, its value is what `step` gives
  given : (chip : Chip) (q : Call) (n : ℕ) → possible chip q ≡ true
      → ((o : Outcome) → Way q.op q.a q.b q.c chip.session chip.working chip.kept o → o.answer.refusal ≡ done → o.answer.value ≡ n)
      → (outcome_by library chip q).answer.refusal ≡ done → (outcome_by library chip q).answer.value ≡ n
  given chip q n p f d =
      let e = meets chip q p in
      ap (λ (o : Outcome). o.answer.value) e
      ∙ f _ (way q.op q.a q.b q.c chip.session chip.working chip.kept) (sym (ap (λ (o : Outcome). o.answer.refusal) e) ∙ d)

  pub not_inventing_a_size : InventsASize 32 insert library → ⊥
  not_inventing_a_size wrong =
      let chip = wrong.chip in
      wrong.other
      (given chip (call 32 wrong.a wrong.b wrong.c) _ wrong.asks (joined_size wrong.a wrong.b _ chip.session chip.working chip.kept) wrong.was_done)

  pub not_inventing_a_size_left : InventsASize 33 remove library → ⊥
  not_inventing_a_size_left wrong =
      let chip = wrong.chip in
      wrong.other
      (given chip (call 33 wrong.a wrong.b wrong.c) _ wrong.asks (left_size wrong.a wrong.b _ chip.session chip.working chip.kept) wrong.was_done)
