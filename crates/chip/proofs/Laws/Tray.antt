-- What stands after the first i orders, turn by turn, is what the calls leave, so that the whole row leaves what `tray` says.
use Rattle.std.specs.Prelude.{◌≡◌, Bool, ℕ, suc, ◌<◌, leb, length, get_or, set, take, drop}
use Rattle.std.proofs.Math.Path.{refl, ap}
use Rattle.std.proofs.Common.{sym, ◌∙◌, arith, take-suc, length-take-le, drop-cons}
use Rattle.std.proofs.Math.Bool.{true, false, cond}
use mathlib.Core.List.{List, [], ◌∷◌, ◌++◌, map, reverse, reverse-append, reverse-cons, append_assoc}
use Rattle.std.proofs.Math.Nat.{mod-eq_of_lt}
use Rattle.std.proofs.lemmas.List.{length-map, length-reverse, set_at}
use Rattle.std.proofs.Math.Seq.{take-length}
use Rattle.state.specs.Refusals.{SY_ERR, done, ◌on◌}
use Rattle.state.specs.States.{answer}
use Rattle.session.specs.Sound.{sound}
use Rattle.session.specs.Step.{step}
use Rattle.session.specs.Runs.{Call, Answered, Chip, chip_of, left, answered_by, outcome_of, after_by, history_by, after, history}
use Rattle.promises.proofs.Stays.{soundness_told}
use Rattle.state.specs.declared.state.Order.{Order}
use Rattle.chip.specs.declared.tray.Reply.{Reply}
use Rattle.chip.specs.Tray.{Trayed, trayed, call_of, asked, result_of, results, written, all_taken, none_taken, tray}
use Rattle.chip.specs.Quick.Turns.{taken_of, turned, begun_with, turned_by, turn_of, Standing, no_order, stepped, standing}

-- ---- the rows

map_snoc : (xs : List Order) (o : Order) → map call_of (xs ++ (o ∷ [])) ≡ map call_of xs ++ (call_of o ∷ [])
map_snoc [] o = refl
map_snoc (x ∷ xs) o = ap (λ (l : List Call). call_of x ∷ l) (map_snoc xs o)

asked_snoc : (xs : List Order) (o : Order) → asked (xs ++ (o ∷ [])) ≡ call_of o ∷ asked xs
asked_snoc xs o = ap reverse (map_snoc xs o) ∙ reverse-append (map call_of xs) (call_of o ∷ [])

-- one order more
pub asked_next : (orders : List Order) (i : ℕ) → i < length orders → asked (take (suc i) orders) ≡ call_of (get_or orders i no_order) ∷ asked (take i orders)
asked_next orders i l = ap asked (take-suc orders i no_order l) ∙ asked_snoc (take i orders) (get_or orders i no_order)

-- how long they are
pub history_length : (begun : Chip) (calls : List Call) → length (history begun calls) ≡ length calls
unfolding history_by
history_length begun [] = refl
history_length begun (q ∷ calls) = ap suc (history_length begun calls)

pub asked_length : (orders : List Order) → length (asked orders) ≡ length orders
asked_length orders = length-reverse (map call_of orders) ∙ length-map orders call_of

pub results_length : (h : List Answered) → length (results h) ≡ length h
results_length h = length-reverse (map result_of h) ∙ length-map h result_of

-- one answer more is written where the row has come to
written_next : (x : Answered) (h : List Answered) (answers : List Reply) → length h < length answers → set (written h answers) (length h) (result_of x) ≡ written (x ∷ h) answers
written_next x h answers l =
    let there = get_or answers (length h) (result_of x) in
    ap (λ (rest : List Reply). set (results h ++ rest) (length h) (result_of x)) (drop-cons answers (length h) (result_of x) l)
    ∙ set_at (results h) there (drop (suc (length h)) answers) (result_of x) (length h) (results_length h)
    ∙ sym (ap (λ (front : List Reply). front ++ drop (suc (length h)) answers) (reverse-cons (result_of x) (map result_of h))
    ∙ append_assoc (results h) (result_of x ∷ []) (drop (suc (length h)) answers))

-- ---- turn by turn

abbrev sound_of : Chip → Bool
sound_of chip = sound chip.session chip.working chip.kept

-- the chip and the history after the first i orders
abbrev chip_at : List Order → Chip → ℕ → Chip
chip_at orders begun i = after begun (asked (take i orders))

abbrev history_at : List Order → Chip → ℕ → List Answered
history_at orders begun i = history begun (asked (take i orders))

-- what stands after the first i orders is that chip, their answers, and whether the state is sound
pub record Stands (orders : List Order) (row : List Reply) (begun : Chip) (i : ℕ) (z : Standing) : Type 0 where
  pub chip : chip_of z.after.turn.session z.after.working z.after.kept ≡ chip_at orders begun i
  pub answers : z.answers ≡ written (history_at orders begun i) row
  pub as_sound : sound_of (chip_at orders begun i) ≡ sound_of begun
  pub told : z.after.turn.sound ≡ sound_of begun

module _ (orders : List Order) (row : List Reply) (begun : Chip) where
  abbrev standing_at : ℕ → Standing
  standing_at i = standing i orders row (turned (begun_with begun.session begun.working begun.kept) begun.working begun.kept)

  pub stands_begun : Stands orders row begun 0 (standing_at 0)
  unfolding after_by history_by
  stands_begun = record { chip = refl; answers = refl; as_sound = refl; told = refl }

  module _ (i : ℕ) (z : Standing) (h : Stands orders row begun i z) where
    abbrev here : Chip
    here = chip_of z.after.turn.session z.after.working z.after.kept

    -- what was found before the first order holds at the others
    told_rightly : z.after.turn.sound ≡ sound_of here
    told_rightly = h.told ∙ sym h.as_sound ∙ sym (ap sound_of h.chip)

    module _ (o : Order) (small : o.c < 0x1_0000_0000) where
      -- a turn does what the call does
      turn_is_call : turn_of o z.after.turn z.after.working z.after.kept ≡ turned_by (sound_of here) (outcome_of here (call_of o))
      unfolding turn_of step
      turn_is_call = rw (told_rightly, mod-eq_of_lt small)

    abbrev history_here : List Answered
    history_here = history_at orders begun i

    here_length : i < length orders → length history_here ≡ i
    here_length l = history_length begun (asked (take i orders)) ∙ asked_length (take i orders) ∙ length-take-le i orders (omega arith)

    -- one order more
    module _ (l : i < length orders) (m : i < length row) (small : (get_or orders i no_order).c < 0x1_0000_0000) where
      abbrev asked_now : Call
      asked_now = call_of (get_or orders i no_order)

      abbrev given : Chip → Answered
      given chip = answered_by asked_now (outcome_of chip asked_now)

      answer_written : set z.answers i (result_of (given here)) ≡ written (given (chip_at orders begun i) ∷ history_here) row
      answer_written =
          ap (λ (answers : List Reply). set answers i (result_of (given here))) h.answers
          ∙ ap (λ (n : ℕ). set (written history_here row) n (result_of (given here))) (sym (here_length l))
          ∙ ap (λ (chip : Chip). set (written history_here row) (length history_here) (result_of (given chip))) h.chip
          ∙ written_next (given (chip_at orders begun i)) history_here row (omega (arith, here_length l))

      chip_next : chip_at orders begun (suc i) ≡ left (outcome_of (chip_at orders begun i) asked_now)
      unfolding after_by
      chip_next = ap (after begun) (asked_next orders i l)

      history_next : history_at orders begun (suc i) ≡ given (chip_at orders begun i) ∷ history_here
      unfolding history_by
      history_next = ap (history begun) (asked_next orders i l)

      pub stands_next : Stands orders row begun (suc i) (stepped i (turn_of (get_or orders i no_order) z.after.turn z.after.working z.after.kept) z)
      stands_next =
          let chip = chip_at orders begun i in
          let stays = soundness_told asked_now.op asked_now.a asked_now.b asked_now.c chip.session chip.working chip.kept asked_now.small in
          rw (turn_is_call (get_or orders i no_order) small) (record {
            chip = ap (λ (chip : Chip). left (outcome_of chip asked_now)) h.chip ∙ sym chip_next;
            answers = answer_written ∙ ap (λ (l : List Answered). written l row) (sym history_next);
            as_sound = ap sound_of chip_next ∙ stays ∙ h.as_sound;
            told = ap sound_of h.chip ∙ h.as_sound;
          })

-- ---- the whole row

module _ (orders : List Order) (row : List Reply) (begun : Chip) where
  abbrev pub closed : Bool → Standing → Trayed
  closed b z = trayed (cond b (answer done 0 z.after.turn.session) (answer (SY_ERR on 0) 0 z.after.turn.session)) z.answers z.after.working z.after.kept

  whole : Stands orders row begun (length orders) (standing_at orders row begun (length orders)) → closed true (standing_at orders row begun (length orders)) ≡ all_taken orders row begun
  whole h =
      let z = standing_at orders row begun (length orders) in
      let all = take-length orders in
      ap (λ (chip : Chip). trayed (answer done 0 chip.session) z.answers chip.working chip.kept) (h.chip ∙ ap (λ (l : List Order). after begun (asked l)) all)
      ∙ ap
      (λ (l : List Reply). trayed (answer done 0 (after begun (asked orders)).session) l (after begun (asked orders)).working (after begun (asked orders)).kept)
      (h.answers ∙ ap (λ (l : List Order). written (history begun (asked l)) row) all)

  -- the tray's own answer, and what stands after the orders that are taken
  pub tray_left : Stands orders row begun (taken_of (length orders) (length row)) (standing_at orders row begun (taken_of (length orders) (length row)))
      → closed (leb (length orders) (length row)) (standing_at orders row begun (taken_of (length orders) (length row))) ≡ tray orders row begun
  unfolding tray
  tray_left h = by_cases (leb (length orders) (length row)) h
    where
      by_cases : (b : Bool) → Stands orders row begun (cond b (length orders) 0) (standing_at orders row begun (cond b (length orders) 0))
          → closed b (standing_at orders row begun (cond b (length orders) 0)) ≡ cond b (all_taken orders row begun) (none_taken row begun)
      by_cases true g = whole g
      by_cases false g = refl
