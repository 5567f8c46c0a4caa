-- What came of a call of the code is what `step` gives, and a run of the code is the run of `step`.
use Rattle.std.specs.Prelude.{◌≡◌, refl, List, ◌∷◌, ◌++◌, ℕ}
use Rattle.std.proofs.Common.{ap, ◌∙◌}
use Rattle.state.specs.declared.state.Session.{Session}
use Rattle.state.specs.Refusals.{done}
use Rattle.session.specs.Step.{Outcome, step}
use Rattle.session.specs.Runs.{Call, Answered, Chip, left, answered_by, outcome_of, after_by, history_by, after, history}
use Rattle.promises.specs.Refusal.{LeftAlone}
use Rattle.promises.proofs.Refusal.{refusal_leaves_alone, done_names_no_place}
use Rattle.promises.proofs.Stays.{soundness_stays}
use Rattle.promises.specs.Reached.{SoundChip}
use Rattle.promises.specs.Beyond.{BeyondKept, never_written, AlikeChips, AlikeLeft, alike_outcomes}
use Rattle.chip.specs.Tray.{asked}
use Rattle.tightness.specs.Trays.{left_by, tray_done, tray_refused, told_is_history, after_more_lem, history_more}
use Rattle.tightness.specs.Code.{Handed, Called, linked, inside, Run, begins, then, then_tray, then_refused}

as_handed : (q : Call) (chip : Chip) (op a b c : ℕ) (x : Session) (w k : List ℕ) → Handed q chip op a b c x w k → step op a b c x w k ≡ outcome_of chip q
as_handed q chip op a b c x w k h = rw (h.number, h.first, h.second, h.third, h.session, h.working, h.kept)

-- **What came of it is what `step` gives.**
pub as_step : (q : Call) (chip : Chip) (o : Outcome) → Called q chip o → o ≡ outcome_of chip q
as_step q chip o (linked κs a r s p h) = p ∙ as_handed q chip _ _ _ _ _ _ _ h
as_step q chip o (inside κs a r s p h) = p ∙ as_handed q chip _ _ _ _ _ _ _ h

module _ (q : Call) (chip : Chip) (o : Outcome) (c : Called q chip o) where
  -- **A refusal leaves all but the one event.**
  pub code_refusal : (o.answer.refusal ≡ done → ⊥) → LeftAlone q.op chip.session chip.working chip.kept o
  code_refusal = rw (as_step q chip o c) (refusal_leaves_alone q.op q.a q.b q.c chip.session chip.working chip.kept)

  -- **What is done names no place.**
  pub code_no_place : o.answer.refusal ≡ done → o.answer.place ≡ 0
  code_no_place = rw (as_step q chip o c) (done_names_no_place q.op q.a q.b q.c chip.session chip.working chip.kept)

  -- **A sound chip is left sound.**
  pub code_sound : SoundChip chip → SoundChip (left o)
  code_sound = rw (as_step q chip o c) (soundness_stays q.op q.a q.b q.c chip.session chip.working chip.kept q.small)

  -- **Words from 739 on are not written ..**
  pub code_never_writes : BeyondKept chip.working chip.kept o
  code_never_writes = rw (as_step q chip o c) (never_written q.op q.a q.b q.c chip.session chip.working chip.kept)

  -- **.. and not read.**
  pub code_never_reads : (chip' : Chip) (o' : Outcome) → Called q chip' o' → AlikeChips chip chip' → AlikeLeft o o'
  code_never_reads chip' o' c' h = rw (as_step q chip o c, as_step q chip' o' c') (alike_outcomes chip chip' h q)

-- **It is the run of `step`**: the same chip, the same history.
pub run_after : {begun : Chip} {calls : List Call} {chip : Chip} {h : List Answered} → Run begun calls chip h → chip ≡ after begun calls
unfolding after_by
run_after begins = refl
run_after (then {chip} run q o c) = ap left (as_step q chip o c) ∙ ap (λ (x : Chip). left (outcome_of x q)) (run_after run)
run_after {begun} (then_tray {calls} {chip} run orders row t p d told h) =
    ap left_by (tray_done orders row chip t p d) ∙ ap (λ (x : Chip). after x (asked orders)) (run_after run) ∙ after_more_lem begun (asked orders) calls
run_after (then_refused {chip} run orders row t p n) = ap left_by (tray_refused orders row chip t p n) ∙ run_after run

pub run_history : {begun : Chip} {calls : List Call} {chip : Chip} {h : List Answered} → Run begun calls chip h → h ≡ history begun calls
unfolding history_by
run_history begins = refl
run_history {begun} (then {calls} {chip} {h} run q o c) =
    ap (λ (l : List Answered). answered_by q o ∷ l) (run_history run)
    ∙ ap
    (λ (x : Outcome). answered_by q x ∷ history begun calls)
    (as_step q chip o c ∙ ap (λ (x : Chip). outcome_of x q) (run_after run))
run_history {begun} (then_tray {calls} {chip} {h} run orders row t p d told g) =
    ap (λ (l : List Answered). l ++ h) (told_is_history orders row chip t p d told g)
    ∙ ap (λ (x : Chip). history x (asked orders) ++ h) (run_after run)
    ∙ ap (λ (l : List Answered). history (after begun calls) (asked orders) ++ l) (run_history run)
    ∙ history_more begun (asked orders) calls
run_history (then_refused run orders row t p n) = run_history run
