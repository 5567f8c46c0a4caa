-- Runs from a fresh chip: every state that calls reach is sound, so none of them is answered with SY_ERR; and what does the
-- same as `step` on sound states, as `core` does, runs the same.
use Rattle.std.specs.Prelude.{◌≡◌, true, ℕ}
use Rattle.std.proofs.Math.Path.{refl, ap}
use Rattle.std.proofs.Common.{◌∙◌, sym, arith}
use mathlib.Core.List.{List, [], ◌∷◌}
use Rattle.logic.specs.Laws.Bools.{clash}
use Rattle.state.specs.declared.state.Session.{Session}
use Rattle.state.specs.Refusals.{SY_ERR}
use Rattle.session.specs.Sound.{sound}
use Rattle.session.specs.Step.{Outcome, core, step}
use Rattle.session.specs.Runs.{Call, Answered, Chip, Fresh, Machine, outcome_by, left, answered_by, after_by, history_by, after, history}
use Rattle.promises.specs.Keeps.Ways.{Way, unsound, refusing, doing, way}
use Rattle.promises.proofs.Fresh.{fresh_sound}
use Rattle.promises.proofs.Stays.{soundness_stays}
use Rattle.promises.proofs.Core.{core_on_sound}
use Rattle.promises.specs.Reached.{SoundChip, Alike}

by_way : (op a b c : ℕ) (x : Session) (w k : List ℕ) (o : Outcome) → Way op a b c x w k o → sound x w k ≡ true → o.answer.refusal ≡ SY_ERR → ⊥
by_way op a b c x w k o (unsound u) h e = clash _ h u
by_way op a b c x w k o (refusing r s f) h e = omega (arith, f.from)
by_way op a b c x w k o (doing s p f) h e = omega arith

pub core_alike : Alike core
core_alike chip h q = sym (core_on_sound q.op q.a q.b q.c chip.session chip.working chip.kept h)

module _ (begun : Chip) (fresh : Fresh begun) where
  pub reached_sound : (calls : List Call) → SoundChip (after begun calls)
  unfolding after_by
  reached_sound [] = rw fresh.session (fresh_sound begun.working begun.kept fresh.working fresh.kept)
  reached_sound (q ∷ calls) =
      let chip = after begun calls in
      soundness_stays q.op q.a q.b q.c chip.session chip.working chip.kept q.small (reached_sound calls)

  pub never_unsound : (calls : List Call) (op a b c : ℕ)
      → (step op a b c (after begun calls).session (after begun calls).working (after begun calls).kept).answer.refusal ≡ SY_ERR
      → ⊥
  never_unsound calls op a b c =
      let chip = after begun calls in
      by_way op a b c chip.session chip.working chip.kept _ (way op a b c chip.session chip.working chip.kept) (reached_sound calls)

  module _ (machine : Machine) (alike : Alike machine) where
    pub same_after : (calls : List Call) → after_by machine begun calls ≡ after begun calls
    unfolding after_by
    same_after [] = refl
    same_after (q ∷ calls) =
        ap (λ (chip : Chip). left (outcome_by machine chip q)) (same_after calls) ∙ ap left (alike (after begun calls) (reached_sound calls) q)

    pub same_history : (calls : List Call) → history_by machine begun calls ≡ history begun calls
    unfolding history_by
    same_history [] = refl
    same_history (q ∷ calls) =
        ap (λ (h : List Answered). answered_by q (outcome_by machine (after_by machine begun calls) q) ∷ h) (same_history calls)
        ∙ ap
        (λ (o : Outcome). answered_by q o ∷ history begun calls)
        (ap (λ (chip : Chip). outcome_by machine chip q) (same_after calls) ∙ alike (after begun calls) (reached_sound calls) q)
