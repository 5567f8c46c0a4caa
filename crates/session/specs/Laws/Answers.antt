-- An answer from its parts, done or refused.
use Rattle.std.specs.Prelude.{ℕ, ◌≡◌, refl, Bool, true, false, cond, ◌&&◌, ◌⊎◌, eqb}
use Rattle.std.proofs.Common.{sym, ap, inl, inr, eq-eqb, eqb-true}
use Rattle.logic.specs.Laws.Bools.{and_left, and_right}
use Rattle.state.specs.declared.state.State.{State}
use Rattle.state.specs.declared.state.Session.{Session}
use Rattle.state.specs.Refusals.{done}
use Rattle.state.specs.States.{is_open, event, added, session, noted, answer}
use Rattle.session.specs.Step.{log_after, finished_answer}
use Rattle.session.specs.Quick.Answers.{log_stays, log_of}

-- an event changes the log alone
noted_log : (x : Session) (op refusal : ℕ) → session x.state (noted x op refusal).log ≡ noted x op refusal
noted_log x op refusal = by_test (is_open x.state && eqb x.state.recording 1) (session x.state (added x.log (event op refusal))) refl
  where
    by_test : (b : Bool) (more : Session) → more.state ≡ x.state → session x.state (cond b more x).log ≡ cond b more x
    by_test true more e = ap (λ (s : State). session s more.log) (sym e)
    by_test false more e = refl

pub answer_built : (op refusal value : ℕ) (x : Session) (s : State) → (refusal ≡ done) ⊎ ((value ≡ 0) × (s ≡ x.state))
    → answer refusal value (session s (log_of op refusal x s)) ≡ finished_answer op x refusal value s
answer_built op refusal value x s (inl e) = rw (eq-eqb refusal done e, e)
answer_built op refusal value x s (inr h) = by_test (eqb refusal done) refl
  where
    by_test : (b : Bool) → eqb refusal done ≡ b
        → answer refusal value (session s (cond b (log_after s x.log) (noted x op refusal).log))
        ≡ cond b (answer done value (session s (log_after s x.log))) (answer refusal 0 (noted x op refusal))
    by_test true e = ap (λ (r : ℕ). answer r value (session s (log_after s x.log))) (eqb-true refusal done e)
    by_test false e = rw (h.0, h.1) (ap (answer refusal 0) (noted_log x op refusal))

-- where the log stays
pub answer_carried : (op refusal value : ℕ) (x : Session) (s : State) → log_stays refusal s ≡ true
    → answer done value (session s x.log) ≡ finished_answer op x refusal value s
answer_carried op refusal value x s h =
    rw (and_left (eqb refusal done) (is_open s) h, and_right (eqb refusal done) (is_open s) h)

pub stays_done : (refusal : ℕ) (s : State) → log_stays refusal s ≡ true → refusal ≡ done
stays_done refusal s h = eqb-true refusal done (and_left (eqb refusal done) (is_open s) h)
