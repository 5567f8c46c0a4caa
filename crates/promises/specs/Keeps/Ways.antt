-- The three ways that a call goes: the state is unsound, the call is refused, or it is done.
use Rattle.std.specs.Prelude.{◌≡◌, Bool, cond, ◌⊎◌, List, ℕ, eqb}
use Rattle.std.proofs.Math.Path.{refl, ap}
use Rattle.std.proofs.Math.Bool.{true, false}
use Rattle.std.proofs.Common.{inl, inr, arith, eq-eqb, ne_eqb}
use Rattle.state.specs.declared.state.Session.{Session}
use Rattle.session.specs.Effects.{Effect, working_after, kept_after}
use Rattle.state.specs.Refusals.{SY_ERR, done}
use Rattle.checks.specs.Operations.{operation_of}
use Rattle.state.specs.States.{session, answer}
use Rattle.session.specs.Sound.{sound}
use Rattle.session.specs.Rows.{refusal_of, effect}
use Rattle.session.specs.Step.{Outcome, outcome, refused_answer, log_after, finished, core, step}
use Rattle.session.specs.Laws.Range.{Refusing, Refused, row_fair, refusal_range}

-- what a call that is done leaves
abbrev pub completed : Session → List ℕ → List ℕ → Effect → Outcome
completed x w k e =
    outcome (answer done e.value (session e.state (log_after e.state x.log))) (working_after e.tables w k) (kept_after e.tables w k)

pub data Way (op a b c : ℕ) (x : Session) (w k : List ℕ) : Outcome → Type 0 where
  unsound : sound x w k ≡ false → Way op a b c x w k (outcome (answer SY_ERR 0 x) w k)
  refusing : (r : ℕ) → sound x w k ≡ true → Refusing r → Way op a b c x w k (outcome (refused_answer op r x) w k)
  doing : sound x w k ≡ true
      → refusal_of (operation_of op) a b c x.state w ≡ done
      → (effect (operation_of op) a b c x.state w).refusal ≡ done
      → Way op a b c x w k (completed x w k (effect (operation_of op) a b c x.state w))

module _ (op a b c : ℕ) (x : Session) (w k : List ℕ) where
  its_refusal : ℕ
  its_refusal = refusal_of (operation_of op) a b c x.state w

  its_effect : Effect
  its_effect = effect (operation_of op) a b c x.state w

  nonzero : (r : ℕ) → Refusing r → eqb r done ≡ false
  nonzero r h = ne_eqb r done (λ e. omega arith)

  effect_way : sound x w k ≡ true → its_refusal ≡ done → (its_effect.refusal ≡ done) ⊎ Refused x.state its_effect → Way op a b c x w k (finished op x w k its_effect)
  unfolding its_effect its_refusal
  effect_way h p (inl e) = rw (eq-eqb its_effect.refusal done e) (doing h p e)
  effect_way h p (inr e) = rw (nonzero its_effect.refusal e.range, ap (λ (d : Effect). d.tables) e.nothing) (refusing its_effect.refusal h e.range)

  core_way : sound x w k ≡ true → (its_refusal ≡ done) ⊎ Refusing its_refusal → Way op a b c x w k (core op a b c x w k)
  unfolding core its_effect its_refusal
  core_way h (inl e) = rw (eq-eqb its_refusal done e) (effect_way h e (row_fair (operation_of op) a b c x.state w).effect)
  core_way h (inr e) = rw (nonzero its_refusal e) (rw (nonzero its_refusal e) (refusing its_refusal h e))

  pub way : Way op a b c x w k (step op a b c x w k)
  unfolding step its_refusal
  way = by_soundness (sound x w k) refl
    where
      by_soundness : (s : Bool) → sound x w k ≡ s → Way op a b c x w k (cond s (core op a b c x w k) (outcome (answer SY_ERR 0 x) w k))
      by_soundness true h = core_way h (refusal_range (operation_of op) a b c x.state w)
      by_soundness false h = unsound h
