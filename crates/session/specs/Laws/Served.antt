-- What comes of an operation that was served: a refused one has changed nothing, and with the log it is a call.
use Rattle.std.specs.Prelude.{ℕ, ◌≡◌, refl, true, ◌⊎◌, List, Result}
use Rattle.state.specs.declared.refusals.Refused.{Refused as Why}
use Rattle.std.proofs.Common.{sym, subst, ◌∙◌, inl, inr}
use Rattle.std.proofs.Math.Path.{ap}
use Rattle.state.specs.declared.state.State.{State}
use Rattle.state.specs.declared.state.Session.{Session}
use Rattle.state.specs.declared.state.Answer.{Answer}
use Rattle.state.specs.Refusals.{done}
use Rattle.state.specs.States.{session, answer}
use Rattle.state.specs.Quick.Lent.{sets_of, marks_of, state_of}
use Rattle.state.specs.Laws.Lent.{state_told}
use Rattle.checks.specs.Operations.{operation_of}
use Rattle.session.specs.Effects.{Effect}
use Rattle.session.specs.Rows.{performed}
use Rattle.session.specs.Step.{outcome, finished_answer, core}
use Rattle.session.specs.Quick.Answers.{log_stays, log_of}
use Rattle.session.specs.declared.call.Reply.{Reply}
use Rattle.session.specs.Quick.Served.{Served, Serving, serving, served, served_by, Lending, lending, lent_from, lent_by}
use Rattle.state.specs.Laws.Numbers.{told_one}
use Rattle.session.specs.Laws.Range.{Refused, done_or_refused}
use Rattle.session.specs.Laws.Answers.{answer_built, answer_carried, stays_done}

-- a refusal with value 0, the state and the tables as they were
pub serving_refused : (s : State) (e : Effect) (w k : List ℕ) → (e.refusal ≡ done) ⊎ Refused s e → (e.refusal ≡ done → ⊥)
    → serving (record { refusal = e.refusal; value = 0; state = e.state }) w k ≡ served_by e w k
serving_refused s e w k (inl d) h = absurd (h d)
serving_refused s e w k (inr r) h =
    subst (λ (x : Effect). serving (record { refusal = x.refusal; value = 0; state = x.state }) w k ≡ served_by x w k) (sym r.nothing) refl

says_nothing : (s : State) (e : Effect) → (e.refusal ≡ done) ⊎ Refused s e → (e.refusal ≡ done) ⊎ ((e.value ≡ 0) × (e.state ≡ s))
says_nothing s e (inl d) = inl d
says_nothing s e (inr r) = inr (ap (λ (x : Effect). x.value) r.nothing, ap (λ (x : Effect). x.state) r.nothing)

module _ (op a b c : ℕ) (x : Session) (w k : List ℕ) (r : Served) (w' k' : List ℕ)
    (is : serving r w' k' ≡ served_by (performed (operation_of op) a b c x.state w) w k) where
  answered : (y : Answer) → y ≡ finished_answer op x r.refusal r.value r.state → outcome y w' k' ≡ core op a b c x w k
  unfolding core
  answered y e =
      ap (λ (y : Answer). outcome y w' k') e
      ∙ ap (λ (z : Serving). outcome (finished_answer op x z.served.refusal z.served.value z.served.state) z.working z.kept) is

  -- with the answer that is built from its parts
  pub served_core : outcome (answer r.refusal r.value (session r.state (log_of op r.refusal x r.state))) w' k' ≡ core op a b c x w k
  served_core = answered _ (answer_built op r.refusal r.value x r.state nothing)
    where
      nothing : (r.refusal ≡ done) ⊎ ((r.value ≡ 0) × (r.state ≡ x.state))
      nothing =
          rw (ap (λ (z : Serving). z.served) is)
          (says_nothing x.state (performed (operation_of op) a b c x.state w) (done_or_refused (operation_of op) a b c x.state w))

  -- with the one where the log stays
  pub served_carried : log_stays r.refusal r.state ≡ true → outcome (answer done r.value (session r.state x.log)) w' k' ≡ core op a b c x w k
  served_carried h = answered _ (answer_carried op r.refusal r.value x r.state h)

  -- the same of what is given, which is done where the log stays
  pub served_stays : log_stays r.refusal r.state ≡ true → outcome (answer r.refusal r.value (session r.state x.log)) w' k' ≡ core op a b c x w k
  served_stays h =
      ap (λ (n : ℕ). outcome (answer n r.value (session r.state x.log)) w' k') (stays_done r.refusal r.state h) ∙ served_carried h

-- what was given is known by what is left
pub given_one : (x y : Result ℕ Why) (s s' : State) (w k w' k' : List ℕ) → serving (served x s) w k ≡ serving (served y s') w' k' → x ≡ y
given_one x y s s' w k w' k' e = told_one x y (ap (λ (z : Serving). z.served.refusal) e) (ap (λ (z : Serving). z.served.value) e)

-- what is read back where the state was lent
abbrev told_by : Lending → Serving
told_by z = serving (record { refusal = z.reply.refusal; value = z.reply.value; state = state_of z.sets z.marks }) z.working z.kept

told_back : (z : Serving) → told_by (lent_from z) ≡ z
told_back z = ap (λ (s : State). serving (record { refusal = z.served.refusal; value = z.served.value; state = s }) z.working z.kept) (state_told z.served.state)

-- the same with the state lent and read back
module _ (op a b c : ℕ) (x : Session) (w k sets marks : List ℕ) (r : Reply) (sets' marks' w' k' : List ℕ) (state : State)
    (lent_sets : sets ≡ sets_of x.state) (lent_marks : marks ≡ marks_of x.state)
    (is : lending r sets' marks' w' k' ≡ lent_by (performed (operation_of op) a b c (state_of sets marks) w) w k) (back : state ≡ state_of sets' marks') where
  abbrev read_back : Served
  read_back = record { refusal = r.refusal; value = r.value; state = state }

  before : state_of sets marks ≡ x.state
  before = rw (lent_sets, lent_marks) (state_told x.state)

  lent_served : serving read_back w' k' ≡ served_by (performed (operation_of op) a b c x.state w) w k
  lent_served = rw (back, sym before) (ap told_by is ∙ told_back (served_by (performed (operation_of op) a b c (state_of sets marks) w) w k))

  pub lent_core : outcome (answer r.refusal r.value (session state (log_of op r.refusal x state))) w' k' ≡ core op a b c x w k
  lent_core = served_core op a b c x w k read_back w' k' lent_served

  pub lent_carried : log_stays r.refusal state ≡ true → outcome (answer done r.value (session state x.log)) w' k' ≡ core op a b c x w k
  lent_carried h = served_carried op a b c x w k read_back w' k' lent_served h
