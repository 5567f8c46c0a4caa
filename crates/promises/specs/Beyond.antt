-- Words from 739 on (CHIP, words of a table): over a whole call they are neither written nor read.
use Rattle.std.specs.Prelude.{◌≡◌, Bool, cond, ◌⊎◌, ℕ, ◌≤◌, ◌<◌, length, get_or}
use Rattle.std.proofs.Math.Path.{refl, ap}
use Rattle.std.proofs.Common.{sym, ◌∙◌, inl, inr, arith}
use Rattle.std.proofs.Math.Bool.{true, false}
use mathlib.Core.List.{List, [], ◌∷◌, ◌++◌}
use Rattle.logic.specs.Laws.Bools.{decided, fails, clash}
use Rattle.logic.specs.Laws.Decides.{same_test, restated, at_most}
use Rattle.words.specs.Layout.{words}
use Rattle.words.specs.Copies.{is_long, agree, copied}
use Rattle.words.specs.Laws.Copies.{Agreeing, agree_test, agree_entries, agree_cursors, length_copied, copied_alike, copied_beyond}
use Rattle.tables.specs.Sound.{sound_tables}
use Rattle.tables.specs.Laws.Sound.{sound_alike}
use Rattle.tables.specs.Laws.Changes.{Kept, change_keeps}
use Rattle.state.specs.declared.state.Session.{Session}
use Rattle.state.specs.declared.state.Answer.{Answer}
use Rattle.session.specs.Effects.{Tables, Stay, Commit, Drop, Changed, working_after, kept_after, unless_refused}
use Rattle.state.specs.Refusals.{SY_ERR}
use Rattle.state.specs.States.{answer}
use Rattle.checks.specs.Operations.{operation_of}
use Rattle.session.specs.Sound.{sound_session, sound}
use Rattle.checks.specs.Checks.{first_of, gate}
use Rattle.session.specs.Rows.{Row, effect, refusal_of, performed}
use Rattle.session.specs.Step.{Outcome, outcome, finished, core, step}
use Rattle.session.specs.Runs.{Call, Answered, Chip, Empty, Fresh, answered, answered_by, outcome_of, after_by, history_by, after, history}
use Rattle.promises.specs.Keeps.SessionFacts.{Sound, sound_test}
use Rattle.promises.specs.Keeps.Ways.{Way, unsound, refusing, doing, way}
use Rattle.promises.specs.Keeps.Alike.{row_alike, access_alike, apply_alike}

-- ---- never written

-- both tables have their lengths after a call, and their words from 739 on
pub record BeyondKept (w k : List ℕ) (o : Outcome) : Type 0 where
  pub working : Kept w o.working
  pub kept : Kept k o.kept

as_it_was : (t : List ℕ) → Kept t t
as_it_was t = record { lengths = refl; beyond = refl }

copy_keeps : (from to : List ℕ) → words ≤ length from → words ≤ length to → Kept to (copied from to)
copy_keeps from to hf ht = record { lengths = length_copied from to; beyond = copied_beyond from to hf ht }

module _ (w k : List ℕ) (hw : words ≤ length w) (hk : words ≤ length k) where
  working_keeps : (tables : Tables) → Kept w (working_after tables w k)
  working_keeps Stay = as_it_was w
  working_keeps Commit = as_it_was w
  working_keeps Drop = copy_keeps k w hk hw
  working_keeps (Changed change) = change_keeps change w

  kept_keeps : (tables : Tables) → Kept k (kept_after tables w k)
  kept_keeps Stay = as_it_was k
  kept_keeps Commit = copy_keeps w k hw hk
  kept_keeps Drop = as_it_was k
  kept_keeps (Changed change) = as_it_was k

by_way : (op a b c : ℕ) (x : Session) (w k : List ℕ) (o : Outcome) → Way op a b c x w k o → BeyondKept w k o
by_way op a b c x w k o (unsound h) = record { working = as_it_was w; kept = as_it_was k }
by_way op a b c x w k o (refusing r h e) = record { working = as_it_was w; kept = as_it_was k }
by_way op a b c x w k o (doing h p e) =
    let both = ((sound_test x w k).holds h).tables in
    let tables = (effect (operation_of op) a b c x.state w).tables in
    record {
      working = working_keeps w k both.working.long both.kept.long tables;
      kept = kept_keeps w k both.working.long both.kept.long tables;
    }

-- **No call writes a word from 739 on or changes a table's length**, whatever the tables.
pub never_written : (op a b c : ℕ) (x : Session) (w k : List ℕ) → BeyondKept w k (step op a b c x w k)
never_written op a b c x w k = by_way op a b c x w k (step op a b c x w k) (way op a b c x w k)

-- ---- never read

-- alike in the words in use; both have them all or neither does, since a shorter table is unsound
pub record AlikeInUse (t u : List ℕ) : Type 0 where
  pub long : is_long t ≡ is_long u
  pub words_alike : (i : ℕ) → i < words → get_or t i 0 ≡ get_or u i 0

-- what two calls leave: one answer, session included, and tables alike in the words in use
pub record AlikeLeft (o o' : Outcome) : Type 0 where
  pub answers : o.answer ≡ o'.answer
  pub working : AlikeInUse o.working o'.working
  pub kept : AlikeInUse o.kept o'.kept

agreeing_in_use : {t u : List ℕ} → Agreeing t u → AlikeInUse t u
agreeing_in_use {t} {u} h = record {
  long = (at_most words (length t)).passes h.left ∙ sym ((at_most words (length u)).passes h.right);
  words_alike = h.alike;
}

in_use_agreeing : {t u : List ℕ} → AlikeInUse t u → is_long t ≡ true → Agreeing t u
in_use_agreeing {t} {u} h l = record { left = (at_most words (length t)).holds l; right = (at_most words (length u)).holds (sym h.long ∙ l); alike = h.words_alike }

copy_alike : (f t f' t' : List ℕ) → Agreeing f f' → Agreeing t t' → Agreeing (copied f t) (copied f' t')
copy_alike f t f' t' h g = record {
  left = omega (arith, length_copied f t, g.left);
  right = omega (arith, length_copied f' t', g.right);
  alike = λ i l. copied_alike f t h.left g.left i l ∙ h.alike i l ∙ sym (copied_alike f' t' h.right g.right i l);
}

module _ (w k w' k' : List ℕ) (hw : Agreeing w w') (hk : Agreeing k k') where
  working_alike : (tables : Tables) → Agreeing (working_after tables w k) (working_after tables w' k')
  working_alike Stay = hw
  working_alike Commit = hw
  working_alike Drop = copy_alike k w k' w' hk hw
  working_alike (Changed change) = apply_alike w w' hw change

  kept_alike : (tables : Tables) → Agreeing (kept_after tables w k) (kept_after tables w' k')
  kept_alike Stay = hk
  kept_alike Commit = copy_alike w k w' k' hw hk
  kept_alike Drop = hk
  kept_alike (Changed change) = hk

  agree_alike : agree w k ≡ agree w' k'
  agree_alike =
      same_test _ _ (agree_test w k)
      (restated (agree_test w' k')
      (λ h. record { left = hw.left; right = hk.left; alike = λ i l. hw.alike i l ∙ h.alike i l ∙ sym (hk.alike i l) })
      (λ h. record { left = hw.right; right = hk.right; alike = λ i l. sym (hw.alike i l) ∙ h.alike i l ∙ hk.alike i l }))

  state_alike : (x : Session) → sound x w k ≡ sound x w' k'
  unfolding sound sound_tables sound_session
  state_alike x = rw (sound_alike w w' hw, sound_alike k k' hk, agree_alike, access_alike w w' (agree_entries w w' hw) x.state)

  performed_alike : (op a b c : ℕ) (x : Session) → performed (operation_of op) a b c x.state w ≡ performed (operation_of op) a b c x.state w'
  unfolding refusal_of
  performed_alike op a b c x =
      ap
      (λ (row : Row). unless_refused (first_of (gate (operation_of op) x.state ++ row.checks)) x.state row.effect)
      (row_alike w w' (agree_entries w w' hw) (agree_cursors w w' hw) (operation_of op) a b c x.state)

  agreeing_step : (op a b c : ℕ) (x : Session) → AlikeLeft (step op a b c x w k) (step op a b c x w' k')
  unfolding step core
  agreeing_step op a b c x = rw (state_alike x, performed_alike op a b c x) (by_cases (sound x w' k'))
    where
      by_cases : (s : Bool)
          → AlikeLeft
          (cond s (finished op x w k (performed (operation_of op) a b c x.state w')) (outcome (answer SY_ERR 0 x) w k))
          (cond s (finished op x w' k' (performed (operation_of op) a b c x.state w')) (outcome (answer SY_ERR 0 x) w' k'))
      by_cases true = record {
        answers = refl;
        working = agreeing_in_use (working_alike (performed (operation_of op) a b c x.state w').tables);
        kept = agreeing_in_use (kept_alike (performed (operation_of op) a b c x.state w').tables);
      }
      by_cases false = record { answers = refl; working = agreeing_in_use hw; kept = agreeing_in_use hk }

-- a table that is not long is unsound
unsound_short : (x : Session) (w k : List ℕ) → (is_long w ≡ false) ⊎ (is_long k ≡ false) → sound x w k ≡ false
unsound_short x w k h = fails (sound x w k) (λ s. by_cases ((sound_test x w k).holds s) h)
  where
    by_cases : Sound x w k → (is_long w ≡ false) ⊎ (is_long k ≡ false) → ⊥
    by_cases s (inl e) = clash _ ((at_most words (length w)).passes s.tables.working.long) e
    by_cases s (inr e) = clash _ ((at_most words (length k)).passes s.tables.kept.long) e

-- **No call reads a word from 739 on**: tables that are alike below give one answer and are left alike below.
pub never_read : (op a b c : ℕ) (x : Session) (w k w' k' : List ℕ) → AlikeInUse w w' → AlikeInUse k k' → AlikeLeft (step op a b c x w k) (step op a b c x w' k')
unfolding step
never_read op a b c x w k w' k' hw hk = by_cases (decided (is_long w)) (decided (is_long k))
  where
    short : (is_long w ≡ false) ⊎ (is_long k ≡ false) → (is_long w' ≡ false) ⊎ (is_long k' ≡ false) → AlikeLeft (step op a b c x w k) (step op a b c x w' k')
    short e e' = rw (unsound_short x w k e, unsound_short x w' k' e') (record { answers = refl; working = hw; kept = hk })

    by_cases : (is_long w ≡ true) ⊎ (is_long w ≡ false) → (is_long k ≡ true) ⊎ (is_long k ≡ false) → AlikeLeft (step op a b c x w k) (step op a b c x w' k')
    by_cases (inl l) (inl m) = agreeing_step w k w' k' (in_use_agreeing hw l) (in_use_agreeing hk m) op a b c x
    by_cases (inr l) m = short (inl l) (inl (sym hw.long ∙ l))
    by_cases (inl l) (inr m) = short (inr m) (inr (sym hk.long ∙ m))

-- ---- over a run

pub record AlikeChips (chip chip' : Chip) : Type 0 where
  pub session : chip.session ≡ chip'.session
  pub working : AlikeInUse chip.working chip'.working
  pub kept : AlikeInUse chip.kept chip'.kept

pub alike_outcomes : (chip chip' : Chip) → AlikeChips chip chip' → (q : Call) → AlikeLeft (outcome_of chip q) (outcome_of chip' q)
alike_outcomes chip chip' h q =
    rw h.session (never_read q.op q.a q.b q.c chip'.session chip.working chip.kept chip'.working chip'.kept h.working h.kept)

module _ (begun begun' : Chip) (h : AlikeChips begun begun') where
  pub alike_after : (calls : List Call) → AlikeChips (after begun calls) (after begun' calls)
  unfolding after_by
  alike_after [] = h
  alike_after (q ∷ calls) =
      let o = alike_outcomes _ _ (alike_after calls) q in
      record { session = ap (λ (a : Answer). a.session) o.answers; working = o.working; kept = o.kept }

  pub alike_history : (calls : List Call) → history begun calls ≡ history begun' calls
  unfolding history_by
  alike_history [] = refl
  alike_history (q ∷ calls) =
      ap
      (λ (a : Answer). answered q a ∷ history begun calls)
      (alike_outcomes _ _ (alike_after calls) q).answers
      ∙ ap (λ (l : List Answered). answered_by q (outcome_of (after begun' calls) q) ∷ l) (alike_history calls)

-- fresh chips, whatever the lengths of their tables, are alike
pub fresh_alike : (begun begun' : Chip) → Fresh begun → Fresh begun' → AlikeChips begun begun'
fresh_alike begun begun' f g = record {
  session = f.session ∙ sym g.session;
  working = empty_alike f.working g.working;
  kept = empty_alike f.kept g.kept;
}
  where
    empty_alike : {t u : List ℕ} → Empty t → Empty u → AlikeInUse t u
    empty_alike e i = agreeing_in_use (record { left = e.long; right = i.long; alike = λ j l. e.zeros j l ∙ sym (i.zeros j l) })
