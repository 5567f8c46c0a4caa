-- What a call leaves of the session and the tables, and what that must be for the state to stay sound.
use Rattle.std.specs.Prelude.{◌≡◌, refl, Bool, true, false, cond, ◌||◌, List, ℕ, ◌≤◌, ◌<◌}
use Rattle.std.proofs.Common.{ap, ◌∙◌, arith, lit<, eq-eqb}
use Rattle.std.proofs.Math.Bool.{or-true}
use Rattle.std.proofs.lemmas.Bool.{eqb-false}
use Rattle.words.specs.declared.layout.Kind.TheVariants.{Model}
use Rattle.logic.specs.Search.{all_b}
use Rattle.words.specs.Sets.{none, bits, has}
use Rattle.words.specs.Copies.{copied}
use Rattle.logic.specs.Laws.Bools.{and_left, clash}
use Rattle.words.specs.Laws.Sets.{has_none}
use Rattle.tables.specs.View.{is_live, label_at}
use Rattle.state.specs.declared.state.State.{State}
use Rattle.state.specs.declared.state.Log.{Log}
use Rattle.state.specs.declared.state.Session.{Session}
use Rattle.state.specs.States.{NONE, RO, RW, ABORTED, is_open, under, closed_state, blank_log, session}
use Rattle.session.specs.Sound.{sound_slots, sound_log, may_access}
use Rattle.session.specs.Effects.{Stay, Commit, Drop, working_after, kept_after, if_writing}
use Rattle.session.specs.Step.{log_after}
use Rattle.promises.specs.Keeps.Facts.{SoundTable, SoundTables}
use Rattle.promises.specs.Keeps.SessionFacts.{SoundLog, log_test, SoundAccess, SoundTransaction, SoundSession, Sound}
use Rattle.promises.specs.Keeps.Copied.{turned, copy_agrees, copy_sound}

-- no access is sound access
pub no_access_lem : (w : List ℕ) (s : State) → s.ro ≡ none → s.rw ≡ none → (m : ℕ) → SoundAccess w s m
no_access_lem w s ro rw' m = record {
  one = λ e. ap (λ (x : ℕ). has x m) rw' ∙ has_none m;
  may = λ e. clash (has s.ro m || has s.rw m) e (rw (ap (λ (x : ℕ). has x m) ro ∙ has_none m, ap (λ (x : ℕ). has x m) rw' ∙ has_none m));
}

-- a closed session is sound
pub closed_sound : (w : List ℕ) → SoundSession w (session closed_state blank_log)
unfolding sound_log sound_slots all_b
closed_sound w = record {
  closed = λ e. record { opened = refl; recording = refl; transaction = refl; repositories = refl; count = refl };
  recording = omega arith;
  repositories = lit< tt;
  transaction = record { known = omega arith; no_writing_lem = λ e. refl; no_reading = λ e. refl };
  access = λ m l. no_access_lem w closed_state refl refl m;
  log = (log_test blank_log).holds refl;
}

-- what an open session must be
pub record Opened (w k : List ℕ) (s : State) : Type 0 where
  pub tables : SoundTables (under s RW) w k
  pub recording : s.recording ≤ 1
  pub repositories : s.repositories < 0x100
  pub transaction : SoundTransaction s
  pub access : (m : ℕ) → m < bits → SoundAccess w s m

-- a call that is done leaves this state, and what it leaves is sound
abbrev pub Leaves : Log → State → List ℕ → List ℕ → Type 0
Leaves l s w k = Sound (session s (log_after s l)) w k

pub opened_sound : (w k : List ℕ) (s : State) (l : Log) → is_open s ≡ true → Opened w k s → SoundLog l → Leaves l s w k
opened_sound w k s l opened o h = by_cases (is_open s) opened
  where
    by_cases : (b : Bool) → b ≡ true → Sound (session s (cond b l blank_log)) w k
    by_cases true e = record {
      tables = o.tables;
      session = record { closed = λ e. clash _ opened e; recording = o.recording; repositories = o.repositories; transaction = o.transaction; access = o.access; log = h };
    }
    by_cases false e = clash false e refl

-- ---- transactions

module _ (s : State) (h : SoundTransaction s) where
  -- one that is neither aborted nor none nor RO is RW
  pub writing : under s ABORTED ≡ false → under s NONE ≡ false → under s RO ≡ false → under s RW ≡ true
  writing a n r =
      let aborted : s.transaction ≡ ABORTED → ⊥ = eqb-false _ _ a in
      let nothing : s.transaction ≡ NONE → ⊥ = eqb-false _ _ n in
      let reading : s.transaction ≡ RO → ⊥ = eqb-false _ _ r in
      eq-eqb s.transaction RW (omega (arith, h.known))

  -- one that is neither aborted nor none is RO or RW
  pub going : under s ABORTED ≡ false → under s NONE ≡ false → (under s RW || under s RO) ≡ true
  going a n = by_cases (under s RO) refl
    where
      by_cases : (b : Bool) → under s RO ≡ b → (under s RW || b) ≡ true
      by_cases true r = or-true (under s RW)
      by_cases false r = rw (writing a n r)

module _ (w k : List ℕ) (s : State) (h : SoundTables (under s RW) w k) where
  -- RW or not, what is dropped or committed leaves tables that agree
  pub dropped : SoundTables false (working_after (if_writing s Drop) w k) (kept_after (if_writing s Drop) w k)
  dropped = by_cases (under s RW) refl
    where
      by_cases : (b : Bool) → under s RW ≡ b → SoundTables false (working_after (cond b Drop Stay) w k) (kept_after (cond b Drop Stay) w k)
      by_cases true e = record {
        working = copy_sound k w h.kept h.working;
        kept = h.kept;
        agreeing = λ f. turned k (copied k w) (copy_agrees k w h.kept h.working);
      }
      by_cases false e = record { working = h.working; kept = h.kept; agreeing = λ f. h.agreeing e }

  pub committed : SoundTables false (working_after (if_writing s Commit) w k) (kept_after (if_writing s Commit) w k)
  committed = by_cases (under s RW) refl
    where
      by_cases : (b : Bool) → under s RW ≡ b → SoundTables false (working_after (cond b Commit Stay) w k) (kept_after (cond b Commit Stay) w k)
      by_cases true e = record { working = h.working; kept = copy_sound w k h.working h.kept; agreeing = λ f. copy_agrees w k h.working h.kept }
      by_cases false e = record { working = h.working; kept = h.kept; agreeing = λ f. h.agreeing e }

-- ---- a table is changed, the session stays

-- access to a model whose label is as it was
pub access_stays : (w w' : List ℕ) (s : State) (m : ℕ) → (is_live w Model m ≡ true → label_at w' Model m ≡ label_at w Model m)
    → SoundAccess w s m → SoundAccess w' s m
access_stays w w' s m same h = record { one = h.one; may = λ e. by_cases (h.may e) }
  where
    by_cases : may_access w s m ≡ true → may_access w' s m ≡ true
    by_cases e = rw (same (and_left (is_live w Model m) _ e)) e

pub table_changed : (x : Session) (w w' k : List ℕ) → Sound x w k → is_open x.state ≡ true → under x.state RW ≡ true
    → SoundTable w' → ((m : ℕ) → is_live w Model m ≡ true → label_at w' Model m ≡ label_at w Model m)
    → Leaves x.log x.state w' k
table_changed x w w' k h opened writes good same =
    opened_sound w' k x.state x.log opened
    (record {
      tables = record { working = good; kept = h.tables.kept; agreeing = λ e. clash _ writes e };
      recording = h.session.recording;
      repositories = h.session.repositories;
      transaction = h.session.transaction;
      access = λ m l. access_stays w w' x.state m (same m) (h.session.access m l);
    })
    h.session.log
