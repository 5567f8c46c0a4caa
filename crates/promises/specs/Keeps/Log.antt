-- A refusal keeps the state sound: at most one event is added to the log.
use Rattle.std.specs.Prelude.{◌≡◌, refl, Bool, true, false, cond, ◌&&◌, ◌⊎◌, List, [], ◌∷◌, ◌++◌, ℕ, ◌+◌, ◌≤◌, ◌<◌, eqb, ltb, length, get_or, set, drop}
use Rattle.std.proofs.Common.{sym, ◌∙◌, inl, inr, arith, length-set, length-drop, length-append, get_or-set_same, get_or-set_other, get_or-drop, ltb-true, ltb-false, lt-ltb, le-ltb}
use Rattle.std.proofs.Math.ListN.{get_or-append}
use Rattle.std.proofs.lemmas.List.{get_or_at}
use Rattle.state.specs.declared.state.Event.{Event}
use Rattle.state.specs.declared.state.Log.{Log}
use Rattle.state.specs.declared.state.Session.{Session}
use Rattle.state.specs.States.{is_open, slots, event, blank_event, log, added, session, noted}
use Rattle.session.specs.Sound.{sound_event}
use Rattle.logic.specs.Laws.Bools.{clash}
use Rattle.session.specs.Laws.Range.{Refusing, refusing_test}
use Rattle.promises.specs.Keeps.Frame.{same_or_not}
use Rattle.promises.specs.Keeps.SessionFacts.{SoundLog, Sound}

module _ (l : Log) (e : Event) (h : SoundLog l) (good : sound_event e ≡ true) where
  -- an event in the next slot
  one_more : l.count < slots → SoundLog (log (l.count + 1) (set l.events l.count e))
  one_more room = record {
    few = omega arith;
    size = length-set l.events l.count e ∙ h.size;
    used = λ i b u. used i b (same_or_not i l.count) (ltb-true _ _ u);
    blank = λ i b u.
        let behind = ltb-false i (l.count + 1) u in
        rw (get_or-set_other l.events l.count i e blank_event (λ q. omega (arith, behind))) (h.blank i b (le-ltb i l.count (omega (arith, behind))));
  }
    where
      used : (i : ℕ) → i < slots → (i ≡ l.count) ⊎ (i ≡ l.count → ⊥) → i < l.count + 1
          → sound_event (get_or (set l.events l.count e) i blank_event) ≡ true
      used i b (inl q) u = rw (q, get_or-set_same l.events l.count e blank_event (omega (arith, h.size))) good
      used i b (inr q) u = rw (get_or-set_other l.events l.count i e blank_event q) (h.used i b (lt-ltb i l.count (omega arith)))

  -- the oldest drops out
  pushed : slots ≤ l.count → SoundLog (log l.count (drop 1 l.events ++ (e ∷ [])))
  pushed full = record {
    few = h.few;
    size = length-append (drop 1 l.events) (e ∷ []) ∙ omega (arith, shorter);
    used = λ i b u. used i b (same_or_not i 15);
    blank = λ i b u. absurd (omega (arith, ltb-false i l.count u));
  }
    where
      shorter : length (drop 1 l.events) ≡ 15
      shorter = length-drop 1 l.events ∙ omega (arith, h.size)

      used : (i : ℕ) → i < slots → (i ≡ 15) ⊎ (i ≡ 15 → ⊥) → sound_event (get_or (drop 1 l.events ++ (e ∷ [])) i blank_event) ≡ true
      used i b (inl q) = rw (get_or_at (drop 1 l.events) e [] blank_event i (shorter ∙ sym q)) good
      used i b (inr q) =
          rw (get_or-append (drop 1 l.events) (e ∷ []) blank_event i (omega (arith, shorter)), get_or-drop 1 l.events i blank_event)
          (h.used (1 + i) (omega arith) (lt-ltb (1 + i) l.count (omega arith)))

  added_sound : SoundLog (added l e)
  added_sound = by_cases (ltb l.count slots) refl
    where
      by_cases : (b : Bool) → ltb l.count slots ≡ b
          → SoundLog (cond b (log (l.count + 1) (set l.events l.count e)) (log l.count (drop 1 l.events ++ (e ∷ []))))
      by_cases true q = one_more (ltb-true _ _ q)
      by_cases false q = pushed (ltb-false _ _ q)

pub noted_sound : (x : Session) (op r : ℕ) (w k : List ℕ) → Refusing r → Sound x w k → Sound (noted x op r) w k
noted_sound x op r w k refusing h = by_cases (is_open x.state) refl (eqb x.state.recording 1)
  where
    by_cases : (a : Bool) → is_open x.state ≡ a → (b : Bool) → Sound (cond (a && b) (session x.state (added x.log (event op r))) x) w k
    by_cases true opened true = record {
      tables = h.tables;
      session = record {
        closed = λ e. clash _ opened e;
        recording = h.session.recording;
        repositories = h.session.repositories;
        transaction = h.session.transaction;
        access = h.session.access;
        log = added_sound x.log (event op r) h.session.log ((refusing_test r).passes refusing);
      };
    }
    by_cases true opened false = h
    by_cases false opened b = h
