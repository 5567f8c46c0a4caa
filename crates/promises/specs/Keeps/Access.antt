-- Access given and ended: the state stays sound.
use Rattle.std.specs.Prelude.{◌≡◌, refl, Bool, true, false, cond, not, ◌&&◌, ◌||◌, ◌⊎◌, List, ℕ, ◌<◌}
use Rattle.std.proofs.Common.{sym, ap, ◌∙◌, inl, inr, arith, eq-eqb, ne_eqb}
use Rattle.tables.specs.Laws.Sound.{live_below_lem}
use Rattle.words.specs.declared.layout.Kind.TheVariants.{Model}
use Rattle.words.specs.Sets.{none, bits, has, insert, remove}
use Rattle.logic.specs.Laws.Bools.{and_left, clash}
use Rattle.words.specs.Laws.Sets.{has_insert, has_remove}
use Rattle.tables.specs.View.{is_live, label_at}
use Rattle.state.specs.declared.state.Session.{Session}
use Rattle.state.specs.States.{RO, RW, is_open, under, with_access, woken}
use Rattle.session.specs.Sound.{may_access}
use Rattle.promises.specs.Keeps.Facts.{SoundTables}
use Rattle.promises.specs.Keeps.Frame.{same_or_not}
use Rattle.promises.specs.Keeps.SessionFacts.{SoundAccess, Sound}
use Rattle.promises.specs.Keeps.Afterwards.{Leaves, opened_sound, access_stays}
use Rattle.promises.specs.Keeps.Sessions.{unchanged}

same_member : (s a m : ℕ) → a < bits → (m ≡ a → ⊥) → has (insert s a) m ≡ has s m
same_member s a m l apart = has_insert s a m l ∙ ap (λ (b : Bool). b || has s m) (ne_eqb m a apart)

same_remaining : (s a m : ℕ) → (m ≡ a → ⊥) → has (remove s a) m ≡ has s m
same_remaining s a m apart = has_remove s a m ∙ ap (λ (b : Bool). not b && has s m) (ne_eqb m a apart)

not_remaining : (s a : ℕ) → has (remove s a) a ≡ false
not_remaining s a = has_remove s a a ∙ ap (λ (b : Bool). not b && has s a) (eq-eqb a a refl)

none_remain : (s a : ℕ) → s ≡ none → remove s a ≡ none
none_remain s a e = omega arith

module _ (x : Session) (w k : List ℕ) (h : Sound x w k) (opened : is_open x.state ≡ true) (a : ℕ) where
  module _ (may : may_access w x.state a ≡ true) where
    inside : a < bits
    inside = live_below_lem w Model a (and_left (is_live w Model a) _ may)

    pub reads : (under x.state RW || under x.state RO) ≡ true → has x.state.rw a ≡ false
        → Leaves x.log (with_access x.state (insert x.state.ro a) x.state.rw) w k
    reads going free =
        opened_sound w k (with_access x.state (insert x.state.ro a) x.state.rw) x.log opened
        (record {
          tables = h.tables;
          recording = h.session.recording;
          repositories = h.session.repositories;
          transaction = record { known = h.session.transaction.known; no_writing_lem = h.session.transaction.no_writing_lem; no_reading = λ e. clash _ going e };
          access = λ m b. by_cases m b (same_or_not m a);
        })
        h.session.log
      where
        by_cases : (m : ℕ) → m < bits → (m ≡ a) ⊎ (m ≡ a → ⊥) → SoundAccess w (with_access x.state (insert x.state.ro a) x.state.rw) m
        by_cases m b (inl e) = rw e (record { one = λ q. free; may = λ q. may })
        by_cases m b (inr e) = record {
          one = λ q. (h.session.access m b).one (sym (same_member x.state.ro a m inside e) ∙ q);
          may = λ q. (h.session.access m b).may (rw (same_member x.state.ro a m inside e) at q);
        }

    -- a model without access is woken
    pub wakes : (under x.state RW || under x.state RO) ≡ true → Leaves x.log (woken x.state a) w k
    wakes going = by_cases (has x.state.rw a) refl
      where
        by_cases : (b : Bool) → has x.state.rw a ≡ b → Leaves x.log (cond b x.state (with_access x.state (insert x.state.ro a) x.state.rw)) w k
        by_cases true e = unchanged x w k h opened
        by_cases false e = reads going e

    module _ (writing : under x.state RW ≡ true) where
      -- beside an RO set that has not the model, and is else as it was
      joins : (ro : ℕ) → has ro a ≡ false → ((m : ℕ) → (m ≡ a → ⊥) → has ro m ≡ has x.state.ro m)
          → Leaves x.log (with_access x.state ro (insert x.state.rw a)) w k
      joins ro free same =
          opened_sound w k (with_access x.state ro (insert x.state.rw a)) x.log opened
          (record {
            tables = h.tables;
            recording = h.session.recording;
            repositories = h.session.repositories;
            transaction = record { known = h.session.transaction.known; no_writing_lem = λ e. clash _ writing e; no_reading = λ e. clash _ (rw writing) e };
            access = λ m b. by_cases m b (same_or_not m a);
          })
          h.session.log
        where
          by_cases : (m : ℕ) → m < bits → (m ≡ a) ⊎ (m ≡ a → ⊥) → SoundAccess w (with_access x.state ro (insert x.state.rw a)) m
          by_cases m b (inl e) = rw e (record { one = λ q. clash _ q free; may = λ q. may })
          by_cases m b (inr e) = record {
            one = λ q. same_member x.state.rw a m inside e ∙ (h.session.access m b).one (sym (same m e) ∙ q);
            may = λ q. (h.session.access m b).may (rw (same m e, same_member x.state.rw a m inside e) at q);
          }

      pub writes : has x.state.ro a ≡ false → Leaves x.log (with_access x.state x.state.ro (insert x.state.rw a)) w k
      writes free = joins x.state.ro free (λ m e. refl)

      pub promotes : Leaves x.log (with_access x.state (remove x.state.ro a) (insert x.state.rw a)) w k
      promotes = joins (remove x.state.ro a) (not_remaining x.state.ro a) (λ m e. same_remaining x.state.ro a m e)

  -- access to a model ends; other live models have the labels that they had
  pub access_gone : (w' : List ℕ) → SoundTables (under x.state RW) w' k
      → ((m : ℕ) → (m ≡ a → ⊥) → label_at w' Model m ≡ label_at w Model m)
      → Leaves x.log (with_access x.state (remove x.state.ro a) (remove x.state.rw a)) w' k
  access_gone w' tables same =
      opened_sound w' k (with_access x.state (remove x.state.ro a) (remove x.state.rw a)) x.log opened
      (record {
        tables = tables;
        recording = h.session.recording;
        repositories = h.session.repositories;
        transaction = record {
          known = h.session.transaction.known;
          no_writing_lem = λ e. none_remain x.state.rw a (h.session.transaction.no_writing_lem e);
          no_reading = λ e. none_remain x.state.ro a (h.session.transaction.no_reading e);
        };
        access = λ m b. by_cases m b (same_or_not m a);
      })
      h.session.log
    where
      by_cases : (m : ℕ) → m < bits → (m ≡ a) ⊎ (m ≡ a → ⊥) → SoundAccess w' (with_access x.state (remove x.state.ro a) (remove x.state.rw a)) m
      by_cases m b (inl e) =
          rw e
          (record {
            one = λ q. not_remaining x.state.rw a;
            may = λ q. clash (has (remove x.state.ro a) a || has (remove x.state.rw a) a) q (rw (not_remaining x.state.ro a, not_remaining x.state.rw a));
          })
      by_cases m b (inr e) =
          let before : SoundAccess w' x.state m = access_stays w w' x.state m (λ live. same m e) (h.session.access m b) in
          record {
            one = λ q. same_remaining x.state.rw a m e ∙ before.one (sym (same_remaining x.state.ro a m e) ∙ q);
            may = λ q. before.may (rw (same_remaining x.state.ro a m e, same_remaining x.state.rw a m e) at q);
          }
