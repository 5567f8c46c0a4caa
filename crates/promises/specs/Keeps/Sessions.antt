-- Operations on the session, its repositories, transactions and access: the state stays sound.
use Rattle.std.specs.Prelude.{◌≡◌, refl, true, false, ◌&&◌, ◌||◌, List, ℕ, zero, suc, ◌≤◌, ◌<◌, eqb}
use Rattle.std.proofs.Common.{◌∙◌, arith, lit<, eqb-true}
use Rattle.words.specs.declared.layout.Kind.TheVariants.{Model}
use Rattle.words.specs.Sets.{none, has, insert, remove}
use Rattle.words.specs.Fields.{repositories, repository_in}
use Rattle.words.specs.Copies.{copied}
use Rattle.logic.specs.Laws.Bools.{and_left, and_right, and_both, or_right}
use Rattle.words.specs.Laws.Sets.{has_insert}
use Rattle.tables.specs.View.{is_live, label_at}
use Rattle.state.specs.declared.state.Session.{Session}
use Rattle.state.specs.States.{NONE, RO, RW, ABORTED, is_open, under, with_recording, with_transaction, with_repositories, with_access, ended, opened_state}
use Rattle.session.specs.Sound.{may_access}
use Rattle.promises.specs.Keeps.Facts.{SoundTables}
use Rattle.promises.specs.Keeps.SessionFacts.{Closed, Sound}
use Rattle.promises.specs.Keeps.Copied.{turned, copy_agrees, copy_sound}
use Rattle.promises.specs.Keeps.Afterwards.{Leaves, no_access_lem, Opened, opened_sound}

-- a repository more keeps the set within its eight bits
repository_opened : (s r : ℕ) → s < 0x100 → r < repositories → insert s r < 0x100
repository_opened s zero h l = omega arith
repository_opened s (suc zero) h l = omega arith
repository_opened s (suc (suc zero)) h l = omega arith
repository_opened s (suc (suc (suc zero))) h l = omega arith
repository_opened s (suc (suc (suc (suc zero)))) h l = omega arith
repository_opened s (suc (suc (suc (suc (suc zero))))) h l = omega arith
repository_opened s (suc (suc (suc (suc (suc (suc zero)))))) h l = omega arith
repository_opened s (suc (suc (suc (suc (suc (suc (suc zero))))))) h l = omega arith
repository_opened s (suc (suc (suc (suc (suc (suc (suc (suc r)))))))) h l = absurd (omega arith)

module _ (x : Session) (w k : List ℕ) (h : Sound x w k) where
  -- the session as it is
  as_it_is : Opened w k x.state
  as_it_is = record {
    tables = h.tables;
    recording = h.session.recording;
    repositories = h.session.repositories;
    transaction = h.session.transaction;
    access = h.session.access;
  }

  pub session_opened : is_open x.state ≡ false → Leaves x.log opened_state w k
  session_opened closed =
      let c : Closed x = h.session.closed closed in
      opened_sound w k opened_state x.log refl
      (record {
        tables = record { working = h.tables.working; kept = h.tables.kept; agreeing = λ e. h.tables.agreeing (rw c.transaction) };
        recording = omega arith;
        repositories = lit< tt;
        transaction = record { known = omega arith; no_writing_lem = λ e. refl; no_reading = λ e. refl };
        access = λ m l. no_access_lem w opened_state refl refl m;
      })
      h.session.log

  module _ (opened : is_open x.state ≡ true) where
    pub unchanged : Leaves x.log x.state w k
    unchanged = opened_sound w k x.state x.log opened as_it_is h.session.log

    pub recorded : (on : ℕ) → on ≤ 1 → Leaves x.log (with_recording x.state on) w k
    recorded on l =
        opened_sound w k (with_recording x.state on) x.log opened
        (record {
          tables = h.tables;
          recording = l;
          repositories = h.session.repositories;
          transaction = record { known = h.session.transaction.known; no_writing_lem = h.session.transaction.no_writing_lem; no_reading = h.session.transaction.no_reading };
          access = λ m b. record { one = (h.session.access m b).one; may = (h.session.access m b).may };
        })
        h.session.log

    pub repository_made : (r : ℕ) → r < repositories → Leaves x.log (with_repositories x.state (insert x.state.repositories r)) w k
    repository_made r l =
        opened_sound w k (with_repositories x.state (insert x.state.repositories r)) x.log opened
        (record {
          tables = h.tables;
          recording = h.session.recording;
          repositories = repository_opened x.state.repositories r h.session.repositories l;
          transaction = record { known = h.session.transaction.known; no_writing_lem = h.session.transaction.no_writing_lem; no_reading = h.session.transaction.no_reading };
          access = λ m b. record { one = (h.session.access m b).one; may = λ e. by_cases m ((h.session.access m b).may e) };
        })
        h.session.log
      where
        more : (n : ℕ) → has x.state.repositories n ≡ true → has (insert x.state.repositories r) n ≡ true
        more n e = has_insert x.state.repositories r n (omega arith) ∙ or_right (eqb n r) _ e

        by_cases : (m : ℕ) → may_access w x.state m ≡ true
            → (is_live w Model m && has (insert x.state.repositories r) (repository_in (label_at w Model m))) ≡ true
        by_cases m e = and_both _ _ (and_left (is_live w Model m) _ e) (more _ (and_right (is_live w Model m) _ e))

    -- ---- no transaction

    module _ (nothing : under x.state NONE ≡ true) where
      at_rest : under x.state RW ≡ false
      at_rest = rw (eqb-true x.state.transaction NONE nothing)

      no_one : (under x.state RW || under x.state RO) ≡ false
      no_one = rw (eqb-true x.state.transaction NONE nothing)

      no_reader : x.state.ro ≡ none
      no_reader = h.session.transaction.no_reading no_one

      no_writer : x.state.rw ≡ none
      no_writer = h.session.transaction.no_writing_lem at_rest

      pub repository_gone : (r : ℕ) → Leaves x.log (with_repositories x.state (remove x.state.repositories r)) w k
      repository_gone r =
          opened_sound w k (with_repositories x.state (remove x.state.repositories r)) x.log opened
          (record {
            tables = h.tables;
            recording = h.session.recording;
            repositories = omega (arith, h.session.repositories);
            transaction = record { known = h.session.transaction.known; no_writing_lem = h.session.transaction.no_writing_lem; no_reading = h.session.transaction.no_reading };
            access = λ m b. no_access_lem w (with_repositories x.state (remove x.state.repositories r)) no_reader no_writer m;
          })
          h.session.log

      pub started : (y : ℕ) → y ≤ ABORTED → Leaves x.log (with_transaction x.state y) w k
      started y l =
          opened_sound w k (with_transaction x.state y) x.log opened
          (record {
            tables = record { working = h.tables.working; kept = h.tables.kept; agreeing = λ e. h.tables.agreeing at_rest };
            recording = h.session.recording;
            repositories = h.session.repositories;
            transaction = record { known = l; no_writing_lem = λ e. no_writer; no_reading = λ e. no_reader };
            access = λ m b. no_access_lem w (with_transaction x.state y) no_reader no_writer m;
          })
          h.session.log

    -- ---- a transaction goes on, or ends

    pub commits : Leaves x.log x.state w (copied w k)
    commits =
        opened_sound w (copied w k) x.state x.log opened
        (record {
          tables = record { working = h.tables.working; kept = copy_sound w k h.tables.working h.tables.kept; agreeing = λ e. copy_agrees w k h.tables.working h.tables.kept };
          recording = h.session.recording;
          repositories = h.session.repositories;
          transaction = h.session.transaction;
          access = h.session.access;
        })
        h.session.log

    pub aborts : Leaves x.log (with_access x.state none none) (copied k w) k
    aborts =
        opened_sound (copied k w) k (with_access x.state none none) x.log opened
        (record {
          tables = record {
            working = copy_sound k w h.tables.kept h.tables.working;
            kept = h.tables.kept;
            agreeing = λ e. turned k (copied k w) (copy_agrees k w h.tables.kept h.tables.working);
          };
          recording = h.session.recording;
          repositories = h.session.repositories;
          transaction = record { known = h.session.transaction.known; no_writing_lem = λ e. refl; no_reading = λ e. refl };
          access = λ m b. no_access_lem (copied k w) (with_access x.state none none) refl refl m;
        })
        h.session.log

    pub ends : (y : ℕ) → y ≤ ABORTED → (w' k' : List ℕ) → SoundTables false w' k' → Leaves x.log (ended x.state y) w' k'
    ends y l w' k' t =
        opened_sound w' k' (ended x.state y) x.log opened
        (record {
          tables = record { working = t.working; kept = t.kept; agreeing = λ e. t.agreeing refl };
          recording = h.session.recording;
          repositories = h.session.repositories;
          transaction = record { known = l; no_writing_lem = λ e. refl; no_reading = λ e. refl };
          access = λ m b. no_access_lem w' (ended x.state y) refl refl m;
        })
        h.session.log
