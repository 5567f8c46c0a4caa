-- A sound session, as statements.
use Rattle.std.specs.Prelude.{◌≡◌, refl, true, false, ◌||◌, List, ℕ, ◌≤◌, ◌<◌, ltb, length, get_or}
use Rattle.words.specs.Sets.{none, bits, has}
use Rattle.logic.specs.Laws.Decides.{Decides, both, equal, less, at_most, every, restated, itself, choice, whenever, unless, not_both}
use Rattle.state.specs.declared.state.State.{State}
use Rattle.state.specs.declared.state.Log.{Log}
use Rattle.state.specs.declared.state.Session.{Session}
use Rattle.state.specs.States.{NONE, RO, RW, ABORTED, is_open, under, slots, blank_event}
use Rattle.session.specs.Sound.{sound_event, is_blank, sound_slots, sound_log, may_access, sound_access, sound_transaction, sound_open, sound_session, sound}
use Rattle.promises.specs.Keeps.Facts.{SoundTables, tables_test}

pub record SoundLog (l : Log) : Type 0 where
  pub few : l.count ≤ slots
  pub size : length l.events ≡ slots
  pub used : (i : ℕ) → i < slots → ltb i l.count ≡ true → sound_event (get_or l.events i blank_event) ≡ true
  pub blank : (i : ℕ) → i < slots → ltb i l.count ≡ false → is_blank (get_or l.events i blank_event) ≡ true

pub log_test : (l : Log) → Decides (sound_log l) (SoundLog l)
unfolding sound_log sound_slots
log_test l =
    restated
    (both _ _ (at_most l.count slots)
    (both _ _ (equal (length l.events) slots)
    (every slots _ _ (λ i. choice (ltb i l.count) _ _ (itself (sound_event (get_or l.events i blank_event))) (itself (is_blank (get_or l.events i blank_event)))))))
    (λ h. record { few = h.0; size = h.1.0; used = λ i b. (h.1.1 i b).0; blank = λ i b. (h.1.1 i b).1 })
    (λ h. (h.few, (h.size, λ i b. (h.used i b, h.blank i b))))

-- what a model must be for access to it
pub record SoundAccess (w : List ℕ) (s : State) (m : ℕ) : Type 0 where
  pub one : has s.ro m ≡ true → has s.rw m ≡ false
  pub may : (has s.ro m || has s.rw m) ≡ true → may_access w s m ≡ true

access_test : (w : List ℕ) (s : State) → Decides (sound_access w s) ((m : ℕ) → m < bits → SoundAccess w s m)
unfolding sound_access
access_test w s =
    every bits _ _
    (λ m. restated (both _ _ (not_both (has s.ro m) (has s.rw m)) (whenever (has s.ro m || has s.rw m) _ (itself (may_access w s m))))
    (λ h. record { one = h.0; may = h.1 })
    (λ h. (h.one, h.may)))

-- what a closed session is
pub record Closed (x : Session) : Type 0 where
  pub opened : x.state.opened ≡ 0
  pub recording : x.state.recording ≡ 0
  pub transaction : x.state.transaction ≡ NONE
  pub repositories : x.state.repositories ≡ none
  pub count : x.log.count ≡ 0

open_test : (x : Session) → Decides (sound_open x) (is_open x.state ≡ false → Closed x)
unfolding sound_open
open_test x =
    restated
    (choice (is_open x.state) true _ (itself true)
    (both _ _
    (both _ _ (both _ _ (both _ _ (equal x.state.opened 0) (equal x.state.recording 0)) (equal x.state.transaction NONE)) (equal x.state.repositories none))
    (equal x.log.count 0)))
    (λ h e. record { opened = (h.1 e).0.0.0.0; recording = (h.1 e).0.0.0.1; transaction = (h.1 e).0.0.1; repositories = (h.1 e).0.1; count = (h.1 e).1 })
    (λ h. ((λ e. refl), λ e. (((((h e).opened, (h e).recording), (h e).transaction), (h e).repositories), (h e).count)))

-- what the transaction says of the sets
pub record SoundTransaction (s : State) : Type 0 where
  pub known : s.transaction ≤ ABORTED
  pub no_writing_lem : under s RW ≡ false → s.rw ≡ none
  pub no_reading : (under s RW || under s RO) ≡ false → s.ro ≡ none

transaction_test : (s : State) → Decides (sound_transaction s) (SoundTransaction s)
unfolding sound_transaction
transaction_test s =
    restated
    (both _ _ (both _ _ (at_most s.transaction ABORTED) (unless (under s RW) _ (equal s.rw none))) (unless (under s RW || under s RO) _ (equal s.ro none)))
    (λ h. record { known = h.0.0; no_writing_lem = h.0.1; no_reading = h.1 })
    (λ h. ((h.known, h.no_writing_lem), h.no_reading))

pub record SoundSession (w : List ℕ) (x : Session) : Type 0 where
  pub closed : is_open x.state ≡ false → Closed x
  pub recording : x.state.recording ≤ 1
  pub repositories : x.state.repositories < 0x100
  pub transaction : SoundTransaction x.state
  pub access : (m : ℕ) → m < bits → SoundAccess w x.state m
  pub log : SoundLog x.log

session_test : (w : List ℕ) (x : Session) → Decides (sound_session w x) (SoundSession w x)
unfolding sound_session
session_test w x =
    restated
    (both _ _
    (both _ _
    (both _ _ (both _ _ (both _ _ (open_test x) (at_most x.state.recording 1)) (less x.state.repositories 0x100)) (transaction_test x.state))
    (access_test w x.state))
    (log_test x.log))
    (λ h. record { closed = h.0.0.0.0.0; recording = h.0.0.0.0.1; repositories = h.0.0.0.1; transaction = h.0.0.1; access = h.0.1; log = h.1 })
    (λ h. (((((h.closed, h.recording), h.repositories), h.transaction), h.access), h.log))

pub record Sound (x : Session) (w k : List ℕ) : Type 0 where
  pub tables : SoundTables (under x.state RW) w k
  pub session : SoundSession w x

pub sound_test : (x : Session) (w k : List ℕ) → Decides (sound x w k) (Sound x w k)
unfolding sound
sound_test x w k =
    restated (both _ _ (tables_test (under x.state RW) w k) (session_test w x))
    (λ h. record { tables = h.0; session = h.1 })
    (λ h. (h.tables, h.session))
