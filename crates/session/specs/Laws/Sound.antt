-- The tests of a session: how the code's tests give the definition's.
use Rattle.std.specs.Prelude.{◌≡◌, refl, Bool, true, false, not, ◌&&◌, ◌||◌, List, ℕ, ◌+◌, ◌/◌, ◌%◌, ◌^◌, ◌≤◌, ◌<◌, eqb, length, get_or}
use Rattle.std.proofs.Common.{sym, ap, ◌∙◌, arith, eq-eqb, lt-ltb, le-ltb}
use Rattle.std.proofs.lemmas.Bool.{false≢true}
use Rattle.std.specs.Int.Bits.{bit_and}
use Rattle.std.proofs.lemmas.Nat.{and_le_l}
use Rattle.words.specs.declared.layout.Kind.TheVariants.{Model, SchemaInstance}
use Rattle.words.specs.Layout.{words, count_of, place_of}
use Rattle.logic.specs.Search.{all_b}
use Rattle.words.specs.Sets.{bits, none, has}
use Rattle.words.specs.Fields.{is_free, repository_in}
use Rattle.words.specs.Entries.{formed, all_formed}
use Rattle.words.specs.Laws.Fields.{label_test}
use Rattle.logic.specs.Laws.Bools.{and_left}
use Rattle.logic.specs.Laws.Decides.{equal, denied, every, restated, same_test, itself}
use Rattle.words.specs.Laws.Sets.{has_none, set_member, none_is_empty}
use Rattle.words.specs.Laws.Entries.{entry_test}
use Rattle.tables.specs.View.{label_at}
use Rattle.tables.specs.Sound.{distinct, sound_group, sound_tables}
use Rattle.tables.specs.Laws.Sound.{table_long, table_entries, sound_working}
use Rattle.logic.specs.Laws.Search.{all_from, all_same, all_both}
use Rattle.tables.specs.Laws.Live.{has_and, within_by_and}
use Rattle.state.specs.declared.state.Event.{Event}
use Rattle.state.specs.declared.state.State.{State}
use Rattle.state.specs.States.{slots, blank_event}
use Rattle.session.specs.Sound.{sound_event, is_blank, sound_slot, sound_slots, may_see, sound_access}
use Rattle.session.specs.Quick.Access.{is_seen, seen_at, in_open}

-- sound tables are long
pub sound_long : (writing : Bool) (working kept : List ℕ) → sound_tables writing working kept ≡ true → words ≤ length working
sound_long writing working kept h = table_long working (sound_working writing working kept h)

-- ---- the log

-- a slot with an event, and one behind the last event
pub used_slot : (count i : ℕ) (e : Event) → i < count → sound_slot count i e ≡ sound_event e
used_slot count i e l = rw (lt-ltb i count l)

pub unused_slot : (count i : ℕ) (e : Event) → count ≤ i → sound_slot count i e ≡ is_blank e
unused_slot count i e l = rw (le-ltb i count l)

-- sixteen slots, each by itself
pub by_slots : (count : ℕ) (events : List Event) → length events ≡ slots → sound_slots count events ≡ all_b slots (λ i. sound_slot count i (get_or events i blank_event))
unfolding sound_slots
by_slots count events n = rw (eq-eqb (length events) slots n)

-- ---- the access sets

-- model m's word is word m
pub model_label : (t : List ℕ) (m : ℕ) → m < bits → label_at t Model m ≡ get_or t m 0
model_label t m l =
    let e : place_of Model m + 0 ≡ m = omega arith in
    rw ((entry_test Model m 0).passes (l, omega arith)) (ap (λ (at : ℕ). get_or t at 0) e)

-- the machine's test that two sets share no member
apart_by_and : (a b : ℕ) → a < 2 ^ bits → eqb (bit_and a b) none ≡ all_b bits (λ m. not (has a m && has b m))
apart_by_and a b h =
    same_test _ _
    (restated (equal (bit_and a b) none) shared (λ w. none_is_empty (bit_and a b) (omega (arith, and_le_l a b)) (λ m l. alone m (has a m && has b m) refl (w m l))))
    (every bits _ (λ m. (has a m && has b m) ≡ true → ⊥) (λ m. denied _ (itself (has a m && has b m))))
  where
    shared : bit_and a b ≡ none → (m : ℕ) → m < bits → (has a m && has b m) ≡ true → ⊥
    shared e m l p = false≢true (sym (has_none m) ∙ ap (λ (x : ℕ). has x m) (sym e) ∙ has_and a b m ∙ p)

    alone : (m : ℕ) (c : Bool) → (has a m && has b m) ≡ c → ((has a m && has b m) ≡ true → ⊥) → has (bit_and a b) m ≡ false
    alone m true p w = absurd (w p)
    alone m false p w = has_and a b m ∙ p

-- of one model: in at most one set, and if it is in one, to be seen
one_model : (reads writes seen : Bool) → (not (reads && writes) && (not reads || seen) && (not writes || seen)) ≡ (not (reads && writes) && (not (reads || writes) || seen))
one_model true true seen = refl
one_model true false true = refl
one_model true false false = refl
one_model false true seen = refl
one_model false false seen = refl

pub access_by_sets : (working : List ℕ) (s : State) → s.ro < 2 ^ bits → s.rw < 2 ^ bits
    → (eqb (bit_and s.ro s.rw) none && eqb (bit_and s.ro (in_open working s.repositories)) s.ro && eqb (bit_and s.rw (in_open working s.repositories)) s.rw) ≡ sound_access working s
unfolding sound_access
access_by_sets working s hr hw =
    let seen = in_open working s.repositories in
    let apart : ℕ → Bool = λ m. not (has s.ro m && has s.rw m) in
    let reads : ℕ → Bool = λ m. not (has s.ro m) || has seen m in
    let writes : ℕ → Bool = λ m. not (has s.rw m) || has seen m in
    rw (apart_by_and s.ro s.rw hr, within_by_and s.ro seen hr, within_by_and s.rw seen hw)
    (rw (all_both bits apart reads, all_both bits (λ m. apart m && reads m) writes)
    (all_same bits _ (may_see working s)
    (λ m l. rw (set_member (seen_at working s.repositories) bits m (omega arith) l) (one_model (has s.ro m) (has s.rw m) (seen_at working s.repositories m)))))

-- without access there is nothing to ask
pub no_access_lem : (working : List ℕ) (s : State) → s.ro ≡ none → s.rw ≡ none → sound_access working s ≡ true
unfolding sound_access
no_access_lem working s r w = all_from bits (may_see working s) (λ m l. rw (r, w, has_none m))

-- the labels of a sound table are sound
pub sound_labels_lem : (writing : Bool) (working kept : List ℕ) → sound_tables writing working kept ≡ true → all_formed working Model ≡ true
sound_labels_lem writing working kept h =
    let entries = table_entries working (sound_working writing working kept h) in
    let models = all_formed working Model && distinct working Model in
    let groups = all_b (count_of SchemaInstance) (sound_group working) in
    and_left (all_formed working Model) (distinct working Model)
    (and_left models groups (and_left (models && groups) (distinct working SchemaInstance) entries))

-- of a sound label the repository's bit is asked for by six of its bits
pub seen_by_bits : (repositories label : ℕ) → formed Model label ≡ true
    → (not (is_free label) && eqb (repositories / 2 ^ (label / 0x1_0000_0000 % 64) % 2) 1) ≡ is_seen repositories label
seen_by_bits repositories label h = by_free (is_free label) refl
  where
    by_free : (free : Bool) → is_free label ≡ free
        → (not free && eqb (repositories / 2 ^ (label / 0x1_0000_0000 % 64) % 2) 1) ≡ (not free && has repositories (repository_in label))
    by_free true e = refl
    by_free false e =
        let small = ((label_test label).holds (rw e at h)).repository in
        let same : label / 0x1_0000_0000 % 64 ≡ repository_in label = omega (arith, small) in
        ap (λ (m : ℕ). eqb (repositories / 2 ^ m % 2) 1) same
