-- The working table tells what remains, and the kept one what would remain of a drop.
use Rattle.std.specs.Prelude.{ℕ, ◌≡◌, Bool, true, ◌||◌}
use Rattle.std.proofs.Math.Path.{refl, ap}
use Rattle.std.proofs.Common.{subst, ◌∙◌, ⊎_elim, arith}
use Rattle.std.proofs.Math.Bool.{false, cond, not, or-false}
use mathlib.Core.List.{List, [], ◌∷◌, ◌++◌}
use Rattle.std.proofs.Math.Dec.{eqb}
use borrow.Author.Tests.{ne_eqb}
use Rattle.logic.specs.Laws.Bools.{clash}
use Rattle.words.specs.declared.layout.Kind.{Kind}
use Rattle.words.specs.declared.layout.Kind.TheVariants.{SchemaInstance, Instance}
use Rattle.words.specs.Sets.{none, has}
use Rattle.words.specs.Fields.{is_free, flagged}
use Rattle.words.specs.Entries.{word_of}
use Rattle.words.specs.Laws.Sets.{has_none}
use Rattle.words.specs.Laws.Copies.{Agreeing, agree_entries}
use Rattle.state.specs.declared.state.State.{State}
use Rattle.tables.specs.declared.changes.Change.{Change}
use Rattle.tables.specs.Changes.{apply}
use Rattle.session.specs.Effects.{Tables, working_after, kept_after}
use Rattle.state.specs.Refusals.{done}
use Rattle.checks.specs.Operations.{operation_of}
use Rattle.checks.specs.Checks.{Check, gate}
use Rattle.session.specs.Step.{Outcome}
use Rattle.session.specs.Runs.{Call, Answered, Chip, Empty, Fresh, left, answered_by, after_by, history_by, outcome_of, after, history}
use Rattle.promises.proofs.Fresh.{no_word, no_cursor}
use Rattle.promises.specs.Reached.{SoundChip}
use Rattle.promises.proofs.Reached.{reached_sound}
use Rattle.session.specs.Laws.Range.{Clear, passed}
use Rattle.promises.specs.Keeps.Ways.{Way, unsound, refusing, doing, way}
use Rattle.promises.specs.Keeps.Facts.{SoundTable}
use Rattle.promises.specs.Keeps.SessionFacts.{Sound, sound_test}
use Rattle.promises.specs.Keeps.Copied.{copy_agrees, turned}
use Rattle.history.specs.Remains.{drops, remaining_if}
use Rattle.history.specs.Live.{Member, SetTo}
use Rattle.history.specs.Demand3.{Asked, creation_of, tried_first}
use Rattle.history.proofs.Saying.{Said, saying}
use Rattle.history.proofs.Reading.{Tests, asked, told, is_drop, is_commit, in_said, word_asked, gave_number, creation_is, done_by, reads}
use Rattle.history.proofs.Since.{since_nothing}
use Rattle.history.proofs.Told.{Words, Told, told_on, told_past}
use Rattle.history.proofs.Cursors.{Points, agree_points, points_past, points_on}
use Rattle.history.proofs.Deleting.{no_flag_free}
use Rattle.history.proofs.Speaking.{Speaks, quiet, change, commit, commit_clean, drop, drop_clean, speaks, creation_holds}

-- ---- what a table shows of a history: its words tell it, and its cursors point past it

pub record Shows (t : List ℕ) (h : List Answered) : Type 0 where
  pub words_told : Told (word_of t) h
  pub points : Points t h

-- tables that agree show the same
agree_shows : (a b : List ℕ) (r : List Answered) → Agreeing a b → Shows a r → Shows b r
agree_shows a b r h t = record {
  words_told = subst (λ (e : Words). Told e r) (λ i kind n k. agree_entries a b h kind n k i) t.words_told;
  points = agree_points a b r h t.points;
}

shows_past : (x : Answered) (s : Said) → asked x ≡ told s → ((f : Change → Bool) → in_said f s ≡ false) → (h : List Answered) (t : List ℕ) → Shows t h → Shows t (x ∷ h)
shows_past x s r none h t w = record { words_told = told_past x s r none h (word_of t) w.words_told; points = points_past x s r none h t w.points }

-- ---- one call more

record Both (w k : List ℕ) (x : Answered) (h : List Answered) : Type 0 where
  working : Shows w (remaining_if (x ∷ h) false)
  kept : Shows k (remaining_if (x ∷ h) true)

module _ (w k : List ℕ) (hw : SoundTable w) (hk : SoundTable k) (h : List Answered)
    (tw : Shows w (remaining_if h false)) (tk : Shows k (remaining_if h true)) where
  -- a call that is refused is struck out
  struck : (x : Answered) → (x.refusal ≡ done → ⊥) → Both w k x h
  unfolding remaining_if
  struck x f =
      let no : eqb x.refusal done ≡ false = ne_eqb x.refusal done f in
      record { working = rw no tw; kept = rw no tk }

  module _ (x : Answered) (was_done : x.refusal ≡ done) (fits : (kind : Kind) → x.call.op ≡ creation_of kind → Asked kind (word_asked kind x.call) x.call) where
    -- one that is done remains, and drops or commits what it says
    appended : (s : Said) → asked x ≡ told s → remaining_if (x ∷ h) false ≡ x ∷ remaining_if h (is_drop s)
    unfolding remaining_if
    appended s r =
        ap (λ (n : ℕ). cond (eqb n done) (x ∷ remaining_if h (drops x || false)) (remaining_if h false)) was_done
        ∙ ap (λ (b : Bool). x ∷ remaining_if h b) (or-false (drops x) ∙ ap (λ (t : Tests). t.drops) r)

    pended : (s : Said) → asked x ≡ told s → remaining_if (x ∷ h) true ≡ remaining_if h (is_drop s || not (is_commit s))
    unfolding remaining_if
    pended s r = rw was_done (ap (λ (t : Tests). remaining_if h (t.drops || not t.commits)) r)

    both : (s : Said) (w' k' : List ℕ) → asked x ≡ told s → Shows w' (x ∷ remaining_if h (is_drop s))
        → Shows k' (remaining_if h (is_drop s || not (is_commit s))) → Both w' k' x h
    both s w' k' r a b = record { working = rw (appended s r) a; kept = rw (pended s r) b }

    spoken : (s : Said) (tables : Tables) → asked x ≡ told s → Speaks w k s tables → Both (working_after tables w k) (kept_after tables w k) x h
    spoken s tables r quiet = both s _ _ r (shows_past x s r (λ f. refl) _ _ tw) tk
    spoken s tables r (change c a) = both s _ _ r changed tk
      where
        changed : Shows (apply c w) (x ∷ remaining_if h false)
        changed = record {
          words_told = told_on x c r _ _ _ tw.words_told (λ kind n g. fits kind (gave_number (creation_of kind) n x g)) a;
          points = points_on x _ w hw.long tw.points c r;
        }
    spoken s tables r commit = both s _ _ r (shows_past x s r (λ f. refl) _ _ tw) (agree_shows w _ _ (copy_agrees w k hw hk) tw)
    spoken s tables r (commit_clean e) = both s _ _ r (shows_past x s r (λ f. refl) _ _ tw) (agree_shows w k _ e tw)
    spoken s tables r drop = both s _ _ r (shows_past x s r (λ f. refl) _ _ (agree_shows k _ _ (copy_agrees k w hk hw) tk)) tk
    spoken s tables r (drop_clean e) = both s _ _ r (shows_past x s r (λ f. refl) _ _ (agree_shows k w _ (turned w k e) tk)) tk

pub record Holds (chip : Chip) (h : List Answered) : Type 0 where
  pub working : Shows chip.working (remaining_if h false)
  pub kept : Shows chip.kept (remaining_if h true)

-- a number that no operation has does not pass the gate
reads_done : (q : Call) (value : ℕ) (s : State) (rest : List Check) → Clear (gate (operation_of q.op) s ++ rest)
    → asked (done_by q value) ≡ told (saying (operation_of q.op) q.a q.b q.c value)
unfolding Clear
reads_done q value s rest p = ⊎_elim (λ u. clash true refl (rw u at p).0) (λ r. r) (reads q value)

module _ (q : Call) (chip : Chip) (h : List Answered) (good : SoundChip chip) (w : Holds chip h) where
  facts : Sound chip.session chip.working chip.kept
  facts = (sound_test chip.session chip.working chip.kept).holds good

  by_way : (o : Outcome) → Way q.op q.a q.b q.c chip.session chip.working chip.kept o → Both o.working o.kept (answered_by q o) h
  by_way o (unsound u) = clash _ good u
  by_way o (refusing r s f) = struck chip.working chip.kept facts.tables.working facts.tables.kept h w.working w.kept _ (λ e. omega (arith, e, f.from))
  by_way o (doing s p e) =
      let clear = passed (operation_of q.op) q.a q.b q.c chip.session.state chip.working p in
      spoken chip.working chip.kept facts.tables.working facts.tables.kept h w.working w.kept (done_by q _) refl
      (λ kind o. creation_holds q chip.session.state chip.working kind (rw (o, creation_is kind) at clear)) _ _
      (reads_done q _ chip.session.state _ clear)
      (speaks q.a q.b q.c chip.session chip.working chip.kept facts q.small (operation_of q.op) clear e)

  called : Holds (left (outcome_of chip q)) (answered_by q (outcome_of chip q) ∷ h)
  called =
      let b = by_way (outcome_of chip q) (way q.op q.a q.b q.c chip.session chip.working chip.kept) in
      record { working = b.working; kept = b.kept }

-- ---- from fresh

module _ (t : List ℕ) (h : Empty t) where
  empty_told : Told (word_of t) []
  unfolding Member SetTo
  empty_told = record {
    live = λ kind n l. clash (is_free 0) refl (rw (no_word t h kind n 0) at l);
    made_by = λ kind n q s. absurd (since_nothing s);
    members = λ s m. ((λ x. absurd (since_nothing x)), (λ w. clash (has none m) (rw (no_word t h SchemaInstance s 1) at w) (has_none m)));
    attributes = λ i k v. ((λ x. absurd (since_nothing x.2)), (λ w. clash (flagged 0 k) (rw (no_word t h Instance i 0) at w.set) (no_flag_free k)));
  }

  empty_shows : Shows t []
  unfolding tried_first
  empty_shows = record { words_told = empty_told; points = no_cursor t h }

module _ (begun : Chip) (fresh : Fresh begun) where
  pub holds : (calls : List Call) → Holds (after begun calls) (history begun calls)
  unfolding after_by history_by remaining_if
  holds [] = record { working = empty_shows begun.working fresh.working; kept = empty_shows begun.kept fresh.kept }
  holds (q ∷ calls) = called q (after begun calls) (history begun calls) (reached_sound begun fresh calls) (holds calls)
