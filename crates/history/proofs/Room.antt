-- Room for a creation, by what the words tell.
use Rattle.std.specs.Prelude.{ℕ, ◌≤◌, ◌<◌, ◌≡◌, refl, Bool, true, false, ◌↔◌, List, ◌∷◌, eqb}
use Rattle.std.proofs.Math.Path.{ap, sym}
use Rattle.std.proofs.Common.{◌∙◌, ⊎_elim, arith}
use Rattle.std.proofs.Math.Bool.{or-false}
use Rattle.std.proofs.Math.Decide.{dec_lt}
use borrow.Author.Tests.{eq-eqb, ne_eqb, lt-ltb, le-ltb}
use Rattle.words.specs.declared.layout.Kind.{Kind}
use Rattle.words.specs.declared.layout.Kind.TheVariants.{Model, SchemaInstance, Instance}
use Rattle.words.specs.Layout.{count_of}
use Rattle.words.specs.Entries.{word_of, free_at, next_free}
use Rattle.words.proofs.Found.{next_is_free, next_found, next_nowhere}
use Rattle.checks.specs.declared.operations.Operation.TheVariants as operation
use Rattle.state.specs.declared.state.State.{State}
use Rattle.state.specs.declared.state.Session.{Session}
use Rattle.session.specs.Effects.{Effect, created}
use Rattle.state.specs.Refusals.{NO_ROOM, done, number_in}
use Rattle.checks.specs.Operations.{operation_of}
use Rattle.session.specs.Sound.{sound}
use Rattle.session.specs.Rows.{refusal_of, effect}
use Rattle.session.specs.Step.{Outcome, finished, core, step}
use Rattle.promises.proofs.Core.{core_on_sound}
use Rattle.logic.specs.Laws.Bools.{clash}
use Rattle.promises.specs.Keeps.Frame.{same_or_not}
use Rattle.session.specs.Runs.{Call, Answered}
use Rattle.history.specs.Remains.{gave, remaining_if}
use Rattle.history.specs.Live.{still, Live}
use Rattle.history.specs.Demand3.{Full, creation_of, deletion_of}
use Rattle.history.proofs.Saying.{first_word}
use Rattle.history.proofs.Reading.{creator, ended}
use Rattle.history.proofs.Since.{since_cases, lives, is_live_lem}
use Rattle.history.proofs.Told.{Told}

-- ---- a call that passes its checks is answered as its effect says

module _ (op a b c : ℕ) (x : Session) (w k : List ℕ) (s : sound x w k ≡ true) (p : refusal_of (operation_of op) a b c x.state w ≡ done) where
  goes_on : step op a b c x w k ≡ finished op x w k (effect (operation_of op) a b c x.state w)
  unfolding core
  goes_on = core_on_sound op a b c x w k s ∙ rw p

  pub refusal_told : (step op a b c x w k).answer.refusal ≡ number_in (effect (operation_of op) a b c x.state w).refusal
  refusal_told = ap (λ (o : Outcome). o.answer.refusal) goes_on ∙ by_cases (effect (operation_of op) a b c x.state w)
    where
      by_cases : (e : Effect) → (finished op x w k e).answer.refusal ≡ number_in e.refusal
      by_cases e = ⊎_elim (λ z. rw (eq-eqb e.refusal done z) (sym (ap number_in z))) (λ z. rw (ne_eqb e.refusal done z)) (same_or_not e.refusal done)

  pub value_told : (effect (operation_of op) a b c x.state w).refusal ≡ done
      → (step op a b c x w k).answer.value ≡ (effect (operation_of op) a b c x.state w).value
  value_told z = ap (λ (o : Outcome). o.answer.value) goes_on ∙ rw (eq-eqb (effect (operation_of op) a b c x.state w).refusal done z)

-- ---- a creation, by its kind

pub creation_told : (kind : Kind) (a b c : ℕ) (s : State) (w : List ℕ) → effect (operation.Writer (creator kind)) a b c s w ≡ created kind (first_word kind a b c) s w
creation_told Model a b c s w = refl
creation_told SchemaInstance a b c s w = refl
creation_told Instance a b c s w = refl

module _ (kind : Kind) (first : ℕ) (s : State) (w : List ℕ) where
  pub has_room : next_free w kind < count_of kind → (created kind first s w).refusal ≡ done
  has_room l = rw (lt-ltb _ _ l)

  pub takes_free : next_free w kind < count_of kind → (created kind first s w).value ≡ next_free w kind
  takes_free l = rw (lt-ltb _ _ l)

  pub wants_room : count_of kind ≤ next_free w kind → number_in (created kind first s w).refusal ≡ NO_ROOM
  wants_room l = rw (le-ltb _ _ l) (omega arith)

  -- NO_ROOM exactly if every place is live by the history
  pub room_told : (h : List Answered) → Told (word_of w) h → (number_in (created kind first s w).refusal ≡ NO_ROOM) ↔ Full kind h
  unfolding Full
  room_told h t = (filled, refused)
    where
      filled : number_in (created kind first s w).refusal ≡ NO_ROOM → (n : ℕ) → n < count_of kind → (q : Call) × Live kind n q h
      filled e n l = by_cases (dec_lt (next_free w kind) (count_of kind))
        where
          by_cases : Dec (next_free w kind < count_of kind) → (q : Call) × Live kind n q h
          by_cases (yes m) = absurd (omega (arith, sym e ∙ ap number_in (has_room m)))
          by_cases (no m) = let x = t.live kind n (next_nowhere w kind (omega arith) n l) in (x.0, is_live_lem kind n x.0 h x.1)

      refused : ((n : ℕ) → n < count_of kind → (q : Call) × Live kind n q h) → number_in (created kind first s w).refusal ≡ NO_ROOM
      refused f = by_cases (dec_lt (next_free w kind) (count_of kind))
        where
          by_cases : Dec (next_free w kind < count_of kind) → number_in (created kind first s w).refusal ≡ NO_ROOM
          by_cases (yes m) =
              let x = f (next_free w kind) m in
              clash _ (next_is_free w kind m) (t.made_by kind _ x.0 (lives kind _ x.0 h x.1)).entry.live
          by_cases (no m) = wants_room (omega arith)

-- ---- one place of a full table made free

-- a done deletion remains
pub deletion_remains : (kind : Kind) (x : Answered) → x.refusal ≡ done → x.call.op ≡ deletion_of kind → (h : List Answered) → remaining_if (x ∷ h) false ≡ x ∷ remaining_if h false
unfolding remaining_if
deletion_remains Model x e o h = rw (e, o)
deletion_remains SchemaInstance x e o h = rw (e, o)
deletion_remains Instance x e o h = rw (e, o)

-- it ends the one entry of its kind, and gives none
ends_one : (kind : Kind) (x : Answered) → x.call.op ≡ deletion_of kind → (n : ℕ) (q : Call) → ended kind n q x ≡ eqb x.call.a n
ends_one Model x o n q = rw o
ends_one SchemaInstance x o n q = rw o
ends_one Instance x o n q = rw o (or-false _)

gives_none : (kind : Kind) (x : Answered) → x.call.op ≡ deletion_of kind → (n : ℕ) → gave (creation_of kind) n x ≡ false
gives_none Model x o n = rw o
gives_none SchemaInstance x o n = rw o
gives_none Instance x o n = rw o

module _ (kind : Kind) (x : Answered) (o : x.call.op ≡ deletion_of kind) (l : x.call.a < count_of kind)
    (w : List ℕ) (h : List Answered) (t : Told (word_of w) (x ∷ h)) (f : Full kind h) where
  free_here : free_at w kind x.call.a ≡ true
  free_here = by_cases (free_at w kind x.call.a) refl
    where
      by_cases : (b : Bool) → free_at w kind x.call.a ≡ b → b ≡ true
      by_cases true z = refl
      by_cases false z =
          let y = t.live kind x.call.a z in
          ⊎_elim (λ p. clash _ p.0 (gives_none kind x o x.call.a))
          (λ p. clash _ (ends_one kind x o x.call.a y.0 ∙ eq-eqb x.call.a x.call.a refl) p.1) (since_cases y.1)

  live_there : (j : ℕ) → j < count_of kind → (x.call.a ≡ j → ⊥) → free_at w kind j ≡ false
  unfolding Full
  live_there j m apart =
      let y = f j m in
      (t.made_by kind j y.0 (still (lives kind j y.0 h y.1) (ends_one kind x o j y.0 ∙ ne_eqb x.call.a j apart))).entry.live

  pub freed_found : next_free w kind ≡ x.call.a
  freed_found =
      let below : next_free w kind < count_of kind = next_found w kind x.call.a l free_here in
      ⊎_elim (λ z. sym z) (λ apart. clash _ (next_is_free w kind below) (live_there (next_free w kind) below apart)) (same_or_not x.call.a (next_free w kind))
