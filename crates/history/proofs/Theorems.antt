-- Demand 3, proved: for any list of operations from a fresh chip.
use Rattle.std.specs.Prelude.{ℕ, ◌<◌, ◌≡◌, true, ◌↔◌, List, ◌∷◌}
use Rattle.words.specs.declared.layout.Kind.{Kind}
use Rattle.words.specs.Layout.{count_of}
use Rattle.words.specs.Copies.{agree}
use Rattle.tables.specs.View.{is_live}
use Rattle.tables.specs.Sound.{sound_table}
use Rattle.state.specs.Refusals.{NO_ROOM, done}
use Rattle.session.specs.Sound.{sound}
use Rattle.session.specs.Runs.{Call, Answered, Chip, Fresh, outcome_of, after, history}
use Rattle.promises.specs.Keeps.Facts.{table_test}
use Rattle.promises.proofs.Reached.{reached_sound}
use Rattle.history.specs.Remains.{remaining_if, remaining}
use Rattle.history.specs.Demand3.{Full, Tells, creation_of, Creates, Takes, Deletes, ComesNext, last_of}
use Rattle.history.proofs.Told.{tells_of}
use Rattle.history.proofs.Kept.{holds}
use Rattle.history.proofs.Places.{last_below, refused_when_full, full_when_refused, done_passes, done_comes, takes_free_place, live_when_full, freed_is_found}
use Rattle.history.proofs.Next.{comes_alone}
use Rattle.history.proofs.Whole.{told_alike}

-- **And nothing else: what a sound table tells leaves no word open.** Two that tell the same agree in the words in use.
pub nothing_else : (t u : List ℕ) (h : List Answered) → sound_table t ≡ true → sound_table u ≡ true → Tells t h → Tells u h → agree t u ≡ true
nothing_else t u h st su a b = told_alike t u ((table_test t).holds st) ((table_test u).holds su) h a b

-- **One number alone comes next**, after any calls that remain.
pub next_alone : (kind : Kind) (h : List Answered) (m n : ℕ) → ComesNext kind h m → ComesNext kind h n → m ≡ n
next_alone kind h m n a b = comes_alone kind h m n a b

module _ (begun : Chip) (fresh : Fresh begun) (calls : List Call) where
  -- **The working table holds what the calls that remain make live, a member and set, and what they asked for.**
  pub tells : Tells (after begun calls).working (remaining (history begun calls))
  unfolding remaining
  tells =
      let shown = (holds begun fresh calls).working in
      tells_of (after begun calls).working (remaining (history begun calls)) shown.words_told shown.points

  -- **The kept table holds what would remain if all that no commit follows were dropped.**
  pub kept_tells : Tells (after begun calls).kept (remaining_if (history begun calls) true)
  kept_tells =
      let shown = (holds begun fresh calls).kept in
      tells_of (after begun calls).kept (remaining_if (history begun calls) true) shown.words_told shown.points

  -- **The chip is sound**, so `nothing_else` is about its tables.
  pub stays_sound : sound (after begun calls).session (after begun calls).working (after begun calls).kept ≡ true
  stays_sound = reached_sound begun fresh calls

  -- **A creation that passes its other checks is refused with NO_ROOM exactly if the live entries so counted fill its table.**
  pub no_room : (kind : Kind) (q : Call) → Creates kind (after begun calls) q
      → ((outcome_of (after begun calls) q).answer.refusal ≡ NO_ROOM) ↔ Full kind (remaining (history begun calls))
  no_room kind q h = refused_when_full begun fresh calls kind q h

  -- **By the answer alone: a creation that is answered NO_ROOM found its table full.**
  pub no_room_answered : (kind : Kind) (q : Call) → q.op ≡ creation_of kind → (outcome_of (after begun calls) q).answer.refusal ≡ NO_ROOM
      → Full kind (remaining (history begun calls))
  no_room_answered kind q o e = full_when_refused begun fresh calls kind q o e

  -- **A creation gives the first free number from one past the last that a remaining creation of its kind gave, going round.**
  -- What an abort, a fault or a closed session dropped does not remain: after it the last one is the last that was committed.
  pub next_number : (kind : Kind) (q : Call) → q.op ≡ creation_of kind → (outcome_of (after begun calls) q).answer.refusal ≡ done
      → ComesNext kind (remaining (history begun calls)) (outcome_of (after begun calls) q).answer.value
  next_number kind q o e = done_comes begun fresh calls kind q (record { operation = o; passes = done_passes begun fresh calls q e }) e

  -- **The place that a deletion frees in a full table is the next one made**, whichever it is.
  pub freed_place : (kind : Kind) (n : ℕ) → n < count_of kind → Full kind (remaining (history begun calls))
      → (q₁ : Call) → Deletes kind n (after begun calls) q₁
      → (q₂ : Call) → Creates kind (after begun (q₁ ∷ calls)) q₂
      → Takes n (outcome_of (after begun (q₁ ∷ calls)) q₂)
  freed_place kind n l f q₁ d q₂ h = takes_free_place begun fresh (q₁ ∷ calls) kind q₂ h n l (freed_is_found begun fresh calls kind n l f q₁ d)

  -- **The last place counts**: in a full table it is live, and once it is deleted the next creation of its kind takes it.
  pub last_live : (kind : Kind) → Full kind (remaining (history begun calls)) → is_live (after begun calls).working kind (last_of kind) ≡ true
  last_live kind f = live_when_full begun fresh calls kind (last_of kind) (last_below kind) f

  pub last_place : (kind : Kind) → Full kind (remaining (history begun calls))
      → (q₁ : Call) → Deletes kind (last_of kind) (after begun calls) q₁
      → (q₂ : Call) → Creates kind (after begun (q₁ ∷ calls)) q₂
      → Takes (last_of kind) (outcome_of (after begun (q₁ ∷ calls)) q₂)
  last_place kind f = freed_place kind (last_of kind) (last_below kind) f
