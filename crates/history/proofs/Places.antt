-- Creations and deletions after any list of calls from a fresh chip.
use Rattle.std.specs.Prelude.{ℕ, ◌<◌, ◌≡◌, refl, Bool, true, false, cond, not, ◌↔◌, List, [], ◌∷◌, eqb}
use Rattle.std.proofs.Math.Path.{ap, sym}
use Rattle.std.proofs.Common.{◌∙◌, arith, eq-eqb, ne_eqb}
use Rattle.std.proofs.Math.Logic.{⊎_elim}
use Rattle.std.proofs.Math.Decide.{dec_lt}
use Rattle.logic.specs.Search.{all_in}
use Rattle.logic.specs.Laws.Bools.{and_left, and_right, clash}
use Rattle.words.specs.declared.layout.Kind.{Kind}
use Rattle.words.specs.declared.layout.Kind.TheVariants.{Model, SchemaInstance, Instance}
use Rattle.words.specs.Layout.{count_of}
use Rattle.words.specs.Entries.{word_of, next_free}
use Rattle.tables.specs.View.{is_live}
use Rattle.checks.specs.declared.operations.Operation.{Operation}
use Rattle.checks.specs.declared.operations.Operation.TheVariants as operation
use Rattle.state.specs.declared.state.State.{State}
use Rattle.session.specs.Effects.{Effect, created}
use Rattle.state.specs.Refusals.{NO_ROOM, done, number_in}
use Rattle.checks.specs.Operations.{operation_of}
use Rattle.checks.specs.Checks.{Check, first_of}
use Rattle.session.specs.Rows.{refusal_of, effect}
use Rattle.session.specs.Step.{Outcome, core}
use Rattle.promises.proofs.Core.{core_on_sound}
use Rattle.promises.specs.Keeps.Frame.{same_or_not, not_free_live}
use Rattle.promises.specs.Keeps.SessionFacts.{sound_test}
use Rattle.promises.specs.Keeps.Ways.{Way, unsound, refusing, doing, way}
use Rattle.session.specs.Runs.{Call, Answered, Chip, Fresh, answered_by, history_by, outcome_of, after, history}
use Rattle.promises.proofs.Reached.{reached_sound}
use Rattle.history.specs.Remains.{remaining_if, remaining}
use Rattle.history.specs.Demand3.{Full, creation_of, Creates, Takes, Deletes, ComesNext, last_of}
use Rattle.history.proofs.Saying.{first_word}
use Rattle.history.proofs.Reading.{creator, creation_is}
use Rattle.history.proofs.Since.{lives}
use Rattle.history.proofs.Told.{Told}
use Rattle.history.proofs.Kept.{holds}
use Rattle.history.proofs.Room.{creation_told, refusal_told, value_told, room_told, has_room, takes_free, wants_room, deletion_remains, freed_found}
use Rattle.history.proofs.Next.{next_comes}

pub last_below : (kind : Kind) → last_of kind < count_of kind
last_below Model = omega arith
last_below SchemaInstance = omega arith
last_below Instance = omega arith

-- ---- no check of a creation refuses with NO_ROOM

other : Check → Bool
other check = not (eqb (number_in check.refusal) NO_ROOM)

never : (l : List Check) → all_in other l ≡ true → number_in (first_of l) ≡ NO_ROOM → ⊥
unfolding first_of all_in other
never [] h e = omega (arith, e)
never (check ∷ l) h e = by_condition check.condition (λ q. never l (and_right (other check) (all_in other l) h) q) e
  where
    by_condition : (b : Bool) → (number_in (first_of l) ≡ NO_ROOM → ⊥) → number_in (cond b check.refusal (first_of l)) ≡ NO_ROOM → ⊥
    by_condition true later q = clash (other check) (and_left (other check) (all_in other l) h) (rw (eq-eqb (number_in check.refusal) NO_ROOM q))
    by_condition false later q = later q

no_check : (kind : Kind) (a b c : ℕ) (s : State) (w : List ℕ) → number_in (refusal_of (operation.Writer (creator kind)) a b c s w) ≡ NO_ROOM → ⊥
unfolding refusal_of all_in other
no_check Model a b c s w e = never _ refl e
no_check SchemaInstance a b c s w e = never _ refl e
no_check Instance a b c s w e = never _ refl e

module _ (begun : Chip) (fresh : Fresh begun) (calls : List Call) where
  module _ (kind : Kind) (q : Call) (h : Creates kind (after begun calls) q) where
    chip : Chip
    chip = after begun calls

    -- a creation has the effect of one of its kind
    of_kind : effect (operation_of q.op) q.a q.b q.c chip.session.state chip.working
        ≡ created kind (first_word kind q.a q.b q.c) chip.session.state chip.working
    of_kind =
        ap (λ (o : Operation). effect o q.a q.b q.c chip.session.state chip.working) (ap operation_of h.operation ∙ creation_is kind)
        ∙ creation_told kind q.a q.b q.c chip.session.state chip.working

    refuses : (outcome_of (after begun calls) q).answer.refusal ≡ number_in (created kind (first_word kind q.a q.b q.c) chip.session.state chip.working).refusal
    unfolding chip
    refuses =
        refusal_told q.op q.a q.b q.c chip.session chip.working chip.kept (reached_sound begun fresh calls) h.passes
        ∙ ap (λ (e : Effect). number_in e.refusal) of_kind

    pub refused_when_full : ((outcome_of (after begun calls) q).answer.refusal ≡ NO_ROOM) ↔ Full kind (remaining (history begun calls))
    unfolding remaining chip
    refused_when_full =
        rw refuses
        (room_told kind (first_word kind q.a q.b q.c) chip.session.state chip.working (remaining (history begun calls)) (holds begun fresh calls).working.words_told)

    -- where there is room it takes the next free number
    takes_next : next_free chip.working kind < count_of kind → Takes (next_free chip.working kind) (outcome_of (after begun calls) q)
    unfolding chip
    takes_next l =
        let first = first_word kind q.a q.b q.c in
        let room = has_room kind first chip.session.state chip.working l in
        record {
          was_done = refuses ∙ ap number_in room;
          number =
              value_told q.op q.a q.b q.c chip.session chip.working chip.kept (reached_sound begun fresh calls) h.passes (ap (λ (e : Effect). e.refusal) of_kind ∙ room)
              ∙ ap (λ (e : Effect). e.value) of_kind
              ∙ takes_free kind first chip.session.state chip.working l;
        }

    pub takes_free_place : (n : ℕ) → n < count_of kind → next_free (after begun calls).working kind ≡ n → Takes n (outcome_of (after begun calls) q)
    unfolding chip
    takes_free_place n l e = rw e at (takes_next (omega arith))

    -- one that is done had room, and its number comes next
    pub done_comes : (outcome_of (after begun calls) q).answer.refusal ≡ done → ComesNext kind (remaining (history begun calls)) (outcome_of (after begun calls) q).answer.value
    unfolding chip remaining
    done_comes e = by_cases (dec_lt (next_free chip.working kind) (count_of kind))
      where
        by_cases : Dec (next_free chip.working kind < count_of kind) → ComesNext kind (remaining (history begun calls)) (outcome_of (after begun calls) q).answer.value
        by_cases (yes l) =
            let shown = (holds begun fresh calls).working in
            let good = ((sound_test chip.session chip.working chip.kept).holds (reached_sound begun fresh calls)).tables.working in
            rw (takes_next l).number (next_comes kind chip.working (remaining (history begun calls)) shown.words_told shown.points (good.cursors kind) l)
        by_cases (no l) = absurd (omega (arith, sym e ∙ refuses ∙ wants_room kind (first_word kind q.a q.b q.c) chip.session.state chip.working (omega arith)))

  -- a done call passed its checks
  pub done_passes : (q : Call) → (outcome_of (after begun calls) q).answer.refusal ≡ done
      → refusal_of (operation_of q.op) q.a q.b q.c (after begun calls).session.state (after begun calls).working ≡ done
  done_passes q e =
      let now = after begun calls in
      by_way (outcome_of now q) (way q.op q.a q.b q.c now.session now.working now.kept) e
    where
      by_way : (o : Outcome) → Way q.op q.a q.b q.c (after begun calls).session (after begun calls).working (after begun calls).kept o → o.answer.refusal ≡ done
          → refusal_of (operation_of q.op) q.a q.b q.c (after begun calls).session.state (after begun calls).working ≡ done
      by_way o (unsound u) d = clash _ (reached_sound begun fresh calls) u
      by_way o (refusing r s f) d = absurd (omega (arith, d, f.from))
      by_way o (doing s p f) d = p

  -- a creation that is refused with NO_ROOM passed its other checks
  pub full_when_refused : (kind : Kind) (q : Call) → q.op ≡ creation_of kind → (outcome_of (after begun calls) q).answer.refusal ≡ NO_ROOM
      → Full kind (remaining (history begun calls))
  unfolding core
  full_when_refused kind q o e =
      let now = after begun calls in
      let r = refusal_of (operation_of q.op) q.a q.b q.c now.session.state now.working in
      let goes = core_on_sound q.op q.a q.b q.c now.session now.working now.kept (reached_sound begun fresh calls) in
      ⊎_elim (λ z. (refused_when_full kind q (record { operation = o; passes = z })).0 e)
      (λ z. absurd (no_check kind q.a q.b q.c now.session.state now.working
      (rw (o, creation_is kind) at (rw (ne_eqb r done z) at (rw (ne_eqb r done z) at (ap (λ (x : Outcome). x.answer.refusal) (sym goes) ∙ e))))))
      (same_or_not r done)

  -- in a full table every place is live
  pub live_when_full : (kind : Kind) (n : ℕ) → n < count_of kind → Full kind (remaining (history begun calls)) → is_live (after begun calls).working kind n ≡ true
  unfolding Full remaining
  live_when_full kind n l f =
      let x = f n l in
      not_free_live (after begun calls).working kind n ((holds begun fresh calls).working.words_told.made_by kind n x.0 (lives kind n x.0 _ x.1)).entry.live

  -- the place that a deletion frees in a full table is the next free one
  pub freed_is_found : (kind : Kind) (n : ℕ) → n < count_of kind → Full kind (remaining (history begun calls)) → (q : Call)
      → Deletes kind n (after begun calls) q → next_free (after begun (q ∷ calls)).working kind ≡ n
  unfolding remaining history_by
  freed_is_found kind n l f q d =
      let x : Answered = answered_by q (outcome_of (after begun calls) q) in
      let there : Told (word_of (after begun (q ∷ calls)).working) (x ∷ remaining_if (history begun calls) false) =
      rw (deletion_remains kind x d.was_done d.operation (history begun calls)) at (holds begun fresh (q ∷ calls)).working.words_told in
      freed_found kind x d.operation (rw d.number l) (after begun (q ∷ calls)).working _ there f ∙ d.number
