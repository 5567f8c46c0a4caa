-- Demand 3 of the code, and of libraries that only answer.
use Rattle.std.specs.Prelude.{◌≡◌, refl, true, ◌↔◌, ◌⊎◌, ℕ, eqb}
use Rattle.std.proofs.Math.Path.{sym, ap}
use Rattle.std.proofs.Common.{◌∙◌, inl, inr, arith, eq-eqb}
use Rattle.std.proofs.Math.Bool.{false, not, false≢true}
use mathlib.Core.List.{List, [], ◌∷◌, ◌++◌}
use Rattle.logic.specs.Laws.Bools.{decided, and_left, and_right}
use Rattle.words.specs.declared.layout.Kind.{Kind}
use Rattle.words.specs.declared.layout.Kind.TheVariants.{Model}
use Rattle.tables.specs.View.{is_live}
use Rattle.checks.specs.declared.operations.Operation.{Operation}
use Rattle.checks.specs.declared.operations.Operation.TheVariants as operation
use Rattle.state.specs.declared.state.State.{State}
use Rattle.state.specs.declared.state.Session.{Session}
use Rattle.state.specs.Refusals.{done, NO_ROOM}
use Rattle.checks.specs.Operations.{operation_of}
use Rattle.state.specs.States.{is_open}
use Rattle.checks.specs.Checks.{first_of}
use Rattle.session.specs.Effects.{working_after}
use Rattle.session.specs.Rows.{refusal_of, effect}
use Rattle.session.specs.Step.{Outcome}
use Rattle.session.specs.Runs.{Call, Answered, Chip, Fresh, Machine, outcome_by, after_by, history_by}
use Rattle.promises.proofs.Fresh.{no_word}
use Rattle.promises.specs.Possible.{possible, possible_by}
use Rattle.promises.specs.Wrong.{NoTable, OnlyAnswers}
use Rattle.promises.specs.Keeps.Ways.{Way, unsound, refusing, doing, way}
use Rattle.history.specs.Remains.{remaining_if, remaining}
use Rattle.history.specs.Live.{LiveModel, now}
use Rattle.history.specs.Demand3.{Tells, Full, creation_of, Creates, ComesNext}
use Rattle.history.proofs.Theorems.{tells, kept_tells, no_room, no_room_answered, next_number}
use Rattle.state.specs.declared.state.Order.{Order}
use Rattle.chip.specs.declared.tray.Reply.{Reply}
use Rattle.chip.specs.Tray.{Trayed}
use Rattle.tightness.specs.Trays.{TrayPost, Told}
use Rattle.tightness.specs.Code.{Called, Run, then_tray}
use Rattle.tightness.proofs.AsStep.{as_step, run_after, run_history}
use Rattle.tightness.specs.Demand3.{TellsBy, HonoursTheFirst}

-- ---- demand 3, of the code

module _ {begun : Chip} (fresh : Fresh begun) {calls : List Call} {chip : Chip} {h : List Answered} (run : Run begun calls chip h) where
  -- **After any calls of the code from fresh the working table holds what remains of them, and nothing else; the kept table
  -- what would remain if all that is pending were dropped.**
  pub code_tells : Tells chip.working (remaining h)
  code_tells = rw (run_after run, run_history run) (tells begun fresh calls)

  pub code_kept_tells : Tells chip.kept (remaining_if h true)
  code_kept_tells = rw (run_after run, run_history run) (kept_tells begun fresh calls)

  -- **A creation that passes its other checks is refused with NO_ROOM exactly if the live entries so counted fill its table.**
  pub code_no_room : (kind : Kind) (q : Call) → Creates kind chip q → (o : Outcome) → Called q chip o → (o.answer.refusal ≡ NO_ROOM) ↔ Full kind (remaining h)
  code_no_room kind q creates o c =
      rw (as_step q chip o c, run_history run, run_after run) (no_room begun fresh calls kind q (rw (run_after run) at creates))

  -- **By the answer alone: a creation that is answered NO_ROOM found its table full.**
  pub code_no_room_answered : (kind : Kind) (q : Call) → q.op ≡ creation_of kind → (o : Outcome) → Called q chip o → o.answer.refusal ≡ NO_ROOM → Full kind (remaining h)
  code_no_room_answered kind q number o c e =
      rw (run_history run) (no_room_answered begun fresh calls kind q number (rw (as_step q chip o c, run_after run) at e))

  -- **A creation that is done gives the number that comes next.**
  pub code_next_number : (kind : Kind) (q : Call) → q.op ≡ creation_of kind → (o : Outcome) → Called q chip o → o.answer.refusal ≡ done → ComesNext kind (remaining h) o.answer.value
  code_next_number kind q number o c e =
      rw (as_step q chip o c, run_history run, run_after run) (next_number begun fresh calls kind q number (rw (as_step q chip o c, run_after run) at e))

-- **So it is of a tray, with no word more**: after one that is done on such a chip the tables hold what remains of all calls so far
-- with those of its orders, each answered as its record in the row of answers tells.
module _ {begun : Chip} (fresh : Fresh begun) {calls : List Call} {chip : Chip} {h : List Answered} (run : Run begun calls chip h) (orders : List Order) (row : List Reply) (t : Trayed)
    (p : TrayPost orders row chip t) (d : t.answer.refusal ≡ done) (told : List Answered) (g : Told orders t.answers told) where
  pub code_tray_tells : Tells t.working (remaining (told ++ h))
  code_tray_tells = code_tells fresh (then_tray run orders row t p d told g)

  pub code_tray_kept_tells : Tells t.kept (remaining_if (told ++ h) true)
  code_tray_kept_tells = code_kept_tells fresh (then_tray run orders row t p d told g)

-- ---- a library that opens a session as it should and from then on only answers

-- with no session open `call` touches no table
closed_effect : (o : Operation) (a b c : ℕ) (s : State) (w k : List ℕ) → is_open s ≡ false → refusal_of o a b c s w ≡ done
    → working_after (effect o a b c s w).tables w k ≡ w
unfolding refusal_of first_of
closed_effect operation.Unlisted a b c s w k h p = refl
closed_effect operation.Opening a b c s w k h p = refl
closed_effect (operation.InSession o) a b c s w k h p = absurd (omega (arith, rw h at p))
closed_effect (operation.Reader o) a b c s w k h p = absurd (omega (arith, rw h at p))
closed_effect (operation.Writer o) a b c s w k h p = absurd (omega (arith, rw h at p))

closed_stays : (op a b c : ℕ) (x : Session) (w k : List ℕ) (o : Outcome) → Way op a b c x w k o → is_open x.state ≡ false → o.working ≡ w
closed_stays op a b c x w k o (unsound u) h = refl
closed_stays op a b c x w k o (refusing r s e) h = refl
closed_stays op a b c x w k o (doing s p e) h = closed_effect (operation_of op) a b c x.state w k h p

untouched : (library : Machine) → HonoursTheFirst library → OnlyAnswers library → NoTable library
untouched library honours answers chip q p = by_cases (decided (is_open chip.session.state))
  where
    by_cases : (is_open chip.session.state ≡ true) ⊎ (is_open chip.session.state ≡ false) → (outcome_by library chip q).working ≡ chip.working
    by_cases (inl e) = answers chip q p e
    by_cases (inr e) =
        ap (λ (o : Outcome). o.working) (honours chip q p e)
        ∙ closed_stays q.op q.a q.b q.c chip.session chip.working chip.kept _ (way q.op q.a q.b q.c chip.session chip.working chip.kept) e

stays : (library : Machine) → NoTable library → (begun : Chip) (calls : List Call) → possible_by library begun calls ≡ true → (after_by library begun calls).working ≡ begun.working
unfolding after_by possible_by
stays library wrong begun [] p = refl
stays library wrong begun (q ∷ earlier) p =
    let chip = after_by library begun earlier in
    wrong chip q (and_right (possible_by library begun earlier) (possible chip q) p) ∙ stays library wrong begun earlier (and_left (possible_by library begun earlier) (possible chip q) p)

-- a done 20 makes a model live
made : (x : Answered) (h : List Answered) → x.call.op ≡ 20 → x.refusal ≡ done → LiveModel x.value x.call (remaining (x ∷ h))
unfolding remaining remaining_if
made x h o d = rw (eq-eqb x.refusal done d) (now {x = x} (rw (o, eq-eqb x.value x.value refl), refl))

module _ (library : Machine) (told : TellsBy library) (begun : Chip) (fresh : Fresh begun) (calls : List Call) (q : Call) where
  -- **One that touches no table and answers a 20 as done, anywhere in a run from fresh, breaks demand 3.**
  pub no_table_untold : NoTable library → possible_by library begun (q ∷ calls) ≡ true → q.op ≡ 20
      → (outcome_by library (after_by library begun calls) q).answer.refusal ≡ done → ⊥
  unfolding history_by
  no_table_untold wrong p o d =
      let n = (outcome_by library (after_by library begun calls) q).answer.value in
      let live = ((told begun fresh (q ∷ calls) p).live Model n).0 (q, made _ (history_by library begun calls) o d) in
      let blank : is_live begun.working Model n ≡ false = ap (λ (w : ℕ). not (eqb w 0)) (no_word begun.working fresh.working Model n 0) in
      false≢true (sym blank ∙ sym (ap (λ (w : List ℕ). is_live w Model n) (stays library wrong begun (q ∷ calls) p)) ∙ live)

  -- **So does one that does the first operation right and from then on only answers.**
  pub only_answering_untold : HonoursTheFirst library → OnlyAnswers library → possible_by library begun (q ∷ calls) ≡ true → q.op ≡ 20
      → (outcome_by library (after_by library begun calls) q).answer.refusal ≡ done → ⊥
  only_answering_untold honours answers = no_table_untold (untouched library honours answers)
