-- A tray of the code: its contract as the checker reads it off the source, that this leaves one outcome, and that a tray is a
-- piece of a run: the calls of its orders with the answers of its row.
use Rattle.std.specs.Prelude.{◌≡◌, refl, Bool, true, false, cond, List, [], ◌∷◌, ◌++◌, map, reverse, ℕ, leb, length, take, drop}
use Rattle.std.proofs.Common.{sym, ap, ◌∙◌, arith, take_at}
use Rattle.std.proofs.lemmas.List.{reverse-reverse}
use seplogic.Ra.Ura.{Ura}
use types.Logic.{Logic}
use contract.Monad.{fact}
use Rattle.state.specs.Refusals.{done}
use Rattle.session.specs.Runs.{Call, Answered, Chip, chip_of, left, answered_by, outcome_of, after_by, history_by, after, history}
use Rattle.state.specs.declared.state.Order.{Order}
use Rattle.chip.specs.declared.tray.Reply.{Reply}
use Rattle.chip.specs.Tray.{Trayed, trayed, asked, result_of, results, all_taken, none_taken, tray}
use Rattle.chip.proofs.Laws.Tray.{history_length, asked_length, results_length}
use Rattle.chip.specs.contracts.tray.chip_tray as chip-tray

-- ---- the contract

-- a row of orders, a row for the answers and a chip were handed over, and this came of it
abbrev pub TrayPost : List Order → List Reply → Chip → Trayed → Type 0
TrayPost orders row chip t = t ≡ tray orders row chip

-- **That is what the source of `chip_tray` ensures.** `ensures-1` is its contract, of what was handed over, of the values at
-- entry and exit of each argument, and of the answer.
pub tray_contract : {M : Type 1} {𝓤 : Ura M} (𝓛 : Logic 𝓤) (κs : _) (mem : _) (run : _) (orders : _) (answers : _) (x : _) (working : _) (kept : _)
    (orders' : _) (answers' : _) (x' : _) (working' : _) (kept' : _) (r : _)
    → chip-tray.ensures-1 𝓛 κs mem run orders answers x working kept orders' answers' x' working' kept' r
    ≡ fact 𝓤
    (TrayPost orders'.entry.now answers'.entry.now (chip_of x working'.entry.now kept'.entry.now)
    (trayed r answers'.exit.now working'.exit.now kept'.exit.now))
tray_contract 𝓛 κs mem run orders answers x working kept orders' answers' x' working' kept' r = refl

-- **Two outcomes that meet it for one input are the same.**
pub chip_tray_one : (orders : List Order) (row : List Reply) (chip : Chip) (t t' : Trayed) → TrayPost orders row chip t → TrayPost orders row chip t' → t ≡ t'
chip_tray_one orders row chip t t' p q = p ∙ sym q

-- ---- a tray is a piece of a run

-- the chip that a tray leaves
abbrev pub left_by : Trayed → Chip
left_by t = chip_of t.answer.session t.working t.kept

-- the orders of a row, each with its record in the row of answers
pub record Told (orders : List Order) (answers : List Reply) (told : List Answered) : Type 0 where
  pub calls : map (λ (x : Answered). x.call) told ≡ asked orders
  pub records : results told ≡ take (length orders) answers

-- a call and a record of it make up what was answered
abbrev made : Call → Reply → Answered
made q r = record { call = q; refusal = r.refusal; place = r.place; value = r.value }

same_answered : (x y : Answered) → x.call ≡ y.call → result_of x ≡ result_of y → x ≡ y
same_answered x y e f = ap (λ (q : Call). made q (result_of x)) e ∙ ap (made y.call) f

same_told : (h h' : List Answered) → map (λ (x : Answered). x.call) h ≡ map (λ (x : Answered). x.call) h' → map result_of h ≡ map result_of h' → h ≡ h'
same_told [] [] e f = refl
same_told [] (x ∷ h) e f = let z : ◌≡◌ {A = ℕ} 0 1 = cc in absurd (omega arith)
same_told (x ∷ h) [] e f = let z : ◌≡◌ {A = ℕ} 0 1 = cc in absurd (omega arith)
same_told (x ∷ h) (y ∷ h') e f = rw (same_told h h' (cc) (cc)) (ap (λ (z : Answered). z ∷ h') (same_answered x y (cc) (cc)))

history_calls : (begun : Chip) (calls : List Call) → map (λ (x : Answered). x.call) (history begun calls) ≡ calls
unfolding history_by
history_calls begun [] = refl
history_calls begun (q ∷ calls) = ap (λ (l : List Call). q ∷ l) (history_calls begun calls)

-- calls after others
pub after_more_lem : (begun : Chip) (later earlier : List Call) → after (after begun earlier) later ≡ after begun (later ++ earlier)
unfolding after_by
after_more_lem begun [] earlier = refl
after_more_lem begun (q ∷ later) earlier = ap (λ (chip : Chip). left (outcome_of chip q)) (after_more_lem begun later earlier)

pub history_more : (begun : Chip) (later earlier : List Call) → history (after begun earlier) later ++ history begun earlier ≡ history begun (later ++ earlier)
unfolding history_by
history_more begun [] earlier = refl
history_more begun (q ∷ later) earlier =
    ap (λ (chip : Chip). answered_by q (outcome_of chip q) ∷ (history (after begun earlier) later ++ history begun earlier)) (after_more_lem begun later earlier)
    ∙ ap (λ (h : List Answered). answered_by q (outcome_of (after begun (later ++ earlier)) q) ∷ h) (history_more begun later earlier)

module _ (orders : List Order) (row : List Reply) (chip : Chip) (t : Trayed) (p : TrayPost orders row chip t) where
  -- by whether the row of answers was long enough
  by_length : (b : Bool) → leb (length orders) (length row) ≡ b → t ≡ cond b (all_taken orders row chip) (none_taken row chip)
  unfolding tray
  by_length b e = p ∙ rw e

  -- **A tray that is done has done its calls: the chip is as they leave it, and the row has their answers.**
  pub tray_done : t.answer.refusal ≡ done → t ≡ all_taken orders row chip
  tray_done d = by_cases (leb (length orders) (length row)) refl
    where
      by_cases : (b : Bool) → leb (length orders) (length row) ≡ b → t ≡ all_taken orders row chip
      by_cases true e = by_length true e
      by_cases false e = absurd (omega (arith, d, ap (λ (u : Trayed). u.answer.refusal) (by_length false e)))

  -- **One that is not is SY_ERR with value 0, and all else is as it was handed over.**
  pub tray_refused : (t.answer.refusal ≡ done → ⊥) → t ≡ none_taken row chip
  tray_refused n = by_cases (leb (length orders) (length row)) refl
    where
      by_cases : (b : Bool) → leb (length orders) (length row) ≡ b → t ≡ none_taken row chip
      by_cases true e = absurd (n (ap (λ (u : Trayed). u.answer.refusal) (by_length true e)))
      by_cases false e = by_length false e

  -- the answers of the row are those of the history
  pub told_is_history : t.answer.refusal ≡ done → (told : List Answered) → Told orders t.answers told → told ≡ history chip (asked orders)
  told_is_history d told h =
      let calls = history chip (asked orders) in
      let rows : results told ≡ results calls =
      h.records ∙ ap (λ (u : Trayed). take (length orders) u.answers) (tray_done d) ∙ take_at (results calls) (drop (length calls) row) (length orders)
      (results_length calls ∙ history_length chip (asked orders) ∙ asked_length orders) in
      same_told told calls (h.calls ∙ sym (history_calls chip (asked orders)))
      (sym (reverse-reverse (map result_of told)) ∙ ap reverse rows ∙ reverse-reverse (map result_of calls))
