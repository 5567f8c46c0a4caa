use Rattle.std.proofs.Common.{◌≡◌, ℕ, suc, ◌<◌, ◌≤◌, ◌^◌, length, leb, get_or, refl, sym, ap, ◌∙◌, arith, add-one, length-set}
use mathlib.Core.Path.{subst}
use Rattle.std.proofs.Math.Bool.{Bool, true, false, cond}
use borrow.Author.Tests.{leb-true}
use Rattle.session.specs.Runs.{chip_of}
use Rattle.chip.specs.Quick.Turns.{Standing, Turned, turned, turn_of, no_order, stepped, taken_of}
use Rattle.chip.proofs.Laws.Tray.{Stands, stands_begun, stands_next, tray_left, closed}
use Rattle.chip.proofs.tray.chip_tray.Invariants.{now_standing}
use Rattle.chip.proofs.tray.chip_tray.Goals as goal

-- so many orders are in the row, and so many answers have a place
within : (orders places : ℕ) → (taken_of orders places ≤ orders) × (taken_of orders places ≤ places)
within orders places = by_cases (leb orders places) refl
  where
    by_cases : (b : Bool) → leb orders places ≡ b → (cond b orders 0 ≤ orders) × (cond b orders 0 ≤ places)
    by_cases true e = (omega arith, leb-true orders places e)
    by_cases false e = (omega arith, omega arith)

pub loop-i-init : goal.loop-i-init
loop-i-init c =
    let begun = chip_of c.args.x c.args.working.now c.args.kept.now in
    rw c.begun-t.ensures (omega arith, c.taken-n.ensures, refl, refl, stands_begun c.args.orders.now c.args.answers.now begun)

pub loop-i-preserved : goal.loop-i-preserved
loop-i-preserved c =
    let orders = c.args.orders.now in
    let row = c.args.answers.now in
    let begun = chip_of c.args.x c.args.working.now c.args.kept.now in
    let i = c.loop-i.i in
    let z = now_standing c.loop-i.answers c.loop-i.t c.loop-i.working c.loop-i.kept in
    let o = get_or orders i no_order in
    let small : o.c < 2 ^ 32 = c.next_turn-t.ensures.small in
    let few = within (length orders) (length row) in
    let turn : turned c.next_turn-t.result c.next_turn-t.new.working c.next_turn-t.new.kept ≡ turn_of o c.loop-i.t c.loop-i.working c.loop-i.kept = c.next_turn-t.ensures.turn in
    let next = ap (λ (y : Turned). stepped i y z) turn in (
      omega arith,
      c.loop-i.invariant.1,
      length-set c.loop-i.answers i c.next_turn-t.result.result ∙ c.loop-i.invariant.2,
      rw add-one (next ∙ ap (λ (z : Standing). stepped i (turn_of o z.after.turn z.after.working z.after.kept) z) c.loop-i.invariant.3),
      rw add-one (subst (λ (y : Standing). Stands orders row begun (suc i) y) (sym next) (stands_next orders row begun i z c.loop-i.invariant.4 (omega (arith, few.0)) (omega (arith, few.1)) small)),
    )

pub returns : goal.returns
returns c =
    let orders = c.args.orders.now in
    let row = c.args.answers.now in
    let begun = chip_of c.args.x c.args.working.now c.args.kept.now in
    let n = taken_of (length orders) (length row) in
    let all : c.loop-i.i ≡ n = omega arith in
    let there = rw all at c.loop-i.invariant.3 in
    let stands = rw (all, there) at c.loop-i.invariant.4 in
    rw (c.closing.ensures, c.loop-i.invariant.2)
    (ap (λ (z : Standing). closed orders row begun (leb (length orders) (length row)) z) there ∙ tray_left orders row begun stands)
