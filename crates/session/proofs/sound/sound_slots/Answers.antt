-- Each loop tests the slots of its own slice, an element of which is a slot by its number (`used`, `unused`).
use Rattle.std.proofs.Common.{◌≡◌, refl, sym, ap, ◌∙◌, List, ℕ, ◌+◌, ◌-◌, ◌<◌, ◌≤◌, length, take, drop, get_or, rules, arith}
use Rattle.std.proofs.lemmas.List.{length-take-le, length-drop, get_or-take, get_or-drop}
use Rattle.logic.specs.Search.{all_b}
use Rattle.logic.specs.Laws.Search.{all_more, all_stop, all_done}
use Rattle.state.specs.declared.state.Event.{Event}
use Rattle.state.specs.States.{slots, blank_event}
use Rattle.session.specs.Sound.{sound_event, is_blank}
use Rattle.session.specs.Laws.Sound.{by_slots, used_slot, unused_slot}
use Rattle.session.proofs.sound.sound_slots.Invariants.{slot_of}
use Rattle.session.proofs.sound.sound_slots.Goals as goal

module _ (count : ℕ) (events : List Event) where
  many : length events ≡ slots → count ≤ slots → length (take count events) ≡ count
  many n h = length-take-le count events (omega (arith, n))

  left : length events ≡ slots → length (take (slots - count) (drop count events)) ≡ slots - count
  left n = length-take-le (slots - count) (drop count events) (omega (arith, n, length-drop count events))

  used : (i : ℕ) → i < count → slot_of count events i ≡ sound_event (get_or (take count events) i blank_event)
  used i l = used_slot count i (get_or events i blank_event) l ∙ ap sound_event (sym (get_or-take count events i blank_event l))

  unused : (i : ℕ) → i < slots - count → slot_of count events (count + i) ≡ is_blank (get_or (take (slots - count) (drop count events)) i blank_event)
  unused i l =
      unused_slot count (count + i) (get_or events (count + i) blank_event) (omega arith)
      ∙ ap is_blank (sym (get_or-take (slots - count) (drop count events) i blank_event l ∙ get_or-drop count events i blank_event))

pub loop-e-init : goal.loop-e-init
unfolding all_b
loop-e-init c = refl

pub loop-e-preserved : goal.loop-e-preserved
loop-e-preserved c =
    let a = c.args in
    let i = c.loop-e.e-index in
    let below : i < a.count = omega (arith, many a.count a.events (search rules) c.requires) in
    all_more (slot_of a.count a.events) i c.loop-e.invariant (used a.count a.events i below ∙ sym c.sound_event.ensures ∙ c.if-not-sound_event.false)

pub loop-e-2-init : goal.loop-e-2-init
loop-e-2-init c =
    let a = c.args in
    let n = many a.count a.events (search rules) c.requires in
    all_done (slot_of a.count a.events) (a.count + 0) c.loop-e.e-index (omega (arith, n)) (omega (arith, n)) c.loop-e.invariant

pub loop-e-2-preserved : goal.loop-e-2-preserved
loop-e-2-preserved c =
    let a = c.args in
    let i = c.loop-e-2.e-index in
    let below : i < slots - a.count = omega (arith, left a.count a.events (search rules)) in
    let further : a.count + (i + 1) ≡ a.count + i + 1 = omega arith in
    ap (λ (k : ℕ). all_b k (slot_of a.count a.events)) further
    ∙ all_more (slot_of a.count a.events) (a.count + i) c.loop-e-2.invariant (unused a.count a.events i below ∙ sym c.is_blank.ensures ∙ c.if-not-is_blank.false)

pub returns-then-not-sound_event : goal.returns-then-not-sound_event
returns-then-not-sound_event c =
    let a = c.args in
    let i = c.loop-e.e-index in
    let below : i < a.count = omega (arith, many a.count a.events (search rules) c.requires) in
    rw (by_slots a.count a.events (search rules))
    (sym (all_stop slots (slot_of a.count a.events) i (omega arith) (used a.count a.events i below ∙ sym c.sound_event.ensures ∙ c.if-not-sound_event.true)))

pub returns-then-not-is_blank : goal.returns-then-not-is_blank
returns-then-not-is_blank c =
    let a = c.args in
    let i = c.loop-e-2.e-index in
    let below : i < slots - a.count = omega (arith, left a.count a.events (search rules)) in
    rw (by_slots a.count a.events (search rules))
    (sym (all_stop slots (slot_of a.count a.events) (a.count + i) (omega arith) (unused a.count a.events i below ∙ sym c.is_blank.ensures ∙ c.if-not-is_blank.true)))

pub returns : goal.returns
returns c =
    let a = c.args in
    let n = left a.count a.events (search rules) in
    rw (by_slots a.count a.events (search rules))
    (sym (all_done (slot_of a.count a.events) slots (a.count + c.loop-e-2.e-index) (omega (arith, n)) (omega (arith, n)) c.loop-e-2.invariant))
