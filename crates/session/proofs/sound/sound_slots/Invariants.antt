-- Every slot passed is sound: those with events in the first loop, the blank ones in the second.
use mathlib.Core.Path.{◌≡◌}
use mathlib.Core.Bool.{Bool, true}
use mathlib.Core.List.{List}
use Prim.Native.Nat.{ℕ, ◌+◌}
use lib.ListN.{get_or}
use Rattle.logic.specs.Search.{all_b}
use Rattle.state.specs.declared.state.Event.{Event}
use Rattle.state.specs.States.{blank_event}
use Rattle.session.specs.Sound.{sound_slot}
use Rattle.session.proofs.sound.sound_slots.Given as goal

abbrev pub slot_of : ℕ → List Event → ℕ → Bool
slot_of count events j = sound_slot count j (get_or events j blank_event)

abbrev pub invariant-loop-e : goal.invariant-loop-e
invariant-loop-e l = all_b l.e-index (slot_of l.fn.count l.fn.events) ≡ true

abbrev pub invariant-loop-e-2 : goal.invariant-loop-e-2
invariant-loop-e-2 l = all_b (l.fn.count + l.e-index) (slot_of l.fn.count l.fn.events) ≡ true
