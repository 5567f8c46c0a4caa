-- Below sixteen the event goes to the next slot. Else the slots passed hold the events one slot on, and the last one has
-- the new event from the start.
use Rattle.std.proofs.Common.{◌≡◌}
use Rattle.state.specs.Quick.Events.{moved_on}
use Rattle.state.proofs.events.added.Given as goal

abbrev pub invariant-loop-i : goal.invariant-loop-i
invariant-loop-i l = l.events ≡ moved_on l.i l.before l.initial.events
