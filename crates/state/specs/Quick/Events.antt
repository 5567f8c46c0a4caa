-- The events of a full log, moved one slot on as far as one, over what stands there.
use Rattle.std.specs.Prelude.{ℕ, zero, suc, List, set, get_or}
use Rattle.state.specs.declared.state.Event.{Event}
use Rattle.state.specs.States.{blank_event}

-- the first i slots from one slot on in l, the others as in `rest`
unfoldable pub moved_on : ℕ → List Event → List Event → List Event
moved_on zero l rest = rest
moved_on (suc i) l rest = set (moved_on i l rest) i (get_or l (suc i) blank_event)
