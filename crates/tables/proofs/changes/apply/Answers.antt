-- Each change by its own function.
use Rattle.tables.specs.Changes.{apply}
use Rattle.tables.proofs.changes.apply.Goals as goal

pub returns-in-Made : goal.returns-in-Made
unfolding apply
returns-in-Made c = rw c.in-Made.is c.make.ensures

pub returns-in-Gone : goal.returns-in-Gone
unfolding apply
returns-in-Gone c = rw c.in-Gone.is c.remove.ensures

pub returns-in-Joined : goal.returns-in-Joined
unfolding apply
returns-in-Joined c = rw c.in-Joined.is c.join.ensures

pub returns-in-Left : goal.returns-in-Left
unfolding apply
returns-in-Left c = rw c.in-Left.is c.leave.ensures

pub returns-in-Put : goal.returns-in-Put
unfolding apply
returns-in-Put c = rw c.in-Put.is c.put.ensures

pub returns-in-Unset : goal.returns-in-Unset
unfolding apply
returns-in-Unset c = rw c.in-Unset.is c.unset.ensures
