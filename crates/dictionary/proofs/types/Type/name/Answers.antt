-- Each arm is the name in the table's row, computed to bytes.
use Rattle.dictionary.specs.Dictionary.{the_table}
use Rattle.dictionary.proofs.types.Type.name.Goals as goal

pub returns-in-Item : goal.returns-in-Item
unfolding the_table
returns-in-Item c = rw (c.named.ensures, c.in-Item.is)

pub returns-in-Part : goal.returns-in-Part
unfolding the_table
returns-in-Part c = rw (c.named-in-Part.ensures, c.in-Part.is)

pub returns-in-Plate : goal.returns-in-Plate
unfolding the_table
returns-in-Plate c = rw (c.named-in-Plate.ensures, c.in-Plate.is)

pub returns-in-Cavity : goal.returns-in-Cavity
unfolding the_table
returns-in-Cavity c = rw (c.named-in-Cavity.ensures, c.in-Cavity.is)

pub returns-in-Assembly : goal.returns-in-Assembly
unfolding the_table
returns-in-Assembly c = rw (c.named-in-Assembly.ensures, c.in-Assembly.is)

pub returns-in-Event : goal.returns-in-Event
unfolding the_table
returns-in-Event c = rw (c.named-in-Event.ensures, c.in-Event.is)

pub returns-in-ShotCount : goal.returns-in-ShotCount
unfolding the_table
returns-in-ShotCount c = rw (c.named-in-ShotCount.ensures, c.in-ShotCount.is)

pub returns-in-Repair : goal.returns-in-Repair
unfolding the_table
returns-in-Repair c = rw (c.named-in-Repair.ensures, c.in-Repair.is)

pub returns-in-Reading : goal.returns-in-Reading
unfolding the_table
returns-in-Reading c = rw (c.named-in-Reading.ensures, c.in-Reading.is)

pub returns-in-Wear : goal.returns-in-Wear
unfolding the_table
returns-in-Wear c = rw (c.named-in-Wear.ensures, c.in-Wear.is)
