use Rattle.desk_engine.proofs.Starts.{none_told, start_light, start_order, start_units}
use Rattle.desk_engine.proofs.start.years_of.Goals as goal

pub from_entries-requires-clause-by_key : goal.from_entries-requires-clause-by_key
from_entries-requires-clause-by_key g c = start_order c.args.tables.now.lists c.requires.sound.consistent c.in_ok-entries.entries.items c.in_ok-entries.ensures

pub from_entries-requires-clause-units : goal.from_entries-requires-clause-units
from_entries-requires-clause-units g c = start_units c.args.tables.now.lists c.requires.sound.consistent c.in_ok-entries.entries.items c.in_ok-entries.ensures

pub unreachable-requires : goal.unreachable-requires
unreachable-requires g c = none_told _ _ (start_light c.args.tables.now.lists c.requires.sound c.in_ok-entries.entries.items c.in_ok-entries.ensures) c.in-Err-YearTooLarge.ensures.fault
