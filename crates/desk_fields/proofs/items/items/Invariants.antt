-- What is read so far, with what is left to read, is what was to be read at first.
use Rattle.std.proofs.Common.{◌≡◌, ◌-◌}
use Rattle.desk_fields.specs.Reading.{times}
use Rattle.desk_fields.proofs.Times.{behind}
use Rattle.desk_fields.proofs.items.items.Given as goal

abbrev pub invariant-loop : goal.invariant-loop
invariant-loop g l = behind l.list.items (times (l.count - l.counter) g.T.Item.reader l.fields) ≡ times l.count g.T.Item.reader l.fn.fields
