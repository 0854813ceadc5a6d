-- What was appended so far are the records of the first rows.
use Rattle.std.proofs.Common.{◌≡◌, ◌++◌, map, take}
use Rattle.desk_records.specs.Records.{record_of}
use Rattle.desk_records.proofs.table_records.push_records.Given as goal

abbrev pub invariant-loop-row : goal.invariant-loop-row
invariant-loop-row g l = l.records.items ≡ l.fn.records.items ++ map record_of (map g.R.TableRow.as_row (take l.row-index l.rows))
