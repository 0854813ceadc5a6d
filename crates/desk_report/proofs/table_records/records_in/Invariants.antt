-- What was made so far are the records of the first rows.
use Rattle.std.proofs.Common.{◌≡◌, take}
use Rattle.desk_report.specs.File.{in_table}
use Rattle.desk_report.proofs.table_records.records_in.Given as goal

abbrev pub invariant-loop-row : goal.invariant-loop-row
invariant-loop-row g l = l.records.items ≡ in_table g.R.TableRow.as_row (take l.row-index l.rows)
