-- So far the first rows are put.
use Rattle.std.proofs.Common.{◌≡◌, map, take}
use Rattle.desk_edge.specs.declared.change.Change.TheVariants.{Put}
use Rattle.desk_records.specs.Records.{record_of}
use Rattle.desk_records.proofs.plan_records.put_all.Given as goal

abbrev pub invariant-loop-row : goal.invariant-loop-row
invariant-loop-row g l = l.changes.items ≡ map (λ row. Put (record_of (g.R.TableRow.as_row row))) (take l.row-index l.rows)
