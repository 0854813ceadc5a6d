-- The lines of the first records are there.
use Rattle.std.proofs.Common.{◌≡◌, take}
use Rattle.desk_report.specs.Lines.{record_lines}
use Rattle.desk_report.proofs.line.lines_of.Given as goal

abbrev pub invariant-loop-kept : goal.invariant-loop-kept
invariant-loop-kept l = l.lines ≡ record_lines (take l.kept-index l.records)
