-- The sum of the lines so far, which is at most that of all lines.
use Rattle.std.proofs.Common.{◌≡◌, ◌*◌, sum_by, take}
use Rattle.desk_findings.specs.Above.{mass_in}
use Rattle.desk_tables.proofs.table_lists.TableLists.content_of.Given as goal

abbrev pub invariant-loop-line : goal.invariant-loop-line
invariant-loop-line l = record {
  sum : l.sum ≡ sum_by (λ line. line.count * mass_in l.self l.substance line.child) (take l.line-index l.lines);
}
