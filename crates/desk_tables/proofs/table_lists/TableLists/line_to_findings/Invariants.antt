-- The lines so far lead to nothing over a limit, so that one does exactly if one of the rest does.
use Rattle.std.proofs.Common.{◌≡◌, drop}
use Rattle.std.specs.List.{list_any}
use Rattle.desk_tables.specs.FindingCounts.{is_over_some_limit}
use Rattle.desk_tables.proofs.table_lists.TableLists.line_to_findings.Given as goal

abbrev pub invariant-loop-place : goal.invariant-loop-place
invariant-loop-place l =
    list_any (λ line. is_over_some_limit l.self line.child) l.self.lines ≡ list_any (λ line. is_over_some_limit l.self line.child) (drop l.place l.self.lines)
