-- What a line that goes in makes of tables, and the cycle that it would close.
use Rattle.std.specs.Prelude.{Option}
use Rattle.desk_model.specs.declared.row.Row.TheVariants.{Line}
use Rattle.desk_model.specs.declared.rows.line.LineRow.{LineRow}
use Rattle.desk_model.specs.declared.rule_fault.RuleFault.{RuleFault}
use Rattle.desk_model.specs.declared.rule_fault.RuleFault.TheVariants.{ClosesCycle}
use Rattle.desk_model.specs.Lists.{Lists}
use Rattle.desk_model.specs.PutRows.{put_in}
use Rattle.desk_findings.specs.Chain.{chain}
use Rattle.desk_findings.specs.Reaches.{is_or_reaches}
use Rattle.desk_history.specs.Refused.{refuse_if}

-- the tables with the line in, in the place of the one between the same two codes
abbrev pub with_line : Lists → LineRow → Lists
with_line t line = put_in (Line line) t

-- 20: the child of the line is its parent or reaches it
abbrev pub cycle_with : Lists → LineRow → Option RuleFault
cycle_with t line = refuse_if (is_or_reaches t line.child line.parent) (ClosesCycle (chain t line.child line.parent))
