use Rattle.desk_tables.proofs.PutLines.{ends_of_new}
use Rattle.desk_tables.proofs.tables.Tables.bill_with_line.Goals as goal

pub with_line_at-requires-clause-ends : goal.with_line_at-requires-clause-ends
with_line_at-requires-clause-ends c = ends_of_new c.args.bill c.args.self.now.lists c.args.line.now c.requires.bill c.requires.consistent

pub with_line_before-requires-clause-ends : goal.with_line_before-requires-clause-ends
with_line_before-requires-clause-ends c = ends_of_new c.args.bill c.args.self.now.lists c.args.line.now c.requires.bill c.requires.consistent
