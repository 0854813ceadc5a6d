use Rattle.std.proofs.Common.{sym, ap, ◌∙◌, length}
use Rattle.std.specs.Prelude.{nat_lt}
use Rattle.desk_model.specs.declared.limits.TheConstants.{MEMBER_LIMIT}
use Rattle.desk_tables.proofs.GoodRows.{member_breaks, overfull_member}
use Rattle.desk_tables.proofs.Telling.{from_members}
use Rattle.desk_tables.proofs.tables.Tables.members_fault.Goals as goal

pub rows_fault-requires-clause-breaks : goal.rows_fault-requires-clause-breaks
rows_fault-requires-clause-breaks c row bad = member_breaks c.args.self.now.lists row bad

pub rows_fault-requires-clause-full : goal.rows_fault-requires-clause-full
rows_fault-requires-clause-full c over row = overfull_member c.args.self.now.lists (ap (λ rows. nat_lt MEMBER_LIMIT (length rows)) (sym c.members.ensures) ∙ over) row

pub returns-clause-told : goal.returns-clause-told
returns-clause-told c = from_members c.args.self.now.lists _ c.members.result.now c.members.ensures c.rows_fault.result c.rows_fault.ensures
