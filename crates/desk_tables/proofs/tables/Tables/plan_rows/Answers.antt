use Rattle.std.proofs.Common.{arith}
use Rattle.desk_model.specs.declared.table_name.TableName.TheVariants.{Tickets}
use Rattle.desk_history.proofs.TableLimits.{within_limit}
use Rattle.desk_tables.proofs.tables.Tables.plan_rows.Goals as goal

pub ticket_for-requires : goal.ticket_for-requires
ticket_for-requires c = omega (arith, within_limit c.args.self.now.lists c.requires.limits.tables_fit Tickets)
