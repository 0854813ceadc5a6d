use Rattle.std.proofs.Common.{subst, sym}
use Rattle.desk_edge.specs.Content.{HaveDistinctKeys}
use Rattle.desk_report.proofs.exporting.write_table.Goals as goal

pub in_order-records-requires : goal.in_order-records-requires
in_order-records-requires g c = subst HaveDistinctKeys (sym c.in_ok-table_records.ensures) c.requires
