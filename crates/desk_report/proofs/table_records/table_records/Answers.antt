use Rattle.std.proofs.Common.{◌≡◌, IfOk, ap, subst, sym, ◌∙◌}
use Rattle.desk_model.specs.declared.row.Row.TheVariants.{Material}
use Rattle.desk_report.specs.File.{in_table, table_at}
use Rattle.desk_report.proofs.table_records.table_records.Goals as goal

pub returns-in-2 : goal.returns-in-2
returns-in-2 c =
    subst (λ listed. IfOk c.records_in-in-2.result (λ records. records.items ≡ listed))
    (ap (in_table Material) c.materials.ensures ∙ sym (ap (table_at c.args.tables.now.lists) c.in-2.is)) c.records_in-in-2.ensures
