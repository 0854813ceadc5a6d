use Rattle.std.proofs.Common.{ap, length}
use Rattle.desk_findings.proofs.Children.{children_kept, parents_kept}
use Rattle.desk_totals.proofs.ForTables.{linked_from_tables}
use Rattle.desk_tables.proofs.table_lists.TableLists.linked.Goals as goal

pub new-requires : goal.new-requires
new-requires c =
    let t = c.args.self.now in
    let s = c.requires in
    linked_from_tables _ t (record { nodes = c.in_ok-nodes.ensures; material_count = ap length c.materials.ensures; lines = c.lines.ensures }) s.ordered s.apart (parents_kept t s.children) (children_kept t s.children)
