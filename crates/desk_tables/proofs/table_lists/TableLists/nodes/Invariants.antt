use Rattle.std.proofs.Common.{◌≡◌, ◌++◌, map, take}
use Rattle.desk_tables.proofs.table_lists.TableLists.nodes.Given as goal

abbrev pub invariant-loop-material : goal.invariant-loop-material
invariant-loop-material l = (l.nodes.items ≡ map (λ row. row.code) (take l.material-index l.material-items)) × (l.material-items ≡ l.fn.self.materials)

abbrev pub invariant-loop-part : goal.invariant-loop-part
invariant-loop-part l =
    (l.nodes.items ≡ map (λ row. row.code) l.fn.self.materials ++ map (λ row. row.code) (take l.part-index l.part-items))
    × (l.part-items ≡ l.fn.self.parts)
