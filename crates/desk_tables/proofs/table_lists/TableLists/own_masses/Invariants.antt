use Rattle.std.proofs.Common.{◌≡◌, ◌++◌, map, take}
use Rattle.desk_tables.proofs.table_lists.TableLists.own_masses.Given as goal

abbrev pub invariant-loop-material : goal.invariant-loop-material
invariant-loop-material l = (l.own.items ≡ map (λ row. row.mass) (take l.material-index l.material-items)) × (l.material-items ≡ l.fn.self.materials)

abbrev pub invariant-loop-part : goal.invariant-loop-part
invariant-loop-part l =
    (l.own.items ≡ map (λ row. row.mass) l.fn.self.materials ++ map (λ row. 0) (take l._part-index l._part-items))
    × (l._part-items ≡ l.fn.self.parts)
