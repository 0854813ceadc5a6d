-- The loads of the first nodes: no material has one.
use Rattle.std.proofs.Common.{◌≡◌, ◌++◌, map, take}
use Rattle.desk_findings.specs.Carried.{own_load}
use Rattle.desk_scratch.proofs.bill.Bill.own_loads.Given as goal

abbrev pub invariant-loop-material : goal.invariant-loop-material
invariant-loop-material l = (l.own.items ≡ map (λ row. 0) (take l._material-index l._material-items)) × (l._material-items ≡ l.fn.self.materials)

abbrev pub invariant-loop-part : goal.invariant-loop-part
invariant-loop-part l =
    (l.own.items ≡ map (λ row. 0) l.fn.self.materials ++ map (λ row. own_load l.fn.self l.substance row.code) (take l.part-index l.part-items))
    × (l.part-items ≡ l.fn.self.parts)
