-- What the first codes carry.
use Rattle.std.proofs.Common.{◌≡◌, map, take}
use Rattle.desk_findings.specs.Carried.{carried}
use Rattle.desk_scratch.proofs.sub_bill.SubBill.loads.Given as goal

abbrev pub invariant-loop-place : goal.invariant-loop-place
invariant-loop-place l = l.loads.items ≡ map (carried l.self.lists l.substance) (take l.place l.self.codes)
