use Rattle.std.proofs.Common.{◌≡◌, take}
use Rattle.desk_tonnage.specs.Tonnage.{total_carried}
use Rattle.desk_tonnage.proofs.sums.total_carried.Given as goal

abbrev pub invariant-loop-entry : goal.invariant-loop-entry
invariant-loop-entry l = l.total ≡ total_carried l.loads (take l.entry-index l.entries)
