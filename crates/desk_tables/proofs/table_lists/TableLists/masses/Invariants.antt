use Rattle.std.proofs.Common.{◌≡◌, take}
use Rattle.desk_tables.proofs.table_lists.TableLists.masses.Given as goal

abbrev pub invariant-loop-mass : goal.invariant-loop-mass
invariant-loop-mass l = l.masses.items ≡ take l.mass-index l.mass-items
