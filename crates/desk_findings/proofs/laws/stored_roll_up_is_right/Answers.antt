use Rattle.desk_findings.proofs.Bill.{has_children, has_parents, rolled-unique}
use Rattle.desk_findings.proofs.laws.stored_roll_up_is_right.Goals as goal

pub returns : goal.returns
returns c t bill children own stored step code kept = rolled-unique t (has_parents t bill.parents) bill.acyclic own stored (has_children t children) step code kept
