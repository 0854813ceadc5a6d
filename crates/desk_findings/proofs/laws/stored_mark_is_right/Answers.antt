use Rattle.desk_findings.proofs.Bill.{has_children, has_parents, reaches-unique}
use Rattle.desk_findings.proofs.laws.stored_mark_is_right.Goals as goal

pub returns : goal.returns
returns c t bill children target stored step code kept = reaches-unique t (has_parents t bill.parents) bill.acyclic target stored (has_children t children) step code kept
