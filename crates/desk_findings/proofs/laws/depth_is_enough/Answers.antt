use Rattle.desk_findings.proofs.Bill.{chain-deeper, has_parents, reaches-deeper, rolled-deeper}
use Rattle.desk_findings.proofs.laws.depth_is_enough.Goals as goal

pub returns : goal.returns
returns c = record {
  reached = λ t parents more part target. reaches-deeper t (has_parents t parents) target more part;
  rolled_up = λ t bill own more code. rolled-deeper t (has_parents t bill.parents) bill.acyclic own more code;
  chained = λ t bill deeper more part target. chain-deeper t (has_parents t bill.parents) bill.acyclic target deeper more part;
}
