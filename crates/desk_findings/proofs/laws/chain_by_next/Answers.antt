use Rattle.desk_findings.proofs.Bill.{chain-step, has_parents}
use Rattle.desk_findings.proofs.laws.chain_by_next.Goals as goal

pub returns : goal.returns
returns c t bill part target = chain-step t (has_parents t bill.parents) bill.acyclic target part
