use Rattle.desk_findings.proofs.Bill.{has_parents}
use Rattle.desk_findings.proofs.Chains.{chain-begins, chain-ends, chain-linked}
use Rattle.desk_findings.proofs.laws.chain_leads.Goals as goal

pub returns : goal.returns
returns c = record {
  begins = chain-begins;
  linked = λ t bill part target. chain-linked t (has_parents t bill.parents) bill.acyclic target part;
  ends = λ t bill part target. chain-ends t (has_parents t bill.parents) bill.acyclic target part;
}
