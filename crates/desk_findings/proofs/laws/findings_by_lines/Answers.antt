use Rattle.desk_findings.proofs.Bill.{has_parents}
use Rattle.desk_findings.proofs.FindingRolls.{by_lines}
use Rattle.desk_findings.proofs.FindingsOnce.{of_none, of_part, once}
use Rattle.desk_findings.proofs.laws.findings_by_lines.Goals as goal

pub returns : goal.returns
returns c = record {
  by_lines = λ t ordered parents code finding. by_lines t ordered (has_parents t parents) finding code;
  once = λ t ordered parents apart code finding. once t ordered (has_parents t parents) apart code finding;
  of_part = of_part;
  of_none = of_none;
}
