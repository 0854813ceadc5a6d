use Rattle.desk_findings.proofs.Bill.{has_children}
use Rattle.desk_findings.proofs.Numbering.{as_many, counted, numbers_same}
use Rattle.desk_findings.proofs.laws.findings_are_numbered.Goals as goal

pub returns : goal.returns
returns c = record {
  same = λ t ordered bill children number stored right code kept n. numbers_same t ordered bill (has_children t children) number stored right code kept n;
  lengths = as_many;
  all = counted;
}
