use Rattle.desk_findings.proofs.Bill.{has_children}
use Rattle.desk_findings.proofs.Holders.{held, next_is, own_held, way-is_chain}
use Rattle.desk_findings.proofs.laws.findings_are_held.Goals as goal

pub returns : goal.returns
returns c = record {
  own = own_held;
  held = λ t ordered bill finding code. held t ordered bill finding code;
  next = λ t ordered bill finding code own. next_is t ordered bill finding own code;
  ways = λ t ordered bill children finding next right more code kept found. way-is_chain t ordered bill finding (has_children t children) next right more code kept found;
}
