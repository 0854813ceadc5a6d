use Rattle.desk_history.proofs.FindingSums.{findings_fit}
use Rattle.desk_history.proofs.Masses.{masses_fit}
use Rattle.desk_history.proofs.Years.{years_fit}
use Rattle.desk_history.proofs.laws.only_some_sums_rise.Goals as goal

pub returns : goal.returns
returns c = record {
  masses = λ t s sums edit passed e. masses_fit t s sums.parts_fit edit passed e;
  findings = λ t s sums edit passed e. findings_fit t s sums.findings_fit edit passed e;
  years = λ t s sums edit passed e. years_fit t s sums.years_fit edit passed e;
}
