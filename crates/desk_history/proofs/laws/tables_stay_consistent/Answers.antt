use Rattle.desk_history.proofs.Rules.{passes}
use Rattle.desk_history.proofs.SoundSteps.{IsConsistent-entered, IsConsistent-start, KeepsLimits-entered}
use Rattle.desk_history.proofs.laws.tables_stay_consistent.Goals as goal

pub returns : goal.returns
returns c = record {
  start = IsConsistent-start;
  passed = IsConsistent-entered;
  limits = KeepsLimits-entered;
  accepted = passes;
}
