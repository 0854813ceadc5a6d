use Rattle.desk_findings.proofs.Firsts.{heavy-least, next-least, year-least}
use Rattle.desk_findings.proofs.laws.firsts_are_least.Goals as goal

pub returns : goal.returns
returns c = record { child = next-least; part = heavy-least; year = year-least }
