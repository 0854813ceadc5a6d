use Rattle.desk_bridge.proofs.Years.{heavy, masses, order, units, weighs}
use Rattle.desk_bridge.proofs.laws.years_agree.Goals as goal

pub returns : goal.returns
returns c = record { order = order; units = units; weighs = weighs; masses = masses; heavy = heavy }
