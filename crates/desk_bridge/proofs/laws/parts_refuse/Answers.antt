use Rattle.desk_bridge.proofs.Refused.{by_cycle, by_marks, by_none, by_weight, by_year}
use Rattle.desk_bridge.proofs.laws.parts_refuse.Goals as goal

pub returns : goal.returns
returns c = record { cycle = by_cycle; large = by_weight; many = by_marks; heavy = by_year; none = by_none }
