use Rattle.desk_bridge.proofs.LookUps.{bridge_from, bridge_into, line_kept, unline_kept}
use Rattle.desk_bridge.proofs.laws.bridges_by_look_up.Goals as goal

pub returns : goal.returns
returns c = record { from = bridge_from; into = bridge_into; line = line_kept; unline = unline_kept }
