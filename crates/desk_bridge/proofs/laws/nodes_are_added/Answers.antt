use Rattle.desk_bridge.proofs.NewNodes.{declare_kept, nodes_added, part_kept, plain_kept}
use Rattle.desk_bridge.proofs.laws.nodes_are_added.Goals as goal

pub returns : goal.returns
returns c = record { added = nodes_added; part = part_kept; declare = declare_kept; plain = plain_kept }
