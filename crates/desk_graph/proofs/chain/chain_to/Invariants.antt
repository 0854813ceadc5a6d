use Rattle.std.proofs.Common.{◌≡◌, ◌<◌, [], ◌++◌, length, IfSome}
use Rattle.std.specs.Option.{option_map_or}
use Rattle.desk_graph.specs.Reaches.{chain_of_nodes}
use Rattle.desk_graph.proofs.chain.chain_to.Given as goal

abbrev pub invariant-loop-at : goal.invariant-loop-at
invariant-loop-at l =
    IfSome l.at (λ node. node < length l.lines)
    × (l.nodes.items ++ option_map_or (λ node. chain_of_nodes l.lines node l.target) l.at [] ≡ chain_of_nodes l.lines l.from l.target)

abbrev pub decreases-loop-at : goal.decreases-loop-at
decreases-loop-at l = length (option_map_or (λ node. chain_of_nodes l.lines node l.target) l.at [])
