use Rattle.std.proofs.Common.{◌≡◌, find, drop}
use Rattle.desk_graph.specs.Order.{mark_of}
use Rattle.desk_graph.proofs.chain.first_marked.Given as goal

abbrev pub invariant-loop-line : goal.invariant-loop-line
invariant-loop-line l = find (λ line. mark_of l.marks line.node) l.lines ≡ find (λ line. mark_of l.marks line.node) (drop l.line-index l.lines)
