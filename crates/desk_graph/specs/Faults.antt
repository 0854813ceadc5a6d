-- How the faults of a bill are told.
use Rattle.std.specs.Prelude.{ℕ, List, codes}
use Rattle.desk_graph.specs.declared.fault.NodeFault.{NodeFault}
use Rattle.desk_graph.specs.declared.fault.NodeFault.TheVariants as node
use Rattle.desk_graph.specs.declared.fault.PlanFault.{PlanFault}
use Rattle.desk_graph.specs.declared.fault.PlanFault.TheVariants as plan
use Rattle.desk_graph.specs.declared.fault.LineFault.{LineFault}
use Rattle.desk_graph.specs.declared.fault.LineFault.TheVariants as line

-- the words for want of memory
abbrev pub memory_words : List ℕ
memory_words = codes "out of memory"

-- the words for a node that a bill doesn't take
abbrev pub node_fault_words : NodeFault → List ℕ
node_fault_words node.Taken = codes "a node has the label"
node_fault_words node.Full = codes "the bill has 24576 nodes"

-- the words for a new node that can't be planned
abbrev pub plan_fault_words : PlanFault → List ℕ
plan_fault_words (plan.Node fault) = node_fault_words fault
plan_fault_words plan.OutOfMemory = memory_words

-- the words for a line that a bill doesn't take
abbrev pub line_fault_words : LineFault → List ℕ
line_fault_words (line.Closes chain) = codes "the line would close a cycle"
line_fault_words line.Full = codes "the bill would have more than 131072 lines"
line_fault_words line.OutOfMemory = memory_words
