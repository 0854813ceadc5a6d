use Rattle.std.proofs.Common.{◌≡◌, ℕ, false, length, take}
use Rattle.std.specs.Prelude.{slice_index_or}
use Rattle.desk_graph.specs.Reaches.{has_node}
use Rattle.desk_engine.proofs.stored_uses.marks_of.Given as goal

abbrev pub invariant-loop-node : goal.invariant-loop-node
invariant-loop-node l = record {
  size : length l.marks.items ≡ l.count;
  marks : (node : ℕ) → slice_index_or l.marks.items node false ≡ has_node (take l.node-index l.nodes) node;
}
