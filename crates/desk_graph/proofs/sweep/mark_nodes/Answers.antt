use Rattle.std.proofs.Common.{◌∙◌, arith, refl}
use Rattle.desk_graph.proofs.Lists.{has_line-at}
use Rattle.desk_graph.proofs.Marks.{marked_more, marks_both}
use Rattle.desk_graph.proofs.sweep.mark_nodes.Goals as goal

pub mark_node-more-requires : goal.mark_node-more-requires
mark_node-more-requires c = omega (arith, c.requires _ (has_line-at c.args.lines.now c.loop-line.line-index (record { node = 0; count = 0 }) (omega arith)), c.loop-line.invariant.0)

pub loop-line-preserved : goal.loop-line-preserved
loop-line-preserved c = (
  c.mark_node-more.ensures.size ∙ c.loop-line.invariant.0,
  marked_more c.args.marks.now c.loop-line.marks c.mark_node-more.new.marks c.args.lines.now c.loop-line.line-index (record { node = 0; count = 0 }) (omega arith) c.mark_node-more.ensures.marks c.loop-line.invariant.1,
  marks_both c.loop-line.more c.mark_node-more.result _ c.args.marks.now c.loop-line.marks c.mark_node-more.new.marks c.loop-line.invariant.2 c.mark_node-more.ensures.more refl,
  omega (arith, c.mark_node-more.ensures.few, c.loop-line.invariant.3),
)
