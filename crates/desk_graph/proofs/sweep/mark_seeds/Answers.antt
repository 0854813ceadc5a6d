use Rattle.std.proofs.Common.{◌∙◌, arith, refl}
use Rattle.desk_graph.proofs.Marks.{has_node-at, marks_both, seeded_more}
use Rattle.desk_graph.proofs.sweep.mark_seeds.Goals as goal

pub mark_node-more-requires : goal.mark_node-more-requires
mark_node-more-requires c = omega (arith, c.requires _ (has_node-at c.args.seeds.now c.loop-seed.seed-index 0 (omega arith)), c.loop-seed.invariant.0)

pub loop-seed-preserved : goal.loop-seed-preserved
loop-seed-preserved c = (
  c.mark_node-more.ensures.size ∙ c.loop-seed.invariant.0,
  seeded_more c.args.marks.now c.loop-seed.marks c.mark_node-more.new.marks c.args.seeds.now c.loop-seed.seed-index 0 (omega arith) c.mark_node-more.ensures.marks c.loop-seed.invariant.1,
  marks_both c.loop-seed.more c.mark_node-more.result _ c.args.marks.now c.loop-seed.marks c.mark_node-more.new.marks c.loop-seed.invariant.2 c.mark_node-more.ensures.more refl,
  omega (arith, c.mark_node-more.ensures.few, c.loop-seed.invariant.3),
)
