-- The examples hold by computation.
use Rattle.std.proofs.Common.{refl}
use Rattle.desk_rollup.specs.Examples.{DiamondExamples}
use Rattle.desk_rollup.specs.Rolled.{gathered_within, node_rolled_within}

pub diamond_examples : DiamondExamples
unfolding node_rolled_within gathered_within
diamond_examples = record {
  weighs = refl;
  has_marks = refl;
  first_hop = refl;
  ends_here = refl;
  no_hop = refl;
  carries = refl;
  carries_none = refl;
  counts = refl;
  weighs_less = refl;
  other_hop = refl;
}
