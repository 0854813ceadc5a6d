use Rattle.desk_rollup.proofs.ExampleProofs.{diamond_examples}
use Rattle.desk_rollup.proofs.examples.examples_hold.Goals as goal

pub returns : goal.returns
returns c = diamond_examples
