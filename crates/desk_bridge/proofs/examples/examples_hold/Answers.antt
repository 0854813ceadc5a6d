use Rattle.desk_bridge.proofs.ExampleProofs.{bridge_examples, edit_examples, finding_examples, line_examples, order_examples, own_examples, refusal_examples, roll_up_examples, year_examples}
use Rattle.desk_bridge.proofs.examples.examples_hold.Goals as goal

pub returns : goal.returns
returns c = record {
  bridge = bridge_examples;
  findings = finding_examples;
  order = order_examples;
  lines = line_examples;
  edits = edit_examples;
  own = own_examples;
  roll_ups = roll_up_examples;
  years = year_examples;
  refusals = refusal_examples;
}
