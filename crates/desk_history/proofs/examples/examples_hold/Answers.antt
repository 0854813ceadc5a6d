use Rattle.desk_history.proofs.ExampleProofs.{acceptance_examples, affected_examples, first_examples, history_examples, limit_examples, order_examples, refusal_examples, sound_examples, table_limit_examples, tower_examples}
use Rattle.desk_history.proofs.examples.examples_hold.Goals as goal

pub returns : goal.returns
returns c = record {
  histories = history_examples;
  affected = affected_examples;
  limits = limit_examples;
  table_limits = table_limit_examples;
  refusals = refusal_examples;
  firsts = first_examples;
  acceptances = acceptance_examples;
  orders = order_examples;
  sound = sound_examples;
  tower = tower_examples;
}
