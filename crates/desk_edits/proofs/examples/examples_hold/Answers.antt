-- The examples hold by computation.
use Rattle.desk_edits.proofs.ExampleProofs.{fault_examples, word_examples}
use Rattle.desk_edits.proofs.examples.examples_hold.Goals as goal

pub returns-clause-words : goal.returns-clause-words
returns-clause-words c = word_examples

pub returns-clause-faults : goal.returns-clause-faults
returns-clause-faults c = fault_examples
