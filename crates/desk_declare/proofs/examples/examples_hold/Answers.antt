-- The examples hold by computation.
use Rattle.desk_declare.proofs.ExampleProofs.{byte_examples, fault_examples, read_examples}
use Rattle.desk_declare.proofs.examples.examples_hold.Goals as goal

pub returns-clause-readings : goal.returns-clause-readings
returns-clause-readings c = read_examples

pub returns-clause-faults : goal.returns-clause-faults
returns-clause-faults c = fault_examples

pub returns-clause-bytes : goal.returns-clause-bytes
returns-clause-bytes c = byte_examples
