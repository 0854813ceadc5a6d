use Rattle.desk_model.proofs.ExampleProofs.{content_examples, edit_examples, entry_examples, range_examples, replacement_examples, row_examples, start_examples, text_examples}
use Rattle.desk_model.proofs.examples.examples_hold.Goals as goal

pub returns : goal.returns
returns c = record {
  entries = entry_examples;
  replacements = replacement_examples;
  ranges = range_examples;
  contents = content_examples;
  rows = row_examples;
  edits = edit_examples;
  texts = text_examples;
  starts = start_examples;
}
