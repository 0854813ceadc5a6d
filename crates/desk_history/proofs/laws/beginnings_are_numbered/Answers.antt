use Rattle.desk_history.proofs.Beginnings.{begins_itself, begins_number, begins_onward, opening_number, up_to_all, up_to_longer, up_to_up_to}
use Rattle.desk_history.proofs.laws.beginnings_are_numbered.Goals as goal

pub returns : goal.returns
returns c = record {
  itself = begins_itself;
  onward = begins_onward;
  opening = opening_number;
  number = begins_number;
  all = up_to_all;
  smaller = up_to_up_to;
  longer = up_to_longer;
}
