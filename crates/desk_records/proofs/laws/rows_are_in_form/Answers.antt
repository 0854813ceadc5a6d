use Rattle.desk_records.proofs.InForm.{all_in_form}
use Rattle.desk_records.proofs.laws.rows_are_in_form.Goals as goal

pub returns : goal.returns
returns c = all_in_form
