use Rattle.desk_records.proofs.Distinct.{distinct}
use Rattle.desk_records.proofs.laws.rows_have_keys_of_their_own.Goals as goal

pub returns : goal.returns
returns c = distinct
