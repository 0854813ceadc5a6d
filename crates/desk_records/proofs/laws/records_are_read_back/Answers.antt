use Rattle.std.proofs.Common.{refl}
use Rattle.desk_records.proofs.RowsRecords.{one_row}
use Rattle.desk_records.proofs.laws.records_are_read_back.Goals as goal

pub returns : goal.returns
returns c = record { written = λ row form. record { form = form; is_written = refl }; one = one_row }
