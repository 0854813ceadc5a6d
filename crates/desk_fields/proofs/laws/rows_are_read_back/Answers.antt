use Rattle.std.proofs.Common.{refl}
use Rattle.desk_fields.proofs.RowLaws.{one_row}
use Rattle.desk_fields.proofs.laws.rows_are_read_back.Goals as goal

pub returns : goal.returns
returns c = record {
  written = λ row form. record { form = form; of_table = refl; has_code = refl; has_body = refl };
  one = one_row;
}
