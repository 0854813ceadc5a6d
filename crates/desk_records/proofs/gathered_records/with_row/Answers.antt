use Rattle.std.proofs.Common.{◌∙◌, Err, ap}
use Rattle.desk_records.specs.Gathered.{IsGatheredOf}
use Rattle.desk_records.proofs.Gatherings.{no_row_last}
use Rattle.desk_records.proofs.gathered_records.with_row.Goals as goal

pub returns-in-Err-Shape-clause-gathered : goal.returns-in-Err-Shape-clause-gathered
unfolding IsGatheredOf
returns-in-Err-Shape-clause-gathered c = λ records are.
    no_row_last records c.args.kept c.into_key-in-Err-Shape.result c.into_key-in-Err-Shape.ensures
    (c.put_record.ensures.shape (c.in-Err-Shape.is ∙ ap (λ f. Err f) c.in-Err-Shape.field-0-is))
