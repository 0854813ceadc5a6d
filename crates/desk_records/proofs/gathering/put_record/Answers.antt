-- For a row that isn't put in there has to be room.
use Rattle.std.proofs.Common.{inr}
use Rattle.desk_records.proofs.Gatherings.{has_the_version}
use Rattle.desk_records.proofs.gathering.put_record.Goals as goal

pub returns-in-Err-put-clause-memory : goal.returns-in-Err-put-clause-memory
returns-in-Err-put-clause-memory c = λ wanting. (has_the_version c.args.kept.now c.in-Ok.row c.in-Ok.ensures.row, inr (c.in-Ok.row, c.in-Ok.ensures.row))
