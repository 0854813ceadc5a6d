use Rattle.std.proofs.Common.{refl}
use Rattle.desk_tables.proofs.counts.count_of_new.Goals as goal

pub returns-in-Ok : goal.returns-in-Ok
returns-in-Ok g c = rw (c.in-Ok.ensures.found c.args.row.now) refl
