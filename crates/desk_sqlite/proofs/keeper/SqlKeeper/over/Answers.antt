use Rattle.std.proofs.Common.{◌≡◌, ◌≢◌, ◌∙◌, Result, Ok, Err}
use Rattle.desk_edge.specs.declared.keep_fault.KeepFault.{KeepFault}
use Rattle.desk_edge.specs.declared.keep_fault.KeepFault.TheVariants as fault
use Rattle.desk_sqlite.proofs.keeper.SqlKeeper.over.Goals as goal

not_failed : (r : Result (Unit {0}) KeepFault) (u : Unit {0}) → r ≡ Ok u → r ≢ Err fault.Failed
not_failed r u is other = cc

pub returns-in-Ok-clause-count : goal.returns-in-Ok-clause-count
returns-in-Ok-clause-count g c = c.ready.ensures.faults.steady (not_failed c.ready.result c.in-Ok.field-0 c.in-Ok.is) ∙ c.adopt-keeper.ensures.new.2
