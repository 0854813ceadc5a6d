use Rattle.std.proofs.Common.{refl}
use Rattle.desk_engine.proofs.Entries.{adds, heavy_by}
use Rattle.desk_engine.proofs.years.plan_adding.Goals as goal

pub returns-in-Ok-clause-plan : goal.returns-in-Ok-clause-plan
returns-in-Ok-clause-plan c =
    adds c.args.year c.args.product.now c.args.units c.args.mass c.args.years.now.entries c.as_slice.ensures.yearly c.requires.some c.requires.fits c.args.years.now c.in-Ok.plan refl c.in-Ok.ensures.plan c.in-Ok.ensures.entry c.in-Ok.ensures.ready

pub returns-in-Err-YearTooLarge-clause-fault : goal.returns-in-Err-YearTooLarge-clause-fault
returns-in-Err-YearTooLarge-clause-fault c =
    heavy_by c.args.year c.args.product.now c.args.units c.args.mass c.args.years.now.entries c.as_slice.ensures.yearly c.requires.some c.requires.fits c.in-Err-YearTooLarge.field-0 c.in-Err-YearTooLarge.year c.in-Err-YearTooLarge.field-0-is c.in-Err-YearTooLarge.ensures.refused
