use Rattle.desk_rollup.proofs.Rolls.{no_heavier}
use Rattle.desk_rollup.proofs.laws.stays_lighter.Goals as goal

pub returns : goal.returns
returns c = λ g bill own what within. no_heavier g.lines bill.ranked.0 bill.ranked.1 own what within
