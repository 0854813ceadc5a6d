use Rattle.desk_totals.proofs.Fits.{same_amount}
use Rattle.std.proofs.lemmas.Slice.Eq.{slice_eq-Decides}
use Rattle.desk_totals.proofs.amounts.are_same.Goals as goal

pub returns : goal.returns
returns c = (slice_eq-Decides same_amount c.args.one.now c.args.other.now c.eq.result c.eq.ensures).0
