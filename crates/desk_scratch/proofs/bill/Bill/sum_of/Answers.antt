use Rattle.std.proofs.Common.{◌∙◌}
use Rattle.desk_scratch.proofs.bill.Bill.sum_of.Goals as goal

pub tonnage-requires : goal.tonnage-requires
tonnage-requires c = (c.args.substance.now, c.as_slice.ensures.value ∙ c.in_ok-loads.ensures)
