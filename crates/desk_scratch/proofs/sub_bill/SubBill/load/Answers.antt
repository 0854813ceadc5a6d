use Rattle.std.proofs.Common.{◌∙◌}
use Rattle.desk_scratch.proofs.sub_bill.SubBill.load.Goals as goal

pub load-requires-clause-loads : goal.load-requires-clause-loads
load-requires-clause-loads c = (c.args.substance.now, c.as_slice-2.ensures.value ∙ c.in_ok-loads-2.ensures)
