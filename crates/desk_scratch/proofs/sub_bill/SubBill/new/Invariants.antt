-- The tables stay.
use Rattle.std.proofs.Common.{◌≡◌}
use Rattle.desk_scratch.proofs.sub_bill.SubBill.new.Given as goal

abbrev pub invariant-loop-step : goal.invariant-loop-step
invariant-loop-step l = l.sub_bill.lists ≡ l.tables.lists
