-- The amount is that in the holdings to come.
use Rattle.std.proofs.Common.{◌≡◌, drop}
use Rattle.desk_bridge.specs.Own.{amount_held}
use Rattle.desk_bridge.proofs.own.amount_among.Given as goal

abbrev pub invariant-loop-holding : goal.invariant-loop-holding
invariant-loop-holding l = record { rest : amount_held l.above l.substance ≡ amount_held (drop l.holding-index l.above) l.substance }
