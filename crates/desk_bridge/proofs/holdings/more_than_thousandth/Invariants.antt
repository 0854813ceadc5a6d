use Rattle.std.proofs.Common.{◌≡◌, ◌++◌, drop, filter}
use Rattle.desk_bridge.specs.Own.{is_more}
use Rattle.desk_bridge.proofs.holdings.more_than_thousandth.Given as goal

abbrev pub invariant-loop-holding : goal.invariant-loop-holding
invariant-loop-holding l = l.above.items ++ filter (is_more l.lists l.weight) (drop l.holding-index l.held) ≡ filter (is_more l.lists l.weight) l.held
