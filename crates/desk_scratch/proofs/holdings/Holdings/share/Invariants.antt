-- The share so far, which each substance makes greater by less than 2^96.
use Rattle.std.proofs.Common.{◌≡◌, ◌*◌, ◌≤◌, ◌^◌, length, take, sum_by}
use Rattle.desk_model.specs.declared.limits.TheConstants.{CONTENT_LIMIT}
use Rattle.desk_scratch.specs.Holdings.{factor_in}
use Rattle.desk_scratch.proofs.holdings.Holdings.share.Given as goal

abbrev pub invariant-loop-holding : goal.invariant-loop-holding
invariant-loop-holding l = record {
  few : length l.holding-items ≤ CONTENT_LIMIT;
  share : l.share ≡ sum_by (λ holding. holding.mass * factor_in l.rule holding.members) (take l.holding-index l.holding-items);
  bound : l.share ≤ l.holding-index * 2 ^ 96;
}
