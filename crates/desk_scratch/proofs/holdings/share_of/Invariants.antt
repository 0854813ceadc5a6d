-- The share so far, which each substance makes greater by less than 2^96.
use Rattle.std.proofs.Common.{◌≡◌, ◌*◌, ◌≤◌, ◌^◌, take, sum_by}
use Rattle.desk_findings.specs.Share.{members_of}
use Rattle.desk_scratch.specs.Holdings.{factor_in}
use Rattle.desk_scratch.proofs.holdings.share_of.Given as goal

abbrev pub invariant-loop-held : goal.invariant-loop-held
invariant-loop-held l = record {
  share : l.share ≡ sum_by (λ held. held.mass * factor_in l.rule (members_of l.tables.lists held.substance)) (take l.held-index l.substances);
  bound : l.share ≤ l.held-index * 2 ^ 96;
}
