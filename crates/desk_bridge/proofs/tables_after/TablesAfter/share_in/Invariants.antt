-- The share so far, which each substance makes greater by less than 2^96.
use Rattle.std.proofs.Common.{◌≡◌, ◌*◌, ◌≤◌, ◌^◌, length, take, sum_by}
use Rattle.desk_model.specs.declared.limits.TheConstants.{CONTENT_LIMIT}
use Rattle.desk_findings.specs.Share.{factor_of}
use Rattle.desk_bridge.proofs.tables_after.TablesAfter.share_in.Given as goal

abbrev pub invariant-loop-held : goal.invariant-loop-held
invariant-loop-held l = record {
  same : l.held-items ≡ l.fn.material.substances;
  few : length l.held-items ≤ CONTENT_LIMIT;
  share : l.share ≡ sum_by (λ held. held.mass * factor_of l.self l.rule held.substance) (take l.held-index l.held-items);
  bound : l.share ≤ l.held-index * 2 ^ 96;
}
