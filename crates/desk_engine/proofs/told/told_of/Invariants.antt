use Rattle.std.proofs.Common.{◌≡◌, map, take, true}
use Rattle.std.specs.List.{AllByRecursion}
use Rattle.desk_rollup.specs.Numbers.{mark_number}
use Rattle.desk_findings.specs.Numbering.{is_found}
use Rattle.desk_scratch.specs.LookUps.{finding_of}
use Rattle.desk_bridge.specs.Numbers.{finding_number}
use Rattle.desk_engine.proofs.told.told_of.Given as goal

abbrev pub invariant-loop-hop : goal.invariant-loop-hop
invariant-loop-hop l = record {
  found : AllByRecursion (λ told. is_found l.tables.lists (finding_of told) ≡ true) l.list.items;
  numbers : map (λ told. finding_number l.stored.bill.labels l.stored.names (finding_of told)) l.list.items ≡ map (λ hop. mark_number hop.mark) (take l.hop-index l.hops);
}
