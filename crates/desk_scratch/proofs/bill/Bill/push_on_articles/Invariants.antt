-- The findings so far are those on the held articles among the first parts.
use Rattle.std.proofs.Common.{◌≡◌, ◌++◌, ◌&&◌, [], map, take}
use Rattle.std.specs.Prelude.{if◌then◌else◌}
use Rattle.std.specs.List.{flat_map}
use Rattle.desk_findings.specs.Articles.{is_article_sort}
use Rattle.desk_findings.specs.Findings.{findings_of_article}
use Rattle.desk_findings.specs.Reaches.{is_or_reaches}
use Rattle.desk_scratch.specs.LookUps.{finding_of}
use Rattle.desk_scratch.proofs.bill.Bill.push_on_articles.Given as goal

abbrev pub invariant-loop-other : goal.invariant-loop-other
invariant-loop-other l = record {
  place : l.place ≡ l.other-index;
  same : l.other-items ≡ l.self.parts;
  list : map finding_of l.list.items
      ≡ map finding_of l.fn.list.items
      ++ flat_map (λ other. if is_article_sort other.sort && is_or_reaches l.self l.part other.code then findings_of_article l.self other else []) (take l.other-index l.other-items);
}
