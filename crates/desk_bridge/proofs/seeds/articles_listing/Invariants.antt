use Rattle.std.proofs.Common.{◌≡◌, ◌++◌, ◌&&◌, drop, filter, map}
use Rattle.desk_findings.specs.Articles.{is_article_sort}
use Rattle.desk_history.specs.Affected.{leads_to_some, materials_listing}
use Rattle.desk_bridge.proofs.seeds.articles_listing.Given as goal

abbrev pub invariant-loop-part : goal.invariant-loop-part
invariant-loop-part l =
    l.codes.items ++ map (λ part. part.code) (filter (λ part. is_article_sort part.sort && leads_to_some l.tables.lists part.code (materials_listing l.tables.lists l.substance)) (drop l.part-index l.parts))
    ≡ map (λ part. part.code) (filter (λ part. is_article_sort part.sort && leads_to_some l.tables.lists part.code (materials_listing l.tables.lists l.substance)) l.parts)
