use Rattle.std.proofs.Common.{◌≡◌, ◌++◌, ◌∙◌, ◌&&◌, [], true, ap, map, subst, sym}
use Rattle.std.specs.Prelude.{if◌then◌else◌}
use Rattle.std.specs.List.{AllByRecursion, flat_map}
use Rattle.desk_text.specs.Code.{code_cmp}
use Rattle.desk_model.specs.declared.rows.part.PartRow.{PartRow}
use Rattle.desk_model.specs.Lists.{is_part}
use Rattle.desk_model.proofs.Kept.{code_cmp_total, each_kept}
use Rattle.desk_findings.specs.Articles.{is_article_sort}
use Rattle.desk_findings.specs.Findings.{findings_of_article}
use Rattle.desk_findings.specs.Reaches.{is_or_reaches}
use Rattle.desk_tables.proofs.HeavyYears.{at_each}
use Rattle.desk_tables.proofs.Taken.{take_whole}
use Rattle.desk_scratch.specs.LookUps.{finding_of}
use Rattle.desk_scratch.proofs.Lines.{flat_map-filter}
use Rattle.desk_scratch.proofs.bill.Bill.push_on_articles.Goals as goal

pub push_if_held-requires : goal.push_if_held-requires
push_if_held-requires c =
    let t = c.args.self.now in
    subst (λ row. is_part t row.code ≡ true) (sym c.other-item.is)
    (at_each (λ row. is_part t row.code ≡ true) c.parts-other-items.result.now c.loop-other.other-index c.other-item.result
    (subst (AllByRecursion (λ row. is_part t row.code ≡ true)) (sym c.loop-other.invariant.same) (each_kept (λ row. row.code) code_cmp code_cmp_total t.parts))
    c.loop-other-test.true)

pub returns : goal.returns
returns c =
    let t = c.args.self.now in
    let held = λ (other : PartRow). is_article_sort other.sort && is_or_reaches t c.args.part.now other.code in
    let old = map finding_of c.args.list.now.items in
    c.loop-other.invariant.list
    ∙ ap (λ others. old ++ flat_map (λ other. if held other then findings_of_article t other else []) others) (take_whole _ c.loop-other.other-index c.loop-other-test.false ∙ c.loop-other.invariant.same)
    ∙ ap (λ list. old ++ list) (sym (flat_map-filter (findings_of_article t) held t.parts))
