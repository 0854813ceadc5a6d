use Rattle.std.proofs.Common.{◌≡◌, ◌∙◌, ap, subst, sym, true}
use Rattle.std.specs.List.{list_any}
use Rattle.desk_text.specs.Code.{same_code}
use Rattle.desk_graph.specs.Graph.{label_of}
use Rattle.desk_findings.specs.Carried.{carried}
use Rattle.desk_rollup.specs.Values.{carried_by_node as node_carried}
use Rattle.desk_bridge.proofs.Found.{node_of-taken}
use Rattle.desk_engine.proofs.Articles.{above_candidate, article_carries}
use Rattle.desk_engine.proofs.chained.stored_content.Goals as goal

pub name_of-what-requires-clause-named : goal.name_of-what-requires-clause-named
name_of-what-requires-clause-named c =
    subst (λ names. list_any (λ listed. same_code listed c.args.substance.now) names ≡ true) (sym c.as_slice.ensures)
    (c.requires.stored.of.named.named.named c.args.substance.now (above_candidate c.args.tables.now.lists c.args.article.now c.args.substance.now c.requires.held.above))

pub returns : goal.returns
returns c =
    let t = c.args.tables.now.lists in
    let names = c.args.stored.now.names in
    let at = c.name_of-what.ensures ∙ ap (λ list. Rattle.desk_bridge.specs.Bridge.place_of list c.args.substance.now) c.as_slice.ensures in
    let name = ap (label_of names) at ∙ (node_of-taken names c.args.substance.now (c.requires.stored.of.named.named.named c.args.substance.now (above_candidate t c.args.article.now c.args.substance.now c.requires.held.above))).1 in
    c.amount_in.ensures
    ∙ ap (λ loads. node_carried loads c.name_of-what.result) (c.as_slice-2.ensures.value ∙ ap (λ v. v.loads) c.values.view_is)
    ∙ c.values_of-values.ensures.loads c.name_of-what.result
    ∙ ap (λ substance. carried t substance c.args.article.now) name
    ∙ article_carries t c.requires.sound.consistent c.args.substance.now c.args.article.now c.requires.held.is_article c.requires.held.above
