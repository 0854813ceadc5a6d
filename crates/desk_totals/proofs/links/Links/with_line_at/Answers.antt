use Rattle.std.proofs.Common.{◌≡◌, map, set, sym, ap, ◌∙◌}
use Rattle.std.proofs.lemmas.List.{map-set}
use Rattle.std.proofs.lemmas.Result.{IfOk-weaker}
use Rattle.desk_totals.proofs.LineEdits.{bill_of, with_other_lines}
use Rattle.desk_totals.specs.Places.{line_at}
use Rattle.desk_totals.proofs.links.Links.with_line_at.Goals as goal

pub returns : goal.returns
returns c =
    let nodes = c.self.inside.nodes.items in
    let count = c.self.inside.material_count in
    let links = c.self.inside.links.items in
    let others = c.set_link.new.links.items in
    let self = c.args.self in
    let link_is : line_at nodes c.link_of-link.result ≡ c.args.line.now = ap (λ list. line_at list c.link_of-link.result) (sym c.as_slice.ensures.value) ∙ c.link_of-link.ensures.line in
    let changed = ap (map (line_at nodes)) c.set_link.ensures ∙ map-set (line_at nodes) links c.args.place c.link_of-link.result ∙ ap (set (map (line_at nodes) links) c.args.place) link_is in
    IfOk-weaker c.with_links.result (λ bill. bill ≡ bill_of nodes count (map (line_at nodes) others)) (λ bill. bill ≡ bill_of self.nodes self.material_count (set self.lines c.args.place c.args.line.now))
    (λ bill e. e ∙ with_other_lines nodes count links others self (λ lines. set lines c.args.place c.args.line.now) c.self.view_is changed)
    c.with_links.ensures
