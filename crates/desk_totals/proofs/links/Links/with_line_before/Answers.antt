use Rattle.std.proofs.Common.{◌≡◌, map, sym, ap, ◌∙◌}
use Rattle.std.specs.Prelude.{insert}
use Rattle.std.proofs.lemmas.Result.{IfOk-weaker}
use Rattle.desk_totals.proofs.LineEdits.{bill_of, map-insert, with_other_lines}
use Rattle.desk_totals.specs.Places.{line_at}
use Rattle.desk_totals.proofs.links.Links.with_line_before.Goals as goal

pub returns : goal.returns
returns c =
    let nodes = c.self.inside.nodes.items in
    let count = c.self.inside.material_count in
    let links = c.self.inside.links.items in
    let others = c.insert.new.self.items in
    let self = c.args.self in
    let link_is : line_at nodes c.link_of-link.result ≡ c.args.line.now = ap (λ list. line_at list c.link_of-link.result) (sym c.as_slice.ensures.value) ∙ c.link_of-link.ensures.line in
    let changed = ap (map (line_at nodes)) c.in_ok-insert.ensures.items ∙ map-insert (line_at nodes) links c.args.place c.link_of-link.result ∙ ap (insert (map (line_at nodes) links) c.args.place) link_is in
    IfOk-weaker c.with_links.result (λ bill. bill ≡ bill_of nodes count (map (line_at nodes) others)) (λ bill. bill ≡ bill_of self.nodes self.material_count (insert self.lines c.args.place c.args.line.now))
    (λ bill e. e ∙ with_other_lines nodes count links others self (λ lines. insert lines c.args.place c.args.line.now) c.self.view_is changed)
    c.with_links.ensures
