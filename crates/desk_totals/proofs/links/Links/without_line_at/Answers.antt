use Rattle.std.proofs.Common.{◌≡◌, map, ap, ◌∙◌}
use Rattle.std.specs.Prelude.{remove}
use Rattle.std.proofs.lemmas.Result.{IfOk-weaker}
use Rattle.desk_totals.proofs.LineEdits.{bill_of, map-remove, with_other_lines}
use Rattle.desk_totals.specs.Places.{line_at}
use Rattle.desk_totals.proofs.links.Links.without_line_at.Goals as goal

pub returns : goal.returns
returns c =
    let nodes = c.self.inside.nodes.items in
    let count = c.self.inside.material_count in
    let links = c.self.inside.links.items in
    let others = c.remove.new.self.items in
    let self = c.args.self in
    let changed = ap (map (line_at nodes)) c.remove.ensures.items ∙ map-remove (line_at nodes) links c.args.place in
    IfOk-weaker c.with_links.result (λ bill. bill ≡ bill_of nodes count (map (line_at nodes) others)) (λ bill. bill ≡ bill_of self.nodes self.material_count (remove self.lines c.args.place))
    (λ bill e. e ∙ with_other_lines nodes count links others self (λ lines. remove lines c.args.place) c.self.view_is changed)
    c.with_links.ensures
