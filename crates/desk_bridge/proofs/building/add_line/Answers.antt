use Rattle.std.proofs.Common.{◌+◌, ◌∙◌, ap, get_or, subst, sym}
use Rattle.desk_graph.specs.Edits.{with_line_in}
use Rattle.desk_bridge.specs.Bridge.{IsBillOf, node_of}
use Rattle.desk_bridge.specs.Building.{NextLine, with_first}
use Rattle.desk_bridge.proofs.Built.{after_line, next_line, on_ok}
use Rattle.desk_bridge.proofs.building.add_line.Goals as goal

pub enter_line-requires-clause-next : goal.enter_line-requires-clause-next
enter_line-requires-clause-next c =
    let is = c.index-lines-place.is ∙ ap (λ lines. get_or lines c.args.place c.index-lines-place.result) c.lines.ensures in
    subst (NextLine c.args.bill.now) (sym is)
    (next_line c.args.tables.now.lists c.requires.sound.consistent c.requires.sound.limits c.args.bill.now c.node_count.ensures.bill c.args.place c.index-lines-place.result c.requires.place c.requires.bill)

pub returns-clause-bill : goal.returns-clause-bill
returns-clause-bill c =
    let is = c.index-lines-place.is ∙ ap (λ lines. get_or lines c.args.place c.index-lines-place.result) c.lines.ensures in
    on_ok c.enter_line.result
    (λ e.
    subst (IsBillOf (with_first c.args.tables.now.lists (c.args.place + 1)))
    (sym (e ∙ ap (λ row. with_line_in (node_of c.args.bill.now.labels row.parent) (node_of c.args.bill.now.labels row.child) row.count c.args.bill.now) is))
    (after_line c.args.tables.now.lists c.requires.sound.consistent c.requires.sound.limits c.args.bill.now c.node_count.ensures.bill c.args.place c.index-lines-place.result c.requires.place c.requires.bill))
    c.enter_line.ensures.bill
