use Rattle.std.proofs.Common.{true, ◌++◌, drop, filter, ap, ◌∙◌}
use Rattle.desk_graph.specs.Order.{has_mark}
use Rattle.desk_graph.proofs.Marks.{filter_between}
use Rattle.desk_graph.proofs.sweep.marked_nodes.Goals as goal

pub returns : goal.returns
returns c =
    c.push_marked.ensures.nodes ∙ ap (λ l. l ++ filter (has_mark true c.args.marks.now) c.split_at-2.result.1.now) c.in_ok-nodes.ensures.items
    ∙ ap (filter (has_mark true c.args.marks.now)) (c.split_at-2.ensures.back ∙ ap (drop c.args.from) c.split_at.ensures.front)
    ∙ filter_between c.args.marks.now c.args.from c.args.sweep.end c.args.order.now c.requires.behind c.requires.within c.requires.early c.requires.late
