use Rattle.std.proofs.Common.{◌∙◌, ap, arith, drop, length}
use Rattle.desk_engine.specs.Planned.{node_rows_from}
use Rattle.desk_engine.proofs.Listed.{drop-front, rows_all}
use Rattle.desk_engine.proofs.Planned.{planned_labels}
use Rattle.desk_engine.proofs.nodes.new_nodes.Goals as goal

pub returns : goal.returns
returns c =
    let labels = c.args.bill.now.labels in
    c.new.ensures
    ∙ rows_all c.new-after.result.labels c.loop-id.id c.loop-id.nodes.items _ (omega (arith, c.node_count-id-end.ensures.count)) c.loop-id.invariant
    ∙ ap (node_rows_from (length labels)) (ap (λ g. drop (length labels) g.labels) c.new-after.ensures ∙ ap (drop (length labels)) (planned_labels c.args.plan.now c.args.bill.now) ∙ drop-front labels c.args.plan.now.labels)
