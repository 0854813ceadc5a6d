use Rattle.std.proofs.Common.{◌∙◌, ap, subst, sym}
use Rattle.desk_graph.specs.Graph.{label_of}
use Rattle.desk_bridge.proofs.Built.{on_ok}
use Rattle.desk_engine.specs.Masses.{IsWeighed}
use Rattle.desk_engine.proofs.Weights.{here_weighed, stays_weighed, weights_put}
use Rattle.desk_engine.proofs.masses.weigh_node.Goals as goal

pub returns-clause-weights : goal.returns-clause-weights
returns-clause-weights c =
    let found = c.in-Some.ensures in
    on_ok c.put.result
    (λ put. weights_put c.args.bill.now.labels c.args.plan.now c.args.masses.now.rows c.put.new.self.rows (record { product = c.code_at-product.result; mass = c.values.inside.weight }) put found.0 found.1 (ap (label_of c.args.bill.now.labels) found.2 ∙ sym c.code_at-product.ensures) (ap (λ values. values.weight) (c.values.view_is ∙ found.3)))
    c.put.ensures.ok

pub returns-clause-stays : goal.returns-clause-stays
returns-clause-stays c = on_ok c.put.result (λ put. stays_weighed c.args.bill.now.labels c.args.plan.now c.args.masses.now.rows c.put.new.self.rows (record { product = c.code_at-product.result; mass = c.values.inside.weight }) put) c.put.ensures.ok

pub returns-clause-here : goal.returns-clause-here
returns-clause-here c =
    on_ok c.put.result
    (λ put product. subst (IsWeighed c.put.new.self.rows) c.code_at-product.ensures (here_weighed c.args.bill.now.labels c.args.plan.now c.args.masses.now.rows c.put.new.self.rows (record { product = c.code_at-product.result; mass = c.values.inside.weight }) put))
    c.put.ensures.ok
