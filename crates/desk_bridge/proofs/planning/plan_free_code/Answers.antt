use Rattle.std.proofs.Common.{◌≡◌, false, sym, subst, length, ◌≤◌}
use Rattle.desk_graph.specs.Edits.{is_taken}
use Rattle.desk_graph.specs.Planned.{graph_after}
use Rattle.desk_bridge.proofs.Plans.{code-fits, code-some}
use Rattle.desk_bridge.proofs.planning.plan_free_code.Goals as goal

pub plan_new_node-requires-clause-some : goal.plan_new_node-requires-clause-some
plan_new_node-requires-clause-some c = subst (λ b. 1 ≤ length b) (sym c.as_bytes.ensures.value) (code-some c.args.code.now c.as_bytes.ensures.form)

pub plan_new_node-requires-clause-fits : goal.plan_new_node-requires-clause-fits
plan_new_node-requires-clause-fits c = subst (λ b. length b ≤ 40) (sym c.as_bytes.ensures.value) (code-fits c.args.code.now c.as_bytes.ensures.form)

pub plan_new_node-requires-clause-free : goal.plan_new_node-requires-clause-free
plan_new_node-requires-clause-free c = subst (λ b. is_taken (graph_after c.args.plan.now c.args.bill.now).labels b ≡ false) (sym c.as_bytes.ensures.value) c.requires.free
