use Rattle.std.proofs.Common.{◌∙◌, arith}
use Rattle.std.proofs.lemmas.List.{take_all}
use Rattle.desk_bridge.proofs.Chains.{has_node-at}
use Rattle.desk_bridge.proofs.OwnsAt.{are_own_at, own_right_at, pushed_nodes, pushed_right}
use Rattle.desk_bridge.proofs.own_after.owns_at.Goals as goal

pub code_at-code-requires-clause-there : goal.code_at-code-requires-clause-there
code_at-code-requires-clause-there g c = c.requires.inside _ (has_node-at c.args.nodes.now c.loop-node.node-index 0 (omega arith))

pub code_at-code-requires-clause-code : goal.code_at-code-requires-clause-code
code_at-code-requires-clause-code g c = c.requires.codes _ (c.requires.inside _ (has_node-at c.args.nodes.now c.loop-node.node-index 0 (omega arith)))

pub loop-node-preserved : goal.loop-node-preserved
loop-node-preserved g c =
    let labels = (g.B.BillView.graph c.args.bill.now).labels in
    record {
      these = pushed_nodes c.args.nodes.now c.loop-node.node-index 0 c.loop-node.owns.items c.push.new.self.items c.in_ok-own_of.field-0 (omega arith) c.in_ok-push.ensures.items c.loop-node.invariant.these c.in_ok-own_of.ensures.node;
      right =
          pushed_right _ c.loop-node.owns.items c.push.new.self.items c.in_ok-own_of.field-0 c.in_ok-push.ensures.items c.loop-node.invariant.right
          (own_right_at c.args.lists.now labels c.args.names.now c.requires.bill.unique _ (c.requires.inside _ (has_node-at c.args.nodes.now c.loop-node.node-index 0 (omega arith))) c.code_at-code.result c.code_at-code.ensures
          c.in_ok-own_of.field-0 c.in_ok-own_of.ensures.node c.in_ok-own_of.ensures.own);
    }

pub returns : goal.returns
returns g c =
    are_own_at c.args.lists.now (g.B.BillView.graph c.args.bill.now).labels c.args.names.now c.args.nodes.now c.loop-node.owns.items (c.loop-node.invariant.these ∙ take_all c.loop-node.node-index c.args.nodes.now c.loop-node-test.false)
    c.loop-node.invariant.right
