use Rattle.std.proofs.Common.{◌≡◌, IfOk, subst}
use Rattle.desk_graph.specs.Planned.{graph_after}
use Rattle.desk_bridge.proofs.Plans.{after-line, after-unline, cycle-line, room-line, told}
use Rattle.desk_bridge.proofs.planning.plan_edit.Goals as goal

pub returns-in-Line-clause-bill : goal.returns-in-Line-clause-bill
returns-in-Line-clause-bill c =
    subst (λ h. IfOk c.plan_line.result (λ plan. graph_after plan c.args.bill.now ≡ h))
    (after-line c.args.bill.now c.args.edit.now _ _ _ c.node_of.result c.node_of-in-Line.result c.node_of.ensures.node c.node_of-in-Line.ensures.node _ c.get.result c.in-Line.is c.get.ensures.value) c.plan_line.ensures.bill

pub returns-in-Line-clause-closes : goal.returns-in-Line-clause-closes
returns-in-Line-clause-closes c =
    told _ _ _ c.plan_line.result (cycle-line c.args.bill.now c.args.edit.now _ _ _ c.node_of.result c.node_of-in-Line.result c.node_of.ensures.node c.node_of-in-Line.ensures.node _ c.in-Line.is) c.plan_line.ensures.closes c.plan_line.ensures.chain

pub returns-in_ok-plan_drop-in-Unline-clause-bill :
    goal.returns-in_ok-plan_drop-in-Unline-clause-bill
returns-in_ok-plan_drop-in-Unline-clause-bill c =
    subst (λ h. graph_after c.in_ok-plan_drop-in-Unline.field-0 c.args.bill.now ≡ h)
    (after-unline c.args.bill.now c.args.edit.now _ _ _ c.node_of-in-Unline.result c.node_of-in-Unline-2.result c.node_of-in-Unline.ensures.node c.node_of-in-Unline-2.ensures.node c.in-Unline.is) c.in_ok-plan_drop-in-Unline.ensures.bill

pub plan_line-requires-clause-room : goal.plan_line-requires-clause-room
plan_line-requires-clause-room c =
    room-line c.args.bill.now c.args.edit.now _ _ _ c.node_of.result c.node_of-in-Line.result c.node_of.ensures.node c.node_of-in-Line.ensures.node _ c.get.result c.in-Line.is c.get.ensures.value c.requires.can.lines
