use Rattle.std.proofs.Common.{◌∙◌, ap, length, subst, unwrap_or}
use Rattle.desk_rows.specs.Held.{IsRoomFor}
use Rattle.desk_graph.specs.Planned.{graph_after}
use Rattle.desk_engine.specs.Planned.{IsRolledFor}
use Rattle.desk_engine.proofs.Planned.{leaves, planned_codes}
use Rattle.desk_engine.proofs.planning.plan_values.Goals as goal

pub new_nodes-requires-clause-codes : goal.new_nodes-requires-clause-codes
new_nodes-requires-clause-codes g c = planned_codes c.args.new.now.tables.now.lists c.args.new.now.edit.now c.requires.sound c.requires.passes (graph_after c.args.bill c.args.stored.now.bill) c.requires.of

pub returns-clause-plan : goal.returns-clause-plan
returns-clause-plan g c =
    leaves c.args.new.now.tables.now.lists c.args.new.now.edit.now c.args.stored.now c.requires.stored c.args.bill c.requires.plan c.requires.of c.args.names c.requires.names c.in_ok-nodes.nodes c.in_ok-nodes.ensures
    c.in_ok-room.room (subst (λ nodes. IsRoomFor (length nodes) c.args.stored.now.index c.in_ok-room.room) c.as_slice.ensures c.in_ok-room.ensures) c.in_ok-rollups.rollups
    (subst (λ names. IsRolledFor c.args.new.now.tables.now.lists c.args.new.now.edit.now (graph_after c.args.bill c.args.stored.now.bill) names c.args.stored.now.rollups c.in_ok-rollups.rollups)
    (c.chosen-all.ensures ∙ ap (unwrap_or c.args.names) c.as_slice-2.ensures) c.in_ok-rollups.ensures.rolled) c.in_ok-years.years c.in_ok-years.ensures.years
