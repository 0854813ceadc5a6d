use Rattle.std.proofs.Common.{subst}
use Rattle.desk_graph.specs.Planned.{graph_after}
use Rattle.desk_model.specs.Effect.{with_edit_entered}
use Rattle.desk_bridge.specs.Years.{entries_of}
use Rattle.desk_engine.specs.Years.{IsYearsFault}
use Rattle.desk_engine.proofs.Planned.{refused_year, unrefused}
use Rattle.desk_engine.proofs.planning.judge_years.Goals as goal

pub returns-in-Ok-clause-unrefused : goal.returns-in-Ok-clause-unrefused
returns-in-Ok-clause-unrefused g c =
    unrefused c.args.new.now.tables.now.lists c.args.new.now.edit.now c.requires.passes (graph_after c.args.plan.now c.args.stored.now.bill) c.requires.rolled.0 c.args.stored.now c.args.rollups.now c.requires.rolled.1 c.in-Ok.ensures.plan.light

pub returns-in-Err-TooLarge-clause-fault : goal.returns-in-Err-TooLarge-clause-fault
unfolding Rattle.desk_tables.specs.Judged.IsRefusal
returns-in-Err-TooLarge-clause-fault g c =
    refused_year c.args.new.now.tables.now.lists c.args.new.now.edit.now c.requires.passes (graph_after c.args.plan.now c.args.stored.now.bill) c.requires.rolled.0 c.args.stored.now c.args.rollups.now c.requires.rolled.1 c.in-Err-TooLarge.year
    (subst (IsYearsFault (entries_of (with_edit_entered c.args.new.now.tables.now.lists c.args.new.now.edit.now))) c.in-Err-TooLarge.field-0-is c.in-Err-TooLarge.ensures.fault)
