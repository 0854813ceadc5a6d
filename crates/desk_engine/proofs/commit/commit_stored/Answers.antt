use Rattle.std.proofs.Common.{◌∙◌, ap}
use Rattle.desk_graph.specs.Planned.{graph_after}
use Rattle.desk_engine.specs.Planned.{nodes_with}
use Rattle.desk_engine.proofs.Committed.{committed}
use Rattle.desk_engine.proofs.commit.commit_stored.Goals as goal

pub returns : goal.returns
returns c = λ u left.
    let after = graph_after c.args.plan.bill c.args.stored.now.bill in
    committed u c.args.stored.now (record { bill = c.commit.new.self; index = c.add_all.new.self; rollups = c.commit-2.new.self; years = c.commit_years.new.years; names = c.exchange.new.names }) c.args.plan left c.commit.ensures
    (c.add_all.ensures ∙ ap (λ nodes. nodes_with nodes c.args.stored.now.index.rows) c.into_vec.ensures) (c.commit-2.ensures.rolled after c.args.plan.rollups.owns left.rollups) (c.commit-2.ensures.owns after c.args.plan.rollups.owns left.rollups) c.exchange.ensures c.commit_years.ensures
