use Rattle.std.proofs.Common.{subst}
use Rattle.desk_graph.specs.Graph.{label_of}
use Rattle.desk_rollup.specs.Values.{own_at}
use Rattle.desk_bridge.specs.AfterEdit.{AreOwnOf}
use Rattle.desk_bridge.specs.Numbers.{finding_number}
use Rattle.desk_engine.proofs.Weights.{kept_masses}
use Rattle.desk_engine.proofs.start.stored_from.Goals as goal

pub years_of-requires-clause-masses : goal.years_of-requires-clause-masses
years_of-requires-clause-masses g c =
    kept_masses c.args.tables.now.lists c.requires.sound c.in_ok-bill.field-0.bill c.node_count.ensures.bill c.in_ok-bill.ensures.bill c.in_ok-names.names c.in_ok-names.ensures.named c.in_ok-rollups.rollups
    (subst (λ names. AreOwnOf c.args.tables.now.lists c.in_ok-bill.field-0.bill (finding_number c.in_ok-bill.field-0.bill.labels names) (label_of names) (own_at c.in_ok-rollups.rollups.owns)) c.as_slice.ensures c.in_ok-rollups.ensures.owns) c.in_ok-rollups.ensures.rolled

pub returns : goal.returns
returns g c = record {
  of = record {
    bill = c.in_ok-bill.ensures.bill;
    index = c.in_ok-bill.ensures.index;
    named = c.in_ok-names.ensures;
    owns = subst (λ names. AreOwnOf c.args.tables.now.lists c.in_ok-bill.field-0.bill (finding_number c.in_ok-bill.field-0.bill.labels names) (label_of names) (own_at c.in_ok-rollups.rollups.owns)) c.as_slice.ensures c.in_ok-rollups.ensures.owns;
    years = c.in_ok-years.ensures;
  };
  rolled = c.in_ok-rollups.ensures.rolled;
}
