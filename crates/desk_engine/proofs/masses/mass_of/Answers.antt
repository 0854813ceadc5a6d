use Rattle.std.proofs.Common.{◌<◌, ◌∙◌, ap, length, subst, sym}
use Rattle.desk_rollup.specs.Values.{rolled_at}
use Rattle.desk_bridge.proofs.Indexes.{node_found}
use Rattle.desk_engine.proofs.Weights.{has_values, mass_at}
use Rattle.desk_engine.proofs.masses.mass_of.Goals as goal

pub peek-requires : goal.peek-requires
peek-requires g c =
    let is = node_found c.args.bill.now.labels c.args.index.now.rows c.requires.index c.args.code.now (c.requires.numbered.taken c.args.code.now ∙ c.requires.kept) c.node_of.result c.node_of.ensures.node c.in-Some.node c.in-Some.is in
    subst (λ node. node < length c.args.rollups.now.rolled) (sym is) (has_values c.args._tables.now.lists c.args.bill.now c.args.rollups.now c.requires.numbered c.requires.masses c.args.code.now c.requires.kept)

pub returns-clause-mass : goal.returns-clause-mass
returns-clause-mass g c =
    let is = node_found c.args.bill.now.labels c.args.index.now.rows c.requires.index c.args.code.now (c.requires.numbered.taken c.args.code.now ∙ c.requires.kept) c.node_of.result c.node_of.ensures.node c.in-Some.node c.in-Some.is in
    ap (λ values. values.weight) (c.behind-rollups.view_is ∙ c.peek.ensures.values)
    ∙ ap (λ node. (rolled_at c.args.rollups.now.rolled node).weight) is
    ∙ mass_at c.args._tables.now.lists c.args.bill.now c.args.rollups.now c.requires.numbered c.requires.masses c.args.code.now c.requires.kept
