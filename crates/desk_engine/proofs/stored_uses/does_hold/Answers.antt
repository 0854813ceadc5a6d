use Rattle.std.proofs.Common.{◌∙◌, ap, false}
use Rattle.std.specs.Prelude.{slice_index_or}
use Rattle.desk_bridge.specs.Bridge.{node_of}
use Rattle.desk_engine.proofs.Uses.{reached_alike}
use Rattle.desk_engine.proofs.stored_uses.does_hold.Goals as goal

pub returns : goal.returns
returns c =
    ap (λ node. slice_index_or c.args.marks.now node false) c.kept_node-node.ensures.node
    ∙ c.requires.marks.tells (node_of c.args.stored.now.bill.labels c.args.part.now)
    ∙ reached_alike c.args.tables.now.lists c.requires.sound.consistent c.args.stored.now.bill c.requires.bill c.requires.stored.of.bill c.args.part.now c.args._code.now c.requires.part c.requires.code
