use Rattle.std.proofs.Common.{◌<◌, arith, length}
use Rattle.desk_engine.proofs.Listed.{each_at}
use Rattle.desk_engine.proofs.chained.codes_at.Goals as goal

pub kept_label-requires-clause-there : goal.kept_label-requires-clause-there
kept_label-requires-clause-there c =
    each_at (λ node. node < length c.args.stored.now.bill.labels) c.args.nodes.now c.loop-node.node-index _ c.requires.there (omega arith)
